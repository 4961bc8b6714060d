use Rattle.std.proofs.Common.{rules}
use Rattle.iio_script.proofs.KeepLaws.{step_kept, step_made, step_offends}
use Rattle.iio_script.proofs.keeping.keep_step.Goals as goal

pub returns-then-is_some-clause-keeps : goal.returns-then-is_some-clause-keeps
returns-then-is_some-clause-keeps g c = λ s h stands neutral.
    step_made _ c.solo_law.ensures.on s c.args.watched.now h _ c.args.offence.now c.is_some.result c.args.text.now.items c.clear.new.self.items
    c.step.new.self
    c.is_some.ensures c.if-is_some.true (c.in_ok-step.ensures.lines s h stands).1

pub returns-then-not-meets-clause-keeps : goal.returns-then-not-meets-clause-keeps
returns-then-not-meets-clause-keeps g c = λ s h stands neutral.
    step_offends _ c.solo_law.ensures.on s c.args.watched.now h _ c.args.offence.now c.is_some.result c.in_ok-meets.meets
    c.args.text.now.items c.clear-then-not-meets.new.self.items c.guarded.new.self
    c.is_some.ensures c.if-is_some.false neutral (λ so_far. c.in_ok-meets.ensures.meets s h stands so_far) c.if-not-meets.true
    (c.in_ok-meets.ensures.lines s h stands).1

pub returns-clause-keeps : goal.returns-clause-keeps
returns-clause-keeps g c = λ s h stands neutral.
    step_kept _ c.solo_law.ensures.on s c.args.watched.now h _ c.args.offence.now c.is_some.result c.in_ok-meets.meets
    c.args.text.now.items c.guarded.new.out.items c.truncate.new.self.items c.kept_len.result c.guarded.new.self
    c.is_some.ensures c.if-is_some.false neutral (λ so_far. c.in_ok-meets.ensures.meets s h stands so_far) c.if-not-meets.false
    (c.in_ok-meets.ensures.lines s h stands).1 (c.in_ok-meets.ensures.lines s h stands).0
    (search rules) c.truncate.ensures.items
