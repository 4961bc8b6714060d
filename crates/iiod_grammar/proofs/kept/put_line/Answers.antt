use Rattle.std.proofs.Common.{◌-◌, ◌++◌, ◌∙◌, length, take, drop, ap, rules}
use borrow.Rule.Slice.PartMut.{put_mid}
use Rattle.iio_text.proofs.PrintedLemmas.{take_grown}
use Rattle.iiod_grammar.proofs.kept.put_line.Goals as goal

pub returns-clause-bytes : goal.returns-clause-bytes
returns-clause-bytes c =
    let grown = c.deref_mut.result.now in
    let room = c.copy_line.new.room in
    let rest = length grown - c.args.at in
    let n = c.copy_line.result in
    take_grown c.args.at rest n c.args.room.now.len grown room (drop (length (put_mid c.args.at rest grown room)) c.args.room.now.items) (search rules)
    (search rules) (search rules)
    ∙ ap (λ t. take c.args.at t ++ take n room) c.deref_mut.ensures.value
    ∙ ap (λ t. take c.args.at c.args.room.now.items ++ t) c.copy_line.ensures.copied
