use Rattle.iio_device.specs.Plug.{driver_of}
use Rattle.std.proofs.Common.{sym, ap, length, ◌∙◌}
use Rattle.std.specs.Option.{option_map_or}
use Rattle.iio_kinds.specs.Inner.{inner_at}
use Rattle.iio_kinds.proofs.InnerLemmas.{found_none, lost_named, none_there, scans_named, scans_none}
use Rattle.iio_kinds.proofs.in_device.InDevice.counts.Goals as goal

pub returns-then-is_inner-clause-waiting : goal.returns-then-is_inner-clause-waiting
returns-then-is_inner-clause-waiting g c =
    let drive = driver_of (λ b. (g.dyn-1.0.entry b.vtable).1.driver b.value) in
    sym (ap (λ xs. length xs)
    (scans_none c.args.self.now.inners.items c.args.number (sym c.is_inner.ensures ∙ c.if-is_inner.true) c.args.mask.bits
    c.args.self.now.device.core.roster.members.items))

pub returns-then-is_inner-clause-lost : goal.returns-then-is_inner-clause-lost
returns-then-is_inner-clause-lost g c =
    let drive = driver_of (λ b. (g.dyn-1.0.entry b.vtable).1.driver b.value) in
    sym (ap (λ o. option_map_or (λ x. x.lost) o 0)
    (found_none c.args.self.now.inners.items c.args.number (sym c.is_inner.ensures ∙ c.if-is_inner.true) c.args.mask.bits
    c.args.self.now.device.core.roster.members.items))

pub returns-clause-waiting : goal.returns-clause-waiting
returns-clause-waiting g c =
    let drive = driver_of (λ b. (g.dyn-1.0.entry b.vtable).1.driver b.value) in
    c.counts.ensures.waiting
    ∙ ap (λ xs. length xs) (sym
    (scans_named c.args.self.now.inners.items c.args.number
    (none_there (inner_at c.args.self.now.inners.items c.args.number) (sym c.is_inner.ensures ∙ c.if-is_inner.false)) c.args.mask.bits
    c.args.self.now.device.core.roster.members.items))

pub returns-clause-lost : goal.returns-clause-lost
returns-clause-lost g c =
    let drive = driver_of (λ b. (g.dyn-1.0.entry b.vtable).1.driver b.value) in
    c.counts.ensures.lost ∙ sym
    (lost_named c.args.self.now.inners.items c.args.number
    (none_there (inner_at c.args.self.now.inners.items c.args.number) (sym c.is_inner.ensures ∙ c.if-is_inner.false)) c.args.mask.bits
    c.args.self.now.device.core.roster.members.items)
