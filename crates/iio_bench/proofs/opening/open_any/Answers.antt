use Rattle.std.proofs.Common.{◌∙◌, Bool, Some, ap, subst, sym}
use Rattle.std.specs.Prelude.{not}
use Rattle.iio_desc.specs.Kind.{is_average}
use Rattle.iio_device.specs.Plug.{driver_of}
use Rattle.iio_device.specs.Site.{is_empty}
use Rattle.iio_core.specs.Calls.{open_of}
use Rattle.iio_core.specs.Machine.{Station}
use Rattle.iiod_commands.specs.Seat.{Answers, number_by}
use Rattle.iio_bench.specs.Bench.{front_of, machine_of}
use Rattle.iio_bench.specs.Seat.{seen_of}
use Rattle.iio_kinds.specs.Station.{any_front, any_station, base_of}
use Rattle.iio_bench.proofs.ListLemmas.{element_at}
use Rattle.iio_bench.proofs.MeanOpenLemmas.{empty_then, never_cyclic, no_longer_empty}
use Rattle.iio_bench.proofs.OpenLemmas.{average_of, plain_of}
use Rattle.iio_bench.proofs.ToldLemmas.{kind_is, station_is}
use Rattle.iio_bench.proofs.opening.open_any.Goals as goal

pub open_plain-requires-clause-own : goal.open_plain-requires-clause-own
open_plain-requires-clause-own g c =
    ap is_average (kind_is any_front c.args.bench.now.context.items c.args.bench.now.described.items c.args.bench.now.devices.items c.args.dev
    c.index.result.now (element_at any_front _ _ _ c.requires.may_open.known c.index.ensures)) ∙ plain_of _ (sym c.in-None.ensures)

pub open_further-requires-clause-average : goal.open_further-requires-clause-average
open_further-requires-clause-average g c =
    (average_of _ c.in-Some.base (ap base_of (kind_is any_front c.args.bench.now.context.items c.args.bench.now.described.items
    c.args.bench.now.devices.items c.args.dev c.index.result.now (element_at any_front _ _ _ c.requires.may_open.known c.index.ensures)) ∙ sym
    c.in-Some.ensures))

pub open_further-requires-clause-member : goal.open_further-requires-clause-member
open_further-requires-clause-member g c =
    (no_longer_empty _ (sym (c.has_member.ensures ∙ ap (λ (st : Station). not (is_empty st.members)) (sym (station_is (any_station (driver_of (λ b.
    (g.dyn-1.0.entry b.vtable).1.driver b.value))) c.args.bench.now.clock _ c.args.bench.now.devices.items c.args.dev c.index-in-Some.result.now (element_at
    any_front _ _ _ c.requires.may_open.known c.index-in-Some.ensures)))) ∙ c.if-has_member.true))

pub open_first-requires-clause-over : goal.open_first-requires-clause-over
open_first-requires-clause-over g c =
    (ap base_of (kind_is any_front c.args.bench.now.context.items c.args.bench.now.described.items c.args.bench.now.devices.items c.args.dev
    c.index.result.now (element_at any_front _ _ _ c.requires.may_open.known c.index.ensures)) ∙ sym c.in-Some.ensures)

pub open_first-requires-clause-none : goal.open_first-requires-clause-none
open_first-requires-clause-none g c =
    (empty_then _ (sym (c.has_member.ensures ∙ ap (λ (st : Station). not (is_empty st.members)) (sym (station_is (any_station (driver_of (λ b.
    (g.dyn-1.0.entry b.vtable).1.driver b.value))) c.args.bench.now.clock _ c.args.bench.now.devices.items c.args.dev c.index-in-Some.result.now (element_at
    any_front _ _ _ c.requires.may_open.known c.index-in-Some.ensures)))) ∙ c.if-has_member.false))

pub returns-then-has_member-clause-told : goal.returns-then-has_member-clause-told
returns-then-has_member-clause-told g c =
    let drive = driver_of (λ b. (g.dyn-1.0.entry b.vtable).1.driver b.value) in
    subst (λ (cyclic : Bool). Answers (open_of (front_of c.args.bench.now) (machine_of drive c.args.bench.now) c.args.dev c.args.mask.bits c.args.capacity
    cyclic) (machine_of drive c.args.bench.now) (number_by seen_of c.open_further.result) (Some (machine_of drive c.open_further.new.bench)))
    (sym (never_cyclic _ c.args.cyclic (average_of _ c.in-Some.base (ap base_of (kind_is any_front c.args.bench.now.context.items
    c.args.bench.now.described.items c.args.bench.now.devices.items c.args.dev c.index.result.now (element_at any_front _ _ _ c.requires.may_open.known
    c.index.ensures)) ∙ sym c.in-Some.ensures)) c.requires.cycles)) c.open_further.ensures.told

pub returns-else-has_member-clause-told : goal.returns-else-has_member-clause-told
returns-else-has_member-clause-told g c =
    let drive = driver_of (λ b. (g.dyn-1.0.entry b.vtable).1.driver b.value) in
    subst (λ (cyclic : Bool). Answers (open_of (front_of c.args.bench.now) (machine_of drive c.args.bench.now) c.args.dev c.args.mask.bits c.args.capacity
    cyclic) (machine_of drive c.args.bench.now) (number_by seen_of c.open_first.result) (Some (machine_of drive c.open_first.new.bench))) (sym
    (never_cyclic _ c.args.cyclic (average_of _ c.in-Some.base (ap base_of (kind_is any_front c.args.bench.now.context.items c.args.bench.now.described.items
    c.args.bench.now.devices.items c.args.dev c.index.result.now (element_at any_front _ _ _ c.requires.may_open.known c.index.ensures)) ∙ sym
    c.in-Some.ensures)) c.requires.cycles)) c.open_first.ensures.told
