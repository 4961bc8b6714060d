use Rattle.std.proofs.Common.{◌≡◌, ap, refl, sym, ◌∙◌, take, slice_index_or, arith}
use Rattle.std.proofs.lemmas.List.{get_or_default, take_all}
use Rattle.iio_device.specs.Plug.{driver_of}
use Rattle.iio_device.specs.Site.{is_empty}
use Rattle.iio_device.specs.Device.{view_of}
use Rattle.iio_kinds.specs.declared.in_device.Inner.{Inner}
use Rattle.iio_kinds.specs.Station.{station_by}
use Rattle.iio_kinds.specs.Taking.{all_taken}
use Rattle.iio_kinds.proofs.TakeAllLemmas.{first_taken, next_apart, next_keeps, next_more, next_own, next_room, next_roomy, next_station, next_there}
use Rattle.iio_kinds.proofs.inners.take_all.Goals as goal

pub loop-inner-init : goal.loop-inner-init
loop-inner-init g c =
    let drive = driver_of (λ b. (g.dyn-1.0.entry b.vtable).1.driver b.value) in
    record {
      station = first_taken (station_by drive c.args.device.now);
      keeps = record { device = record { name = refl; number = refl; shape = refl }; captures = refl };
      taken = λ scan waits some. absurd (cc);
      same = refl;
    }

pub loop-inner-preserved : goal.loop-inner-preserved
loop-inner-preserved g c =
    let drive = driver_of (λ b. (g.dyn-1.0.entry b.vtable).1.driver b.value) in
    let k = c.loop-inner.inner-index in
    let inners = c.args.inners.now in
    let less = c.loop-inner-test.true in
    let i : Inner = slice_index_or inners k (record { number = 0; average = 0 }) in
    let at : i ≡ slice_index_or inners k i = get_or_default inners k (record { number = 0; average = 0 }) i less in
    let first = view_of drive c.args.device.now in
    let v = view_of drive c.loop-inner.device in
    let v' = view_of drive c.take_inside-taken.new.self in
    let more = next_more k inners i less at in
    let apart = next_apart k inners i more c.requires.once in
    let own = next_own k inners i less at in
    let there = next_there k inners i c.args.device.now.core.roster.members.items less at c.requires.there in
    let room = c.loop-inner.invariant.same ∙ next_roomy k c.args.device.now.core.roster.shape inners c.args.room.now less c.requires.room in
    let numbers = c.loop-inner.device.core.roster.sound.numbers in
    record {
      station =
          next_station inners (take k inners) i first v v' c.loop-inner.room c.take_inside-taken.new.out c.take_inside-taken.result
          c.loop-inner.invariant.station c.loop-inner.invariant.keeps numbers there c.requires.whole own apart room c.take_inside-taken.ensures.taken
          c.take_inside-taken.ensures.rest
          ∙ ap (λ is. all_taken is (station_by drive c.args.device.now)) (sym more);
      keeps =
          next_keeps inners (take k inners) i first v v' c.loop-inner.room c.take_inside-taken.new.out c.take_inside-taken.result
          c.loop-inner.invariant.station c.loop-inner.invariant.keeps numbers there c.requires.whole own apart room c.take_inside-taken.ensures.taken
          c.take_inside-taken.ensures.rest;
      taken = λ scan waits some.
          next_room inners (take k inners) i first v v' c.loop-inner.room c.take_inside-taken.new.out c.take_inside-taken.result
          c.loop-inner.invariant.station c.loop-inner.invariant.keeps numbers there c.requires.whole own apart room c.take_inside-taken.ensures.taken
          c.take_inside-taken.ensures.rest scan waits;
      same = c.take_inside-taken.auto.out ∙ c.loop-inner.invariant.same;
    }

pub returns-clause-station : goal.returns-clause-station
returns-clause-station g c =
    let drive = driver_of (λ b. (g.dyn-1.0.entry b.vtable).1.driver b.value) in
    c.loop-inner.invariant.station
    ∙ ap (λ is. all_taken is (station_by drive c.args.device.now))
    (take_all c.loop-inner.inner-index c.args.inners.now (omega (arith, c.loop-inner-test.false)))

pub returns-clause-taken : goal.returns-clause-taken
returns-clause-taken g c = λ scan waits some.
    c.loop-inner.invariant.taken scan waits
    (ap (λ is. is_empty is) (take_all c.loop-inner.inner-index c.args.inners.now (omega (arith, c.loop-inner-test.false))) ∙ some)

pub returns-clause-keeps : goal.returns-clause-keeps
returns-clause-keeps g c = c.loop-inner.invariant.keeps

pub returns-clause-same : goal.returns-clause-same
returns-clause-same g c = c.loop-inner.invariant.same
