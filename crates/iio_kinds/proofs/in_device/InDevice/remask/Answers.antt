use Rattle.iio_device.specs.Plug.{driver_of}
use Rattle.iio_kinds.specs.Station.{station_by}
use Rattle.std.proofs.Common.{refl, sym, ◌∙◌}
use Rattle.iio_core.specs.Calls.{station_after_remask}
use Rattle.iio_kinds.specs.Acting.{id_of}
use Rattle.iio_kinds.specs.Inner.{inner_at}
use Rattle.iio_kinds.specs.Remasking.{remask_answer}
use Rattle.iio_kinds.proofs.InnerLemmas.{acts_named, named, none_there, remask_answer_named, remasked_named}
use Rattle.iio_kinds.proofs.InnerJoins.{remask_refused, remasked_facts}
use Rattle.iio_kinds.proofs.KeepLemmas.{keeps_captures}
use Rattle.iio_kinds.proofs.in_device.InDevice.remask.Goals as goal

pub returns-then-not-is_inner-clause-acts : goal.returns-then-not-is_inner-clause-acts
returns-then-not-is_inner-clause-acts g c =
    let drive = driver_of (λ b. (g.dyn-1.0.entry b.vtable).1.driver b.value) in
    acts_named c.args.self.now.inners.items (station_after_remask c.args.seat.now.number c.args.mask.bits c.args.seat.now.capacity)
    (remask_answer c.args.self.now.device.core.roster.shape (station_by drive c.args.self.now.device) (id_of c.args.seat.now.number c.args.seat.now.mask)
    c.args.mask.bits) (remask_answer c.args.self.now.device.core.roster.shape (named c.args.self.now.inners.items (station_by drive c.args.self.now.device))
    (id_of c.args.seat.now.number c.args.seat.now.mask) c.args.mask.bits) c.remask.result (station_by drive c.args.self.now.device)
    (station_by drive c.remask.new.device)
    (remask_answer_named c.args.self.now.inners.items c.args.seat.now.number
    (none_there (inner_at c.args.self.now.inners.items c.args.seat.now.number) (sym c.is_inner.ensures ∙ c.if-not-is_inner.true))
    (station_by drive c.args.self.now.device) c.args.self.now.device.core.roster.members.items refl c.args.self.now.device.core.roster.shape
    c.args.seat.now.mask.bits c.args.mask.bits)
    (remasked_named c.args.self.now.inners.items c.args.seat.now.number
    (none_there (inner_at c.args.self.now.inners.items c.args.seat.now.number) (sym c.is_inner.ensures ∙ c.if-not-is_inner.true))
    (station_by drive c.args.self.now.device) c.args.self.now.device.core.roster.members.items refl c.args.mask.bits c.args.seat.now.capacity)
    c.remask.ensures.acts

pub returns-then-not-is_inner-clause-keeps : goal.returns-then-not-is_inner-clause-keeps
returns-then-not-is_inner-clause-keeps g c =
    let drive = driver_of (λ b. (g.dyn-1.0.entry b.vtable).1.driver b.value) in
    keeps_captures drive _ _ c.remask.ensures.keeps

pub invariant_of-self : goal.invariant_of-self
invariant_of-self g c =
    let drive = driver_of (λ b. (g.dyn-1.0.entry b.vtable).1.driver b.value) in
    record {
      sound =
          remasked_facts c.args.self.now.device.core.roster.shape c.remask.new.device.core.roster.shape c.args.self.now.inners.items c.args.self.now.room.items
          c.args.self.now.device.core.roster.members.items c.remask.new.device.core.roster.members.items
          c.args.seat.now.number c.args.mask.bits c.args.seat.now.capacity c.remask.ensures.keeps.device.shape
          (remask_answer c.args.self.now.device.core.roster.shape (station_by drive c.args.self.now.device) (id_of c.args.seat.now.number c.args.seat.now.mask)
          c.args.mask.bits) c.remask.result (station_by drive c.args.self.now.device) (station_by drive c.remask.new.device) refl refl
          (none_there (inner_at c.args.self.now.inners.items c.args.seat.now.number) (sym c.is_inner.ensures ∙ c.if-not-is_inner.true)) c.remask.ensures.acts
          c.args.self.now.sound;
    }

pub returns-then-plugged-clause-acts : goal.returns-then-plugged-clause-acts
returns-then-plugged-clause-acts g c =
    let drive = driver_of (λ b. (g.dyn-1.0.entry b.vtable).1.driver b.value) in
    let own = c.args.self.now in
    remask_refused own.device.core.roster.shape own.inners.items (station_by drive own.device) own.device.core.roster.members.items c.args.seat.now.number
    c.args.seat.now.mask.bits c.args.mask.bits c.args.seat.now.capacity refl (sym c.plugged.ensures ∙ c.if-plugged.true)
    (sym c.is_inner.ensures ∙ c.if-not-is_inner.false)
