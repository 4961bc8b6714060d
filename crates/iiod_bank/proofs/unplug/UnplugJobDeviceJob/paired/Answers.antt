use Rattle.iio_device.specs.Plug.{driver_of}
use Rattle.iio_device.specs.Device.{view_of}
use Rattle.iiod_bank.proofs.UnplugLaws.{begins, emptied, first_is, goes_on, kept_gone, kept_twice, none_left, smaller}
use Rattle.iiod_bank.proofs.unplug.UnplugJobDeviceJob.paired.Goals as goal

pub loop-member-init : goal.loop-member-init
loop-member-init g c =
    begins (view_of (driver_of (λ p. (g.dyn-1.0.entry p.vtable).1.driver p.value)) c.unplug-was_plugged.new.self) c.args.trigger.now

pub loop-member-smaller-in-Some-leave : goal.loop-member-smaller-in-Some-leave
loop-member-smaller-in-Some-leave g c =
    smaller (view_of (driver_of (λ p. (g.dyn-1.0.entry p.vtable).1.driver p.value)) c.loop-member.device)
    (view_of (driver_of (λ p. (g.dyn-1.0.entry p.vtable).1.driver p.value)) c.leave.new.self) c.loop-member.trigger c.leave.new.trigger c.in-Some.member.number
    c.in-Some-leave.writer (first_is _ _ c.in-Some.member c.first_member.ensures c.in-Some.is) c.in-Some-leave.ensures

pub loop-member-preserved-in-Some-leave : goal.loop-member-preserved-in-Some-leave
loop-member-preserved-in-Some-leave g c =
    goes_on _ _ _ _ _ _ c.in-Some.member.number c.in-Some-leave.writer c.loop-member.invariant
    (first_is _ _ c.in-Some.member c.first_member.ensures c.in-Some.is) c.in-Some-leave.ensures

pub returns-clause-makes : goal.returns-clause-makes
returns-clause-makes g c = (
  c.unplug-was_plugged.ensures.answer,
  emptied _ _ _ _ _ c.unplug-was_plugged.ensures.state c.loop-member.invariant
      (none_left _ _ c.first_member.ensures c.in_default.is),
)

pub returns-clause-kept : goal.returns-clause-kept
returns-clause-kept g c = kept_twice _ _ _ (kept_gone _ _ c.unplug-was_plugged.ensures.state) c.loop-member.invariant.kept
