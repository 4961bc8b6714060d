use Rattle.iio_device.specs.Plug.{driver_of}
use Rattle.iio_device.specs.Device.{view_of}
use Rattle.iio_kinds.proofs.JoinLemmas.{good_mask, joins_any, joins_keep, may_join}
use Rattle.iio_kinds.proofs.joining.join_input.Goals as goal

pub join-requires-clause-may : goal.join-requires-clause-may
join-requires-clause-may g c =
    may_join (view_of (driver_of (λ b. (g.dyn-1.0.entry b.vtable).1.driver b.value)) c.args.device.now) c.args.mask.bits c.args.trigger.now
    (good_mask c.args.device.now.core.roster.shape c.args.mask.bits c.requires.below c.requires.channel) c.requires.may

pub returns-clause-joins : goal.returns-clause-joins
returns-clause-joins g c =
    joins_any c.args.mask c.args.capacity c.join.result (view_of (driver_of (λ b. (g.dyn-1.0.entry b.vtable).1.driver b.value)) c.args.device.now)
    (view_of (driver_of (λ b. (g.dyn-1.0.entry b.vtable).1.driver b.value)) c.join.new.device) c.args.trigger.now c.join.new.trigger c.join.ensures

pub returns-clause-keeps : goal.returns-clause-keeps
returns-clause-keeps g c =
    joins_keep c.args.mask c.args.capacity c.join.result (view_of (driver_of (λ b. (g.dyn-1.0.entry b.vtable).1.driver b.value)) c.args.device.now)
    (view_of (driver_of (λ b. (g.dyn-1.0.entry b.vtable).1.driver b.value)) c.join.new.device) c.args.trigger.now c.join.new.trigger c.join.ensures
