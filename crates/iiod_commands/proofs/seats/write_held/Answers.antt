use Rattle.std.proofs.Common.{refl}
use Rattle.iiod_commands.specs.Client.{seat_state_of}
use Rattle.iiod_commands.proofs.HeldLaws.{id_is, wrote_scans}
use Rattle.iiod_commands.proofs.seats.write_held.Goals as goal

pub returns-clause-told : goal.returns-clause-told
returns-clause-told g c =
    wrote_scans _ _ _ (seat_state_of g.I.Iio.seen c.args.h.now) (g.I.Iio.seen c.args.h.now.seat) _ _
    (id_is (seat_state_of g.I.Iio.seen c.args.h.now) (g.I.Iio.seen c.args.h.now.seat) refl c.requires.held.owned.under) c.write_scans.ensures.told
