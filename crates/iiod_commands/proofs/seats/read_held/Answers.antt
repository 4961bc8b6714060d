use Rattle.std.proofs.Common.{rules, refl}
use Rattle.iiod_commands.specs.Acts.{zero_reply}
use Rattle.iiod_commands.specs.Client.{seat_state_of}
use Rattle.iiod_commands.proofs.HeldLaws.{served_less, read_ends}
use Rattle.iiod_commands.proofs.seats.read_held.Goals as goal

pub returns-then-asked-h-clause-read : goal.returns-then-asked-h-clause-read
returns-then-asked-h-clause-read g c = (zero_reply, search rules, tt, served_less _ _ _ _ _ _ _ (search rules))

pub returns-clause-read : goal.returns-clause-read
returns-clause-read g c =
    read_ends _ _ (seat_state_of g.I.Iio.seen c.args.h.now) _ _ _ refl c.requires.held.owned.under c.requires.held.owned.bounded (search rules)
    c.read_sized.ensures.ends
