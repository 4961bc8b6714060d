-- A roster as its callers see it.
use Rattle.iio_kfifo.specs.declared.tail.Tail.{Ghosts}
use Rattle.iio_device.specs.declared.roster.Roster.{Roster}
use Rattle.iio_device.specs.Roster.{Standing}
use Rattle.iio_device.specs.Sound.{bits_of}

-- its members and what belongs to them, without its tables and its room
abbrev pub standing_of : {Q : Type 0} {g : Ghosts Q} → Roster Q g → Standing Q
standing_of r = record { shape = r.shape; active = bits_of r.active; captures = r.captures; next = r.next; members = r.members.items }
