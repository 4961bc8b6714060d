-- READBUF at a seat, by what its takes gave.
use Rattle.std.proofs.Common.{◌∙◌, ◌≡◌, ℕ, ◌≤◌, ◌<◌, Bool, true, false, cond, List, Option, IfSome, Result, Ok, Err, refl, ap, subst, arith, rules}
use Rattle.std.proofs.lemmas.Grind.{common_steps}
use Rattle.iio_base.specs.declared.Mem.{Mem}
use Rattle.iio_text.specs.declared.errors.Errno.TheVariants.{ENODEV, EAGAIN}
use Rattle.iiod_reply.specs.Reply.{Refusal, Block}
use Rattle.iiod_commands.specs.declared.iio.Took.{Took}
use Rattle.iiod_commands.specs.declared.iio.Took.TheVariants.{Scan, Empty, Gone}
use Rattle.iiod_commands.specs.declared.iio.No.{No}
use Rattle.iiod_commands.specs.Acts.{zero_reply}
use Rattle.iio_core.specs.Calls.{write_scans_of}
use Rattle.iiod_commands.specs.Client.{SeatState, seat_state_id}
use Rattle.iio_core.specs.Front.{Front, channel_count, size_at}
use Rattle.iio_core.specs.Machine.{Machine}
use Rattle.iiod_commands.specs.Performs.{ReadServed, ReadHeld, WritesHeld, taken_by}
use Rattle.iiod_commands.specs.Reading.{ReadSome, ReadNone, ReadEnds, most_scans, Reading, reading}
use Rattle.iiod_commands.specs.Seat.{Answers, SeatRecord, seat_id}

-- a seat takes from the queue of its member
pub id_is : (s : SeatState) (v : SeatRecord) → s.number ≡ v.number → v.mask ≡ s.mask → seat_state_id s ≡ seat_id v
id_is s v number under = rw (number, ← under) refl

-- less than one scan is asked for
pub served_less : (front : Front) (asked : ℕ) (s : SeatState) (told : Option Machine) (v : SeatRecord) (before after : List ℕ)
    → asked < size_at front s.dev s.mask → ReadServed front asked s (reading told v before) (reading told v after) zero_reply
served_less front asked s told v before after h = search rules

served_some : (front : Front) (asked : ℕ) (s : SeatState) (x y : Reading) (scans : List (List ℕ)) → seat_state_id s ≡ seat_id x.seat
    → size_at front s.dev s.mask ≤ asked
    → ReadSome s.dev (most_scans asked (size_at front s.dev s.mask) s.capacity) x.told y.told x.seat y.seat scans
    → ReadServed front asked s x y (Block (channel_count front s.dev) s.mask scans asked)
served_some front asked s x y scans same h r = search rules

served_none : (front : Front) (asked : ℕ) (gone : Bool) (s : SeatState) (x y : Reading) → seat_state_id s ≡ seat_id x.seat
    → size_at front s.dev s.mask ≤ asked → ReadNone s.dev gone x.told y.told x.seat y.seat
    → ReadServed front asked s x y (Refusal (cond gone ENODEV EAGAIN))
served_none front asked gone s x y same h r = grind (arith, common_steps)

-- an `Iio` answers to scans that are written what the definitions say of the seat
pub wrote_scans : (front : Front) (told told' : Option Machine) (s : SeatState) (v : SeatRecord) (payload : List ℕ) (r : Result ℕ No)
    → seat_state_id s ≡ seat_id v
    → IfSome told (λ m. Answers (write_scans_of front m s.dev (seat_id v) payload) m r told')
    → WritesHeld front payload told s (taken_by r) told'
wrote_scans front told told' s v payload r same a = search rules

pub read_ends : (front : Front) (asked : ℕ) (s : SeatState) (x y : Reading) (r : Result Took Mem)
    → s.number ≡ x.seat.number → x.seat.mask ≡ s.mask → x.seat.capacity ≡ s.capacity → size_at front s.dev s.mask ≤ asked
    → ReadEnds front s.dev asked x y r → ReadHeld front asked s x y r
read_ends front asked s x y (Ok Scan) number under bounded h e = (
  Block (channel_count front s.dev) s.mask e.0 asked,
  rw under at e.1,
  tt,
  served_some front asked s x y e.0 (id_is s x.seat number under) h
      (subst (λ (n : ℕ). ReadSome s.dev n x.told y.told x.seat y.seat e.0)
      (ap (λ (mask : ℕ). most_scans asked (size_at front s.dev mask) x.seat.capacity) under
      ∙ ap (λ (k : ℕ). most_scans asked (size_at front s.dev s.mask) k) bounded) e.2),
)
read_ends front asked s x y (Ok Empty) number under bounded h e = (e.0, served_none front asked false s x y (id_is s x.seat number under) h e.1)
read_ends front asked s x y (Ok Gone) number under bounded h e = (e.0, served_none front asked true s x y (id_is s x.seat number under) h e.1)
read_ends front asked s x y (Err fault) number under bounded h e = (e.0, e.1, ap (λ (v : SeatRecord). v.trace) e.2)
