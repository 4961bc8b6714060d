-- READ and WRITE at a device.
use Rattle.std.proofs.Common.{◌≡◌, ℕ, ◌+◌, ◌^◌, ◌<◌, ◌≤◌, Bool, true, false, List, [], ◌∷◌, ◌++◌, length, length-append, arith, slice_index_or, Option, Some, None, IfSome, is_some, if◌then◌else◌, Result, Ok, Err, refl, sym, rules}
use Rattle.std.proofs.lemmas.Fmt.{length-decimal-le}
use Rattle.std.specs.Prelude.{⊤}
use Rattle.std.specs.Fmt.{decimal}
use Rattle.iio_text.specs.declared.errors.Errno.{Errno}
use Rattle.iio_text.specs.declared.errors.Errno.TheVariants.{EINVAL, ENODEV}
use Rattle.iio_text.specs.declared.values.Fixed.{Fixed}
use Rattle.iio_text.specs.declared.values.Form.{Form}
use Rattle.iio_text.specs.declared.values.Form.TheVariants as form
use Rattle.iio_text.specs.Fixed.{part_text, printed_fixed}
use Rattle.iio_attr.specs.declared.attributes.Attr.{Attr}
use Rattle.iio_attr.specs.declared.attributes.Attr.TheVariants as attr
use Rattle.iio_attr.specs.declared.values.Value.TheVariants.{Number as StoredNumber}
use Rattle.iio_layout.specs.Shape.{ShapeRecord}
use Rattle.iiod_grammar.specs.Command.{Place, Read}
use Rattle.iiod_grammar.specs.Stream.{Said, Written}
use Rattle.iiod_reply.specs.Reply.{Reply, Refusal, Value, NoMemory}
use Rattle.iiod_commands.specs.declared.client.OpenSeat.{OpenSeat}
use Rattle.iiod_commands.specs.declared.iio.No.{No}
use Rattle.iiod_commands.specs.Acts.{act, at_device, only, read_attribute_at, read_buffer_attribute_at, read_device_attribute, read_named, write_attribute_at}
use Rattle.iiod_commands.specs.Attributes.{Assignment, Named, buffer_number, found, is_of_buffer, write_found}
use Rattle.iio_core.specs.Calls.{read_attr_of, write_attr_of}
use Rattle.iiod_commands.specs.Client.{AllHeld, ClientRecord, place_of, seats_of, with_seats, State, state}
use Rattle.iio_core.specs.Front.{Front, find_device, kind_at, shape_at}
use Rattle.iio_core.specs.Machine.{Machine, is_plugged, lost_of, queue_of}
use Rattle.iiod_commands.specs.Moves.{AnswersAs, Serves}
use Rattle.iiod_commands.specs.Performs.{Comes}
use Rattle.iiod_commands.specs.Seat.{Answers, SeatRecord, seat_id}
use Rattle.iiod_commands.specs.Targets.{written_by}
use Rattle.iiod_commands.proofs.SeatsLaws.{get_is}
use Rattle.iiod_commands.proofs.ServeLaws.{serves_at}
use Rattle.iiod_commands.specs.Reading.{reading}

-- ---- an attribute of the device

-- reading a stored number changes nothing
still : (front : Front) (m : Machine) (dev : ℕ) (channel : Option ℕ) (a : Attr) (v : Fixed) → (read_attr_of front m dev channel a).answer ≡ Ok (StoredNumber v)
    → (read_attr_of front m dev channel a).machine ≡ m
unfolding read_attr_of
still front m dev channel a v e = search rules

-- a stored number whose digits there was no memory for
pub said_short : (front : Front) (told told' : Option Machine) (client : ClientRecord) (dev : ℕ) (target : Named) (v : Fixed)
    → IfSome told (λ m. Answers (read_attr_of front m dev target.channel target.attribute) m (Ok (StoredNumber v)) told')
    → IfSome told (λ m. Comes m client (read_device_attribute front m client dev target) NoMemory told' client)
said_short front told told' client dev target v a = search (rules, still)

-- ---- an attribute of a buffer

module _ {S : Type 0} (seen : S → SeatRecord) where
  -- a seat that is held has its mask
  pub held_under : (front : Front) (held : List (OpenSeat S)) (i : ℕ) (h : OpenSeat S) → i < length held → h ≡ slice_index_or held i h → AllHeld seen front held
      → (seen h.seat).mask ≡ h.mask.bits
  held_under front held i h l e all = search rules

  pub counted : (told told' : Option Machine) (base : ClientRecord) (dev i n : ℕ) (a : Attr) (held : List (OpenSeat S)) (h : OpenSeat S)
      → place_of dev (seats_of seen held) ≡ Some i → i < length held → h ≡ slice_index_or held i h → (seen h.seat).mask ≡ h.mask.bits
      → IfSome told (λ m. n ≡ buffer_number a h.capacity (length (queue_of m h.dev (seat_id (seen h.seat)))) (lost_of m h.dev (seat_id (seen h.seat)))
      h.discarded)
      → IfSome told (λ m. told' ≡ Some m)
      → IfSome told (λ m. Comes m (with_seats (seats_of seen held) base)
      (read_buffer_attribute_at m (with_seats (seats_of seen held) base) a (place_of dev (seats_of seen held)))
      (Value (decimal n)) told' (with_seats (seats_of seen held) base))
  counted told told' base dev i n a held h at l e under v t = search (rules, get_is)

-- ---- the code finds what the definitions say

pub reads_found : (front : Front) (told told' : Option Machine) (client : ClientRecord) (dev : ℕ) (place : Place) (name : Option (List ℕ))
    (is_open plugged of_buffer : Bool) (shape : ShapeRecord) (w : Result Named Errno) (reply : Reply)
    → is_open ≡ is_some (place_of dev client.seats) → IfSome told (λ m. plugged ≡ is_plugged m dev) → shape ≡ shape_at front dev
    → of_buffer ≡ is_of_buffer place name
    → w ≡ found (kind_at front dev) shape plugged is_open place name
    → IfSome told (λ m. Comes m client (read_named front m client dev of_buffer w) reply told' client)
    → IfSome told (λ m. Comes m client (read_attribute_at front m client place name dev) reply told' client)
reads_found front told told' client dev place name is_open plugged of_buffer shape w reply e0 e1 e2 e3 e c = search rules

-- ---- the commands

pub serves_read_attribute : (front : Front) (a b : State) (device : List ℕ) (place : Place) (name : Option (List ℕ)) (dev : ℕ) (reply : Reply)
    → Some dev ≡ find_device front device
    → IfSome a.told (λ m. Comes m a.client (read_attribute_at front m a.client place name dev) reply b.told a.client)
    → b.client ≡ a.client → b.traces ≡ a.traces → AnswersAs front (Said (Ok (Read device place name))) reply
    → Serves front a (Said (Ok (Read device place name))) reply b
serves_read_attribute front a b device place name dev reply e c d t formed =
    serves_at front a b (Read device place name) dev reply e (rw (sym e) tt) formed (rw d c) (d, t)

written_is : (front : Front) (m : Machine) (client : ClientRecord) (device : List ℕ) (place : Place) (name : Option (List ℕ)) (payload : List ℕ) (o : Option ℕ)
    → o ≡ find_device front device
    → act front m client (Written device (Some (place, name)) payload) ≡ at_device m client (λ dev. write_attribute_at front m client place name payload dev) o
unfolding act
written_is front m client device place name payload o e = cc

pub serves_write_attribute : (front : Front) (a : State) (told' : Option Machine) (device : List ℕ) (place : Place) (name : Option (List ℕ)) (payload : List ℕ)
    (dev : ℕ) (r : Result ⊤ No)
    → Some dev ≡ find_device front device
    → IfSome a.told (λ m. Comes m a.client (write_attribute_at front m a.client place name payload dev) (written_by (length payload) r) told' a.client)
    → Serves front a (Written device (Some (place, name)) payload) (written_by (length payload) r) (state told' a.client a.traces)
serves_write_attribute front a told' device place name payload dev r e c = search (rules, written_is)

-- at a device that isn't there
pub serves_unwritten : (front : Front) (a : State) (device : List ℕ) (place : Place) (name : Option (List ℕ)) (payload : List ℕ)
    → None ≡ find_device front device → Serves front a (Written device (Some (place, name)) payload) (Refusal ENODEV) a
serves_unwritten front a device place name payload e = search (rules, written_is)

-- a WRITE whose words name nothing
nameless_is : (front : Front) (m : Machine) (client : ClientRecord) (device payload : List ℕ)
    → act front m client (Written device None payload) ≡ only (Refusal EINVAL) m client
unfolding act
nameless_is front m client device payload = refl

pub serves_nameless : (front : Front) (a : State) (device payload : List ℕ) → Serves front a (Written device None payload) (Refusal EINVAL) a
serves_nameless front a device payload = search (rules, nameless_is)

-- ---- refusals

pub reads_refused : (front : Front) (told : Option Machine) (client : ClientRecord) (dev : ℕ) (place : Place) (name : Option (List ℕ)) (is_open plugged : Bool)
    (shape : ShapeRecord) (errno : Errno)
    → is_open ≡ is_some (place_of dev client.seats) → IfSome told (λ m. plugged ≡ is_plugged m dev) → shape ≡ shape_at front dev
    → Err errno ≡ found (kind_at front dev) shape plugged is_open place name
    → IfSome told (λ m. Comes m client (read_attribute_at front m client place name dev) (Refusal errno) told client)
reads_refused front told client dev place name is_open plugged shape errno e0 e1 e2 e = search rules

pub writes_refused : (front : Front) (told : Option Machine) (client : ClientRecord) (dev : ℕ) (place : Place) (name : Option (List ℕ)) (payload : List ℕ)
    (is_open plugged : Bool) (shape : ShapeRecord) (errno : Errno)
    → is_open ≡ is_some (place_of dev client.seats) → IfSome told (λ m. plugged ≡ is_plugged m dev) → shape ≡ shape_at front dev
    → Err errno ≡ write_found (kind_at front dev) shape plugged is_open place name payload
    → IfSome told (λ m. Comes m client (write_attribute_at front m client place name payload dev) (Refusal errno) told client)
writes_refused front told client dev place name payload is_open plugged shape errno e0 e1 e2 e = search rules

pub writes : (front : Front) (told told' : Option Machine) (client : ClientRecord) (dev : ℕ) (place : Place) (name : Option (List ℕ)) (payload : List ℕ)
    (is_open plugged : Bool) (shape : ShapeRecord) (x : Assignment) (r : Result ⊤ No)
    → is_open ≡ is_some (place_of dev client.seats) → IfSome told (λ m. plugged ≡ is_plugged m dev) → shape ≡ shape_at front dev
    → Ok x ≡ write_found (kind_at front dev) shape plugged is_open place name payload
    → IfSome told (λ m. Answers (write_attr_of m dev x.target.channel x.target.attribute x.value) m r told')
    → IfSome told (λ m. Comes m client (write_attribute_at front m client place name payload dev) (written_by (length payload) r) told' client)
writes front told told' client dev place name payload is_open plugged shape x r e0 e1 e2 e a = search rules

-- ---- the length of a value's text

short_part : (f : Form) (part : ℕ) → length (part_text f part) ≤ 10
short_part f part = search rules

-- the length of a stored number's text
pub short_fixed : (v : Fixed) → v.whole < 2 ^ 32 → length (printed_fixed v) ≤ 32
short_fixed v less = by v.negative
  where
    tail : length (decimal v.whole ++ part_text v.form v.part) ≤ 20
    tail =
        let digits = length-decimal-le 10 v.whole (omega arith) (omega (arith, less)) (omega (arith, less)) in
        omega (arith, digits, short_part v.form v.part, length-append (decimal v.whole) (part_text v.form v.part))

    by : (negative : Bool) → length ((if negative then 45 ∷ [] else []) ++ decimal v.whole ++ part_text v.form v.part) ≤ 32
    by true = omega (arith, tail)
    by false = omega (arith, tail)
