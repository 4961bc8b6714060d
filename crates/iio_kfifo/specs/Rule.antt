-- The rule of a ring: what holds between any two steps of its ends. Public clauses cite of it only what a new ring's ends know.
-- (This project's own; the counts `in` and `out` are those of the kernel's linux/kfifo.h.)
use Rattle.std.specs.Prelude.{◌≡◌, ◌≢◌, ◌⊎◌, ℕ, ◌+◌, ◌%◌, ◌^◌, ◌<◌, ◌≤◌, Bool, true, false, List, [], ◌∷◌, ◌++◌, length, take, slice_index, slice_index_or}
use mathlib.Core.Option.{Option, some}
use lib.ListN.{get_elem?}
use Rattle.atomic_table.specs.Table.{State}
use Rattle.iio_kfifo.specs.declared.cell.Cell.{Cell}
use Rattle.iio_kfifo.specs.declared.view.Key.{Key}
use Rattle.iio_kfifo.specs.declared.view.Part.{Part}
use Rattle.iio_kfifo.specs.declared.view.Part.TheVariants.{Fresh, Writes, Reads, Joined, Spent}
use Rattle.iio_kfifo.specs.declared.view.Sent.{Sent}
use Rattle.iio_kfifo.specs.declared.view.Writing.{Writing}
use Rattle.iio_kfifo.specs.declared.view.Reading.{Reading}
use Rattle.iio_kfifo.specs.declared.view.View.{View}
use Rattle.iio_kfifo.specs.Offers.{accepted, lost_in}

-- the slot of the scan of that place
abbrev pub slot_of : Key → ℕ → ℕ
slot_of k i = i % k.slots

-- the scan of that place, with the number lost before it
abbrev pub sent_at : List Sent → ℕ → Sent
sent_at xs i = slice_index_or xs i (record { scan = []; lost = 0 })

-- the scan in a slot, with the number lost before it
abbrev pub sent_of : Cell → Sent
sent_of c = record { scan = c.bytes.items; lost = c.lost }

-- the closed word: 0 while the ring is open, otherwise one more than the number lost
abbrev pub closed_word : Bool → ℕ → ℕ
closed_word false lost = 0
closed_word true lost = lost + 1

-- the place after the scans that the reader received and has in hand
abbrev pub far : Reading → ℕ
far r = length r.received + length r.hand

-- the slot is in hand at one of the ends
abbrev pub IsAway : Key → List Sent → Writing → Reading → ℕ → Type 0
IsAway k xs w r j = ((w.turn ≡ true) × (j ≡ slot_of k (length xs))) ⊎ ((i : ℕ) × (length r.received ≤ i) × (i < far r) × (j ≡ slot_of k i))

-- the three words, `in`, `out` and the closed one. The first and the third are the writer's, the second is the reader's
pub record Words (words : List ℕ) (taken given word : ℕ) : Type 0 where
  pub count : length words ≡ 32
  pub ins : slice_index words 0 ≡ taken
  pub outs : slice_index words 16 ≡ given
  pub closed : slice_index words 1 ≡ word

-- the slot is at home, with room for a scan
abbrev pub IsHome : Key → List (Option Cell) → ℕ → Type 0
IsHome k homes j = (c : Cell) × (get_elem? homes j ≡ some (some c)) × (length c.bytes.items ≡ k.size)

-- the slot of that place is at home, and has the scan
abbrev pub IsFull : Key → List (Option Cell) → ℕ → Sent → Type 0
IsFull k homes i s = (c : Cell) × (get_elem? homes (slot_of k i) ≡ some (some c)) × (length c.bytes.items ≡ k.size) × (sent_of c ≡ s)

-- what holds of the words, of the slots that are at home, of the accepted scans `xs`, and of what the writer and the reader
-- know
pub record Rings (k : Key) (words : List ℕ) (homes : List (Option Cell)) (xs : List Sent) (w : Writing) (r : Reading) : Type 0 where
  pub room : 0 < k.slots
  -- `in` counts the accepted scans, `out` the received ones
  pub counted : Words words (length xs) (length r.received) (closed_word w.closed (lost_in w.offers))
  pub within : (length r.received ≤ length xs) × (length xs ≤ length r.received + k.slots)
  -- what an end saw last of the other's word isn't above it, and the reader has nothing in hand that it didn't see
  pub saw : (w.seen ≤ length r.received) × (far r ≤ r.seen) × (r.seen ≤ length xs)
  -- what was received, and then what is in hand, is the beginning of what was accepted
  pub prefix : r.received ++ r.hand ≡ take (far r) xs
  pub turn : (w.turn ≡ true) → length xs < w.seen + k.slots
  pub count : length homes ≡ k.slots
  pub home : (j : ℕ) → j < k.slots → ¬ IsAway k xs w r j → IsHome k homes j
  -- each accepted scan that was neither received nor is in hand stands in the slot of its place
  pub full : (i : ℕ) → far r ≤ i → i < length xs → IsFull k homes i (sent_at xs i)
  -- the number of a scan among all offers fits a word
  pub sums : (i : ℕ) → i < length xs → i + (sent_at xs i).lost < 2 ^ 64
  -- what the reader saw of the closed word is 0 or is the word, and then it saw all offers
  pub told : (r.word ≢ 0) → (w.closed ≡ true) × (r.word ≡ lost_in w.offers + 1) × (r.offers ≡ w.offers)

-- ---- views

-- what the writer of a new ring knows
abbrev pub new_writing : Writing
new_writing = record { offers = []; turn = false; seen = 0; looks = 0; closed = false }

-- what the reader of a new ring knows
abbrev pub new_reading : Reading
new_reading = record { received = []; hand = []; seen = 0; left = 0; looks = 0; word = 0; asks = 0; looked = 0; offers = [] }

-- a view of a new ring, of that part, whose scans have `size` bytes
abbrev pub new_view : Part → ℕ → View
new_view p size = record { part = p; size = size; writing = new_writing; reading = new_reading }

-- the writer's view after the reader's was split off
abbrev pub writer_part : View → View
writer_part v = record v { part = Writes }

-- the reader's view that is split off
abbrev pub reader_part : View → View
reader_part v = record v { part = Reads }

-- both views in one
abbrev pub joined : View → View → View
joined w r = record { part = Joined; size = w.size; writing = w.writing; reading = r.reading }

-- what is left of a view that was joined to the other
abbrev pub spent : View
spent = new_view Spent 0

-- the ends are apart
pub record Apart (k : Key) (words : List ℕ) (homes : List (Option Cell)) (w r : View) : Type 0 where
  pub writes : w.part ≡ Writes
  pub reads : r.part ≡ Reads
  pub size : (w.size ≡ k.size) × (r.size ≡ k.size)
  pub rings : Rings k words homes (accepted w.writing.offers) w.writing r.reading

-- one view has both ends
pub record Whole (part : Part) (k : Key) (words : List ℕ) (homes : List (Option Cell)) (v : View) : Type 0 where
  pub is : v.part ≡ part
  pub size : v.size ≡ k.size
  pub rings : Rings k words homes (accepted v.writing.offers) v.writing v.reading

-- the rule, by the number of views: one before the split, then two, and one of the two is spent once they were joined
abbrev pub HoldsOf : Key → List ℕ → List (Option Cell) → List View → Type 0
HoldsOf k words homes [] = ⊥
HoldsOf k words homes (v ∷ []) = Whole Fresh k words homes v
HoldsOf k words homes (w ∷ r ∷ []) = Apart k words homes w r ⊎ (Whole Joined k words homes w × (r.part ≡ Spent))
HoldsOf k words homes (w ∷ r ∷ x ∷ xs) = ⊥

-- the rule of a ring's table
abbrev pub holds : Key → State Cell View → Type 0
holds k s = HoldsOf k s.words s.homes s.views
