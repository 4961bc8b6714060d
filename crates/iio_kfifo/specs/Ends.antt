-- The two ends of a ring, as contracts see them, and what their calls make of them. (This project's own, over the kernel's kfifo
-- with one writer and one reader.)
use Rattle.std.specs.Prelude.{◌≡◌, ◌≢◌, ℕ, ◌+◌, ◌-◌, ◌^◌, ◌<◌, ◌≤◌, min, false, List, [], ◌∷◌, ◌++◌, length}
use Rattle.std.specs.List.{flat_map}
use Rattle.atomic_table.specs.Seated.{TableId}
use Rattle.atomic_table.specs.Table.{Me}
use Rattle.iio_kfifo.specs.declared.tail.Offered.{Offered}
use Rattle.iio_kfifo.specs.declared.tail.Offered.TheVariants.{Taken, Lost}
use Rattle.iio_kfifo.specs.declared.cell.Cell.{Cell}
use Rattle.iio_kfifo.specs.declared.reader.Ended.{Ended}
use Rattle.iio_kfifo.specs.declared.reader.Ended.TheVariants.{Whole, Cut}
use Rattle.iio_kfifo.specs.declared.view.Key.{Key}
use Rattle.iio_kfifo.specs.declared.view.Offer.TheVariants.{Accepted, Refused}
use Rattle.iio_kfifo.specs.declared.view.Part.{Part}
use Rattle.iio_kfifo.specs.declared.view.Part.TheVariants.{Writes, Reads}
use Rattle.iio_kfifo.specs.declared.view.Sent.{Sent}
use Rattle.iio_kfifo.specs.declared.view.Writing.{Writing}
use Rattle.iio_kfifo.specs.declared.view.Reading.{Reading}
use Rattle.iio_kfifo.specs.declared.view.View.{View}
use Rattle.iio_kfifo.specs.Offers.{accepted, lost_in}

-- the writer's end: which ring it is of, the bytes of a scan, the most scans that wait, and what the end knows
pub record WriterEnd : Type 0 where
  pub ring : TableId
  pub size : ℕ
  pub capacity : ℕ
  pub knows : Writing

-- the reader's end: which ring it is of, the bytes of a scan, the most scans that wait, and what the end knows
pub record ReaderEnd : Type 0 where
  pub ring : TableId
  pub size : ℕ
  pub capacity : ℕ
  pub knows : Reading

-- what is left of a writer that closed its ring: which ring it was, and what the writer knew
pub record WriterLeft : Type 0 where
  pub ring : TableId
  pub knows : Writing

-- ---- an offer

-- what one offer makes of what the writer knows. It is lost only if the load of this call showed as many scans waiting as
-- the ring has slots
abbrev pub Answers : ℕ → Writing → List ℕ → Offered → Writing → Type 0
Answers capacity w scan Taken w' =
    (length (accepted w.offers) < w'.seen + capacity) × (w' ≡ record w { offers = w.offers ++ Accepted scan ∷ []; seen = w'.seen; looks = w.looks + 1 })
Answers capacity w scan Lost w' =
    (length (accepted w.offers) ≡ w'.seen + capacity) × (w' ≡ record w { offers = w.offers ++ Refused ∷ []; seen = w'.seen; looks = w.looks + 1 })

-- what one offer makes of the writer's end: nothing changes but what it knows
abbrev pub Offers : WriterEnd → List ℕ → Offered → WriterEnd → Type 0
Offers old scan answer new = (new ≡ record old { knows = new.knows }) × Answers old.capacity old.knows scan answer new.knows

-- ---- takes

-- if the ring was seen closed, all that was ever accepted was received
abbrev pub AllReceived : Reading → Type 0
AllReceived r = r.word ≢ 0 → accepted r.offers ≡ r.received

-- the load of this call showed nothing left
pub record FindsNone (r r' : Reading) : Type 0 where
  pub knows : r' ≡ record r { seen = length r.received; left = 0; looks = r.looks + 1 }
  pub all : AllReceived r'

-- the next accepted scan was received, and `lost` offers were lost before it
pub record TakesOne (r : Reading) (scan : List ℕ) (lost : ℕ) (r' : Reading) : Type 0 where
  pub showed : 0 < r'.left
  pub knows : r' ≡ record r { received = r.received ++ record { scan = scan; lost = lost } ∷ []; seen = r'.seen; left = r'.left; looks = r.looks + 1 }

-- `given` scans were received after one load: as many as it showed, but at most `most`; their bytes were appended
pub record TakesRun (r : Reading) (most given : ℕ) (before after : List ℕ) (r' : Reading) : Type 0 where
  pub more : List Sent
  pub count : length more ≡ given
  pub within : given ≡ min most r'.left
  pub bytes : after ≡ before ++ flat_map (λ s. s.scan) more
  pub knows : r' ≡ record r { received = r.received ++ more; seen = r'.seen; left = r'.left; looks = r.looks + 1 }
  pub none : given ≡ 0 → AllReceived r'

-- `given` scans were received, and their bytes were appended
pub record TakesSome (r : Reading) (given : ℕ) (before after : List ℕ) (r' : Reading) : Type 0 where
  pub more : List Sent
  pub count : length more ≡ given
  pub bytes : after ≡ before ++ flat_map (λ s. s.scan) more
  pub knows : r' ≡ record r { received = r.received ++ more; seen = r'.seen; left = r'.left; looks = r'.looks }
  pub looks : r.looks ≤ r'.looks

-- `given` scans were received by this call, and their bytes were appended. They are fewer than `most` only if the last load
-- of this call showed nothing left
pub record TakesScans (r : Reading) (most given : ℕ) (before after : List ℕ) (r' : Reading) : Type 0 where
  pub takes : TakesSome r given before after r'
  pub within : given ≤ most
  pub short : given < most → (r.looks < r'.looks) × (r'.left ≡ 0) × AllReceived r'

-- ---- the closed word

-- the load of this call showed the ring open
pub record AsksOpen (r r' : Reading) : Type 0 where
  pub knows : r' ≡ record r { word = 0; asks = r.asks + 1; looked = r.looks }

-- the load of this call showed the ring closed: `offers` are all that were ever made, and what was received and what is left
-- are all that were accepted
pub record AsksClosed (r r' : Reading) : Type 0 where
  pub left : List Sent
  pub parts : accepted r'.offers ≡ r.received ++ left
  pub word : r'.word ≡ lost_in r'.offers + 1
  pub again : r.word ≢ 0 → r'.offers ≡ r.offers
  pub knows : r' ≡ record r { word = r'.word; asks = r.asks + 1; looked = r.looks; offers = r'.offers }

-- ---- what the private functions keep

-- a seat of that part holds no slot, and fits the ring's table
pub record Rests (part : Part) (z : TableId) (k : Key) (seat : TableId) (me : Me Cell View) : Type 0 where
  pub ring : seat ≡ z
  pub words : z.words ≡ 32
  pub slots : z.slots ≡ k.slots
  pub room : 0 < k.slots
  pub held : me.1 ≡ []
  pub is : me.0.part ≡ part
  pub size : me.0.size ≡ k.size

-- the writer's seat, between two of its calls: it holds no slot, and the ring is open
pub record WriterRests (z : TableId) (k : Key) (seat : TableId) (me : Me Cell View) : Type 0 where
  pub rests : Rests Writes z k seat me
  pub idle : me.0.writing.turn ≡ false
  pub still : me.0.writing.closed ≡ false

-- the reader's seat, between two of its calls: it holds no slot
pub record ReaderRests (z : TableId) (k : Key) (seat : TableId) (me : Me Cell View) : Type 0 where
  pub rests : Rests Reads z k seat me
  pub idle : me.0.reading.hand ≡ []

-- the numbers that a writer keeps are those of what it knows
pub record WriterCounts (k : Key) (w : Writing) (count lost slots size : ℕ) : Type 0 where
  pub slots_is : k.slots ≡ slots
  pub size_is : k.size ≡ size
  pub counted : count ≡ length (accepted w.offers)
  pub lost_is : lost ≡ lost_in w.offers
  pub fits : lost < 2 ^ 64 - 1

-- the numbers that a reader keeps are those of what it knows
pub record ReaderCounts (k : Key) (r : Reading) (count slots size : ℕ) : Type 0 where
  pub slots_is : k.slots ≡ slots
  pub size_is : k.size ≡ size
  pub counted : count ≡ length r.received

-- ---- the end of a reader

-- the number of scans received, with whether the load of this call showed the ring closed
abbrev pub Ends : Reading → Ended → Reading → Type 0
Ends r (Whole n) r' = (n ≡ length r.received) × AsksClosed r r'
Ends r (Cut n) r' = (n ≡ length r.received) × AsksOpen r r'
