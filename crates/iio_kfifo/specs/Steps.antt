-- What each step shows the end that makes it. Cited by the steps and the private functions alone. (This project's own.)
use Rattle.std.specs.Prelude.{◌≡◌, ◌≢◌, ℕ, suc, ◌+◌, ◌-◌, ◌%◌, ◌^◌, ◌<◌, ◌≤◌, true, false, List, [], ◌∷◌, ◌++◌, length, take, drop}
use Rattle.atomic_table.specs.Table.{Me, Step}
use Rattle.iio_kfifo.specs.declared.cell.Cell.{Cell}
use Rattle.iio_kfifo.specs.declared.view.Offer.{Offer}
use Rattle.iio_kfifo.specs.declared.view.Offer.TheVariants.{Accepted, Refused}
use Rattle.iio_kfifo.specs.declared.view.Sent.{Sent}
use Rattle.iio_kfifo.specs.declared.view.Writing.{Writing}
use Rattle.iio_kfifo.specs.declared.view.Reading.{Reading}
use Rattle.iio_kfifo.specs.declared.view.View.{View}
use Rattle.iio_kfifo.specs.Offers.{accepted, lost_in}
use Rattle.iio_kfifo.specs.Rule.{sent_of}

-- the view after the writer learned this
abbrev pub with_writing : View → Writing → View
with_writing v w = record v { writing = w }

-- the view after the reader learned this
abbrev pub with_reading : View → Reading → View
with_reading v r = record v { reading = r }

-- ---- the writer's

-- the writer's load of `out`: a slot is in hand, or the offer is lost if the load showed as many scans waiting as there are
-- slots
pub data LookedOut (s : Step Cell) (a : Me Cell View) (n : ℕ) (b : Me Cell View) : Type 0 where
  Begins : (c : Cell) → length c.bytes.items ≡ a.0.size → n ≤ length (accepted a.0.writing.offers) → length (accepted a.0.writing.offers) < n + s.slots
      → b ≡ (
        with_writing a.0 (record a.0.writing { turn = true; seen = n; looks = a.0.writing.looks + 1 }),
        (length (accepted a.0.writing.offers) % s.slots, c)
            ∷ [],
      ) → LookedOut s a n b
  Loses : length (accepted a.0.writing.offers) ≡ n + s.slots
      → b ≡ (with_writing a.0 (record a.0.writing { offers = a.0.writing.offers ++ Refused ∷ []; seen = n; looks = a.0.writing.looks + 1 }), [])
      → LookedOut s a n b

-- the bytes of the first scan in hand
abbrev pub in_hand : List (ℕ × Cell) → List ℕ
in_hand [] = []
in_hand (x ∷ xs) = x.1.bytes.items

-- the writer's store of `in`: what is in hand is accepted
abbrev pub Accepts : Me Cell View → Me Cell View → Type 0
Accepts a b = b ≡ (with_writing a.0 (record a.0.writing { offers = a.0.writing.offers ++ Accepted (in_hand a.1) ∷ []; turn = false }), [])

-- the writer's store of the closed word: the ring is closed
abbrev pub Closes : Me Cell View → Me Cell View → Type 0
Closes a b = b ≡ (with_writing a.0 (record a.0.writing { closed = true }), a.1)

-- ---- the reader's

-- what a slot in hand has: the scan of that place
pub record IsIn (slots size i : ℕ) (s : Sent) (x : ℕ × Cell) : Type 0 where
  pub place : x.0 ≡ i % slots
  pub sized : length x.1.bytes.items ≡ size
  pub sent : sent_of x.1 ≡ s
  pub sum : i + s.lost < 2 ^ 64

-- the slots in hand have the scans in order, from that place on
abbrev pub AreIn : (slots size i : ℕ) → List Sent → List (ℕ × Cell) → Type 0
AreIn slots size i [] [] = Unit {0}
AreIn slots size i [] (x ∷ xs) = ⊥
AreIn slots size i (s ∷ ss) [] = ⊥
AreIn slots size i (s ∷ ss) (x ∷ xs) = IsIn slots size i s x × AreIn slots size (suc i) ss xs

-- a run's slots in hand, of which the first `t` were read and went to the end
pub record Turned (slots size i t : ℕ) (ss : List Sent) (held : List (ℕ × Cell)) : Type 0 where
  pub front : List (ℕ × Cell)
  pub back : List (ℕ × Cell)
  pub parts : held ≡ front ++ back
  pub few : t ≤ length ss
  pub first : AreIn slots size (i + t) (drop t ss) front
  pub last : AreIn slots size i (take t ss) back

-- the reader's load of `in`: all that is left is in hand. If it had seen the ring closed, that is all that is left of what was
-- ever accepted
pub record LookedIn (s : Step Cell) (a : Me Cell View) (n : ℕ) (b : Me Cell View) : Type 0 where
  pub hand : List Sent
  pub held : List (ℕ × Cell)
  pub found : n ≡ length a.0.reading.received + length hand
  pub slots : AreIn s.slots a.0.size (length a.0.reading.received) hand held
  pub all : a.0.reading.word ≢ 0 → accepted a.0.reading.offers ≡ a.0.reading.received ++ hand
  pub after : b ≡ (with_reading a.0 (record a.0.reading { hand = hand; seen = n; left = length hand; looks = a.0.reading.looks + 1 }), held)

-- the reader's load of `in` that takes nothing in hand
pub record Counts (a : Me Cell View) (n : ℕ) (b : Me Cell View) : Type 0 where
  pub low : length a.0.reading.received ≤ n
  pub after : b ≡ (with_reading a.0 (record a.0.reading { seen = n; left = n - length a.0.reading.received; looks = a.0.reading.looks + 1 }), a.1)

-- the reader's store of `n` to `out`: with the first of the scans in hand `n` are received in all, and all slots go back
abbrev pub Receives : Me Cell View → ℕ → Me Cell View → Type 0
Receives a n b =
    b ≡ (with_reading a.0 (record a.0.reading { received = a.0.reading.received ++ take (n - length a.0.reading.received) a.0.reading.hand; hand = [] }), [])

-- the reader's load of the closed word
pub data Asked (a : Me Cell View) (n : ℕ) (b : Me Cell View) : Type 0 where
  Open : n ≡ 0 → b ≡ (with_reading a.0 (record a.0.reading { word = 0; asks = a.0.reading.asks + 1; looked = a.0.reading.looks }), a.1) → Asked a n b
  Closed : (all : List Offer) (left : List Sent) → n ≡ lost_in all + 1 → accepted all ≡ a.0.reading.received ++ left
      → (a.0.reading.word ≢ 0 → all ≡ a.0.reading.offers)
      → b ≡ (with_reading a.0 (record a.0.reading { word = n; asks = a.0.reading.asks + 1; looked = a.0.reading.looks; offers = all }), a.1) → Asked a n b

-- ---- both

-- a load of `in` by the two ends in one: what was received and what is left are what was accepted. If the reader had seen the
-- ring closed, the offers that it saw are those that the writer made
pub record Settles (a : Me Cell View) (n : ℕ) (b : Me Cell View) : Type 0 where
  pub left : List Sent
  pub parts : accepted a.0.writing.offers ≡ a.0.reading.received ++ left
  pub found : n ≡ length a.0.reading.received + length left
  pub told : a.0.reading.word ≢ 0 → a.0.reading.offers ≡ a.0.writing.offers
  pub after : b ≡ a
