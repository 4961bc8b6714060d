-- Looks at thresholds, channel by channel.
use Rattle.std.proofs.Common.{◌≡◌, ℕ, zero, suc, ◌+◌, ◌≤◌, Bool, true, false, not, if◌then◌else◌, [], ◌∷◌, length, ℤ, Result, Ok, Err, refl, sym, ap, ◌∙◌, arith, length-append, inl, inr}
use Rattle.std.proofs.lemmas.Bool.{cases_lt}
use Rattle.std.specs.Result.{IsErr}
use Rattle.iio_layout.specs.Shape.{ShapeRecord}
use Rattle.iio_sensor.specs.declared.sensor.Fault.{Fault}
use Rattle.iio_sensor.specs.Driver.{Driver, value_of, ask_fails, after_ask}
use Rattle.iio_event.specs.declared.event.Edge.TheVariants.{Rising, Falling}
use Rattle.iio_event.specs.declared.watch.Watched.{Watched}
use Rattle.iio_event.specs.Monitor.{MonitorRecord, channel_at, crosses, fired_at, fired_events, after_value}
use Rattle.iio_device.specs.Sensing.{Sensed, is_watched, channel_sensed, channels_sensed, begun, sense_result}

-- ---- a value fires at most two events

at_most_one : {A : Type 0} (b : Bool) (x : A) → length (if b then (x ∷ []) else []) ≤ 1
at_most_one true x = omega arith
at_most_one false x = omega arith

pub fired-few : (v t : ℤ) (w : Watched) → length (fired_events v t w) ≤ 2
fired-few v t w =
    let up : length (fired_at Rising v t w) ≤ 1 = at_most_one (crosses Rising w.rising v) _ in
    let down : length (fired_at Falling v t w) ≤ 1 = at_most_one (crosses Falling w.falling v) _ in
    omega (arith, length-append (fired_at Rising v t w) (fired_at Falling v t w), up, down)

-- ---- results

when : {A : Type 0} (b : Bool) (x y : A) → b ≡ true → (if b then x else y) ≡ x
when true x y is = refl
when false x y is = absurd cc

-- the answer of an ask
abbrev answers : Bool → ℕ → Result ℕ Fault
answers b k = if b then Err (record {}) else Ok k

counts : (b : Bool) (k n : ℕ) → Ok n ≡ answers b k → (b ≡ false) × (n ≡ k)
counts true k n same = absurd cc
counts false k n same = (refl, cc)

fails : (b : Bool) (k : ℕ) (e : Fault) → Err e ≡ answers b k → b ≡ true
fails true k e same = refl
fails false k e same = absurd cc

failure : (r : Result ℕ Fault) → IsErr r → r ≡ Err (record {})
failure (Ok n) is = absurd cc
failure (Err e) is = refl

module _ {Who : Type 0} where
  -- ---- it makes no difference where the count begins

  abbrev pub look_at : Driver → MonitorRecord Who → ℕ → Sensed Who
  look_at d m k = record { driver = d; monitor = m; count = k; fault = false }

  abbrev pub counted : ℕ → Sensed Who → Sensed Who
  counted k x = record x { count = k + x.count }

  -- one channel: whether it is watched, whether the ask fails, and what a value gives
  abbrev one : Bool → Bool → Driver → MonitorRecord Who → ℕ → Sensed Who → Sensed Who
  one w f e n l x = if not w then x else if f then record x { driver = e; fault = true } else look_at e n (x.count + l)

  more : (w f : Bool) (d e : Driver) (m n : MonitorRecord Who) (k l : ℕ) → one w f e n l (look_at d m k) ≡ counted k (one w f e n l (look_at d m 0))
  more false f d e m n k l = ap (λ j. look_at d m j) (omega arith)
  more true true d e m n k l = ap (λ j. record (look_at e m j) { fault = true }) (omega arith)
  more true false d e m n k l = ap (λ j. look_at e n j) (omega arith)

  channel_counted : (shape : ShapeRecord) (t : ℤ) (c : ℕ) (d : Driver) (m : MonitorRecord Who) (k : ℕ)
      → channel_sensed shape t c (look_at d m k) ≡ counted k (channel_sensed shape t c (look_at d m 0))
  channel_counted shape t c d m k =
      more (is_watched (channel_at c m)) (ask_fails d) d (after_ask d) m (after_value c (value_of d shape t c 0) t m) k
      (length (fired_events (value_of d shape t c 0) t (channel_at c m)))

  -- ---- after an ask has failed, no channel is asked

  past_fault : (shape : ShapeRecord) (t : ℤ) (c : ℕ) (x : Sensed Who) → x.fault ≡ true → channel_sensed shape t c x ≡ x
  past_fault shape t c x failed = when x.fault x _ failed

  stays : (shape : ShapeRecord) (t : ℤ) (c n : ℕ) (x : Sensed Who) → c ≤ n → (channels_sensed shape t c x).fault ≡ true
      → channels_sensed shape t n x ≡ channels_sensed shape t c x
  stays shape t c zero x within failed =
      let none : zero ≡ c = omega (arith, within) in
      ap (λ j. channels_sensed shape t j x) none
  stays shape t c (suc n) x within failed = elim (cases_lt n c) as (λ _. channels_sensed shape t (suc n) x ≡ channels_sensed shape t c x) [
    | inl l ↦ (let all : suc n ≡ c = omega (arith, within, l) in ap (λ j. channels_sensed shape t j x) all)
    | inr l ↦ (let before = stays shape t c n x l failed in past_fault shape t n (channels_sensed shape t n x) (ap (λ y. y.fault) before ∙ failed) ∙ before)
  ]

  -- ---- another channel

  met : (d d' : Driver) (m m' : MonitorRecord Who) (k n count : ℕ) (fault : Bool) → d' ≡ d → m' ≡ m → n ≡ count → fault ≡ false
      → (let x : Sensed Who = record { driver = d; monitor = m; count = k + count; fault = fault } in x) ≡ look_at d' m' (k + n)
  met d d' m m' k n count fault driver monitor same none = cc

  pub channel_more : (shape : ShapeRecord) (t : ℤ) (c : ℕ) (start : Sensed Who) (d d' : Driver) (m m' : MonitorRecord Who) (k n : ℕ)
      → channels_sensed shape t c start ≡ look_at d m k
      → d' ≡ (channel_sensed shape t c (begun d m)).driver → m' ≡ (channel_sensed shape t c (begun d m)).monitor
      → Ok n ≡ sense_result (channel_sensed shape t c (begun d m))
      → channels_sensed shape t (suc c) start ≡ look_at d' m' (k + n)
  channel_more shape t c start d d' m m' k n so_far driver monitor answer =
      let y : Sensed Who = channel_sensed shape t c (begun d m) in
      let (none, count) = counts y.fault y.count n answer in
      ap (channel_sensed shape t c) so_far ∙ channel_counted shape t c d m k ∙ met y.driver d' y.monitor m' k n y.count y.fault driver monitor count none

  -- the whole look, if the ask of its last channel failed
  pub record Fails (x : Sensed Who) (d : Driver) (m : MonitorRecord Who) : Type 0 where
    pub driver : d ≡ x.driver
    pub monitor : m ≡ x.monitor
    pub answer : (r : Result ℕ Fault) → IsErr r → r ≡ sense_result x

  pub channel_fails : (shape : ShapeRecord) (t : ℤ) (c last : ℕ) (start : Sensed Who) (d d' : Driver) (m m' : MonitorRecord Who) (k : ℕ) (e : Fault)
      → channels_sensed shape t c start ≡ look_at d m k → suc c ≤ last
      → d' ≡ (channel_sensed shape t c (begun d m)).driver → m' ≡ (channel_sensed shape t c (begun d m)).monitor
      → Err e ≡ sense_result (channel_sensed shape t c (begun d m))
      → Fails (channels_sensed shape t last start) d' m'
  channel_fails shape t c last start d d' m m' k e so_far within driver monitor answer =
      let y : Sensed Who = channel_sensed shape t c (begun d m) in
      let next : channels_sensed shape t (suc c) start ≡ counted k y = ap (channel_sensed shape t c) so_far ∙ channel_counted shape t c d m k in
      let failed = ap (λ x. x.fault) next ∙ fails y.fault y.count e answer in
      let whole = stays shape t (suc c) last start within failed in
      let end = whole ∙ next in
      record {
        driver = driver ∙ sym (ap (λ x. x.driver) end);
        monitor = monitor ∙ sym (ap (λ x. x.monitor) end);
        answer = λ r is. failure r is ∙ sym (when (channels_sensed shape t last start).fault (Err (record {})) _ (ap (λ x. x.fault) whole ∙ failed));
      }
