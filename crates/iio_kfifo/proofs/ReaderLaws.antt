-- The reader's steps keep the rule.
use Rattle.std.proofs.Common.{◌≡◌, ◌≢◌, ◌⊎◌, ℕ, ◌+◌, ◌-◌, ◌%◌, ◌<◌, ◌≤◌, Bool, true, false, List, [], ◌++◌, length, take, drop, set, slice_index, inl, inr, refl, sym, ap, subst, ◌∙◌, arith}
use Rattle.std.proofs.lemmas.List.{append-nil, length-append, length-drop, length-take-le, take_all, take-take, get_or-append-add, get_or-take}
use Rattle.std.proofs.Math.Seq.{take-add, take-append-add, take-length}
use mathlib.Core.Option.{Option, none}
use lib.ListN.{get_elem?}
use Rattle.atomic_table.specs.Table.{Me, Act, keeps, step, Allows, Valid, homes_after, carried_after}
use Rattle.atomic_table.proofs.Lists.{one_turn}
use Rattle.iio_kfifo.specs.declared.cell.Cell.{Cell}
use Rattle.iio_kfifo.specs.declared.view.Key.{Key}
use Rattle.iio_kfifo.specs.declared.view.Offer.{Offer}
use Rattle.iio_kfifo.specs.declared.view.Part.TheVariants.{Reads}
use Rattle.iio_kfifo.specs.declared.view.Sent.{Sent}
use Rattle.iio_kfifo.specs.declared.view.Writing.{Writing}
use Rattle.iio_kfifo.specs.declared.view.Reading.{Reading}
use Rattle.iio_kfifo.specs.declared.view.View.{View}
use Rattle.iio_kfifo.specs.Offers.{accepted, lost_in}
use Rattle.iio_kfifo.specs.Rule.{slot_of, sent_at, closed_word, far, IsAway, Words, IsHome, IsFull, Rings, holds}
use Rattle.iio_kfifo.specs.Steps.{with_reading, AreIn, LookedIn, Counts, Receives, Asked, Open, Closed, Turned}
use Rattle.iio_kfifo.proofs.Slots.{compare, load_keeps, outs_stored, Taken, take_run, give_all, returned, valid_gives, homes_given, none_carried, GotBack, counted_back, others_back, run_back, find_place}
use Rattle.iio_kfifo.proofs.Views.{as_reader}

-- ---- the loads

record LooksIn (k : Key) (words : List ℕ) (homes : List (Option Cell)) (xs : List Sent) (w : Writing) (v : View) : Type 0 where
  pub new : Reading
  pub act : Act Cell
  pub valid : Valid homes [] act
  pub rings : Rings k words (homes_after homes [] act) xs w new
  pub looked : LookedIn (step k.slots 0 0 0 none) (v, []) (length xs) (with_reading v new, carried_after [] act)

module _ (k : Key) (words : List ℕ) (homes : List (Option Cell)) (w : Writing) (v : View) (h : Rings k words homes (accepted w.offers) w v.reading)
    (idle : v.reading.hand ≡ []) (size : v.size ≡ k.size) where
  abbrev r : Reading
  r = v.reading

  abbrev xs : List Sent
  xs = accepted w.offers

  abbrev out : ℕ
  out = length v.reading.received

  none_held : length r.hand ≡ 0
  none_held = ap (λ (ys : List Sent). length ys) idle

  -- what was received is the beginning of what was accepted
  received : r.received ≡ take out xs
  received =
      let n : far r ≡ out = omega (arith, none_held) in
      sym (append-nil r.received) ∙ ap (λ (ys : List Sent). r.received ++ ys) (sym idle) ∙ h.prefix ∙ ap (λ (m : ℕ). take m xs) n

  abbrev number : ℕ
  number = length xs - out

  on : out + number ≡ length xs
  on = omega (arith, h.within.0)

  abbrev window : List Sent
  window = take number (drop out xs)

  window_long : length window ≡ number
  window_long = length-take-le number (drop out xs) (omega (arith, length-drop out xs))

  all_left : xs ≡ r.received ++ window
  all_left = sym (take-length xs) ∙ ap (λ (m : ℕ). take m xs) (sym on) ∙ take-add out number xs ∙ ap (λ (ys : List Sent). ys ++ window) (sym received)

  abbrev looker : Reading
  looker = record r { hand = window; seen = length xs; left = length window; looks = r.looks + 1 }

  look : LooksIn k words homes xs w v
  look = record {
    new = looker;
    act = t.act;
    valid = t.valid;
    rings = record {
      room = h.room;
      counted = h.counted;
      within = h.within;
      saw = (h.saw.0, omega (arith, window_long, on), omega arith);
      prefix = sym all_left ∙ sym (take_all (out + length window) xs (omega (arith, window_long, on)));
      turn = h.turn;
      count = t.count ∙ h.count;
      home =
          λ j below off. let old =
          h.home j below (λ a. was_home j off a) in
          (old.0, t.others j (λ d low high e. off (inr (d, low, omega (arith, high, window_long), e))) ∙ old.1, old.2);
      full = λ i low high. absurd (omega (arith, low, high, window_long, on));
      sums = h.sums;
      told = h.told;
    };
    looked = record {
      hand = window;
      held = carried_after [] t.act;
      found = omega (arith, window_long, on);
      slots = subst (λ (n : ℕ). AreIn k.slots n out window (carried_after [] t.act)) (sym size) t.are;
      all = λ told. ap (λ (os : List Offer). accepted os) (h.told told).2 ∙ all_left;
      after = refl;
    };
  }
    where
      t : Taken k homes xs out number
      t =
          take_run k homes xs number out (omega (arith, h.within)) (omega (arith, on))
          (λ d low high. h.full d (omega (arith, low, none_held)) (omega (arith, high, on))) h.sums

      was_home : (j : ℕ) → ¬ IsAway k xs w looker j → ¬ IsAway k xs w r j
      was_home j off (inl p) = off (inl p)
      was_home j off (inr p) = absurd (omega (arith, p.1, p.2, none_held))

  abbrev counter : Reading
  counter = record r { seen = length xs; left = length xs - out; looks = r.looks + 1 }

  counts : Rings k words homes xs w counter
  counts = record {
    room = h.room;
    counted = h.counted;
    within = h.within;
    saw = (h.saw.0, omega (arith, h.within.0, none_held), omega arith);
    prefix = h.prefix;
    turn = h.turn;
    count = h.count;
    home = h.home;
    full = h.full;
    sums = h.sums;
    told = h.told;
  }

  -- the load of the closed word, if the ring is open and if it is closed
  abbrev asker : Reading
  asker = record r { word = 0; asks = r.asks + 1; looked = r.looks }

  asks_open : w.closed ≡ false → Rings k words homes xs w asker
  asks_open still = record {
    room = h.room;
    counted = h.counted;
    within = h.within;
    saw = h.saw;
    prefix = h.prefix;
    turn = h.turn;
    count = h.count;
    home = h.home;
    full = h.full;
    sums = h.sums;
    told = λ t. absurd (t refl);
  }

  abbrev teller : Reading
  teller = record r { word = lost_in w.offers + 1; asks = r.asks + 1; looked = r.looks; offers = w.offers }

  asks_closed : w.closed ≡ true → Rings k words homes xs w teller
  asks_closed done = record {
    room = h.room;
    counted = h.counted;
    within = h.within;
    saw = h.saw;
    prefix = h.prefix;
    turn = h.turn;
    count = h.count;
    home = h.home;
    full = h.full;
    sums = h.sums;
    told = λ t. (done, refl, refl);
  }

  pub record AsksIn (n : ℕ) : Type 0 where
    pub new : Reading
    pub rings : Rings k words homes xs w new
    pub asked : Asked (v, []) n (with_reading v new, [])

  closed_is : (b : Bool) → w.closed ≡ b → closed_word w.closed (lost_in w.offers) ≡ closed_word b (lost_in w.offers)
  closed_is b e = rw e refl

  asks : (n : ℕ) → n ≡ closed_word w.closed (lost_in w.offers) → AsksIn n
  asks n found = by w.closed refl
    where
      by : (b : Bool) → w.closed ≡ b → AsksIn n
      by false e = record { new = asker; rings = asks_open e; asked = Open (found ∙ closed_is false e) refl }
      by true e =
          let is : n ≡ lost_in w.offers + 1 = found ∙ closed_is true e in record {
            new = teller;
            rings = asks_closed e;
            asked = Closed w.offers window is all_left (λ t. sym (h.told t).2) (ap (λ (m : ℕ). (with_reading v (record teller { word = m }), [])) (sym is));
          }

-- ---- the store of `out`

module _ (k : Key) (words : List ℕ) (homes : List (Option Cell)) (w : Writing) (q : Reading) (t m : ℕ) (held : List (ℕ × Cell))
    (h : Rings k words homes (accepted w.offers) w q)
    (are : Turned k.slots k.size (length q.received) t q.hand held) (few_in_hand : m ≤ length q.hand) where
  abbrev ys : List Sent
  ys = accepted w.offers

  abbrev from : ℕ
  from = length q.received

  abbrev receiver : Reading
  receiver = record q { received = q.received ++ take m q.hand; hand = [] }

  long : length (q.received ++ take m q.hand) ≡ from + m
  long = omega (arith, length-append q.received (take m q.hand), length-take-le m q.hand few_in_hand)

  within : far q ≤ length ys
  within = omega (arith, h.saw)

  few : length q.hand ≤ k.slots
  few = omega (arith, within, h.within.1)

  -- a scan in hand is the accepted one of its place
  same : (e : ℕ) → e < length q.hand → sent_at q.hand e ≡ sent_at ys (from + e)
  same e less =
      let nil : Sent = record { scan = []; lost = 0 } in
      sym (get_or-append-add q.received q.hand e nil) ∙ ap (λ (zs : List Sent). sent_at zs (from + e)) h.prefix
      ∙ get_or-take (far q) ys (from + e) nil (omega (arith, less))

  back : (j : ℕ) → ((d : ℕ) → from ≤ d → d < from + length q.hand → j ≢ slot_of k d) → get_elem? (returned homes held) j ≡ get_elem? homes j
  back j off = others_back k.slots k.size from t q.hand homes held are h.room few h.count j off

  got : (e : ℕ) → e < length q.hand → GotBack k.slots k.size (from + e) (sent_at q.hand e) (returned homes held)
  got e less = run_back k.slots k.size from t q.hand homes held are h.room few h.count e less

  received_more : q.received ++ take m q.hand ≡ take (from + m) ys
  received_more =
      sym (take-append-add q.received q.hand m) ∙ ap (λ (zs : List Sent). take (from + m) zs) h.prefix
      ∙ take-take (from + m) (far q) ys (omega (arith, few_in_hand))

  receives : Rings k (set words 16 (from + m)) (returned homes held) ys w receiver
  receives = record {
    room = h.room;
    counted =
        subst (λ (n : ℕ). Words (set words 16 (from + m)) (length ys) n (closed_word w.closed (lost_in w.offers))) (sym long)
        (outs_stored words _ _ _ (from + m) h.counted);
    within = (omega (arith, long, within, few_in_hand), omega (arith, long, h.within.1));
    saw = (omega (arith, long, h.saw.0), omega (arith, long, few_in_hand, h.saw.1), h.saw.2);
    prefix = append-nil (q.received ++ take m q.hand) ∙ received_more ∙ ap (λ (n : ℕ). take n ys) next;
    turn = h.turn;
    count = counted_back k.slots k.size from t q.hand homes held are h.room few h.count;
    home = λ j below off. at_home j below off (find_place k.slots j from (length q.hand));
    full = λ i low high. filled i low high (compare i (from + length q.hand));
    sums = h.sums;
    told = h.told;
  }
    where
      next : from + m ≡ length (q.received ++ take m q.hand) + 0
      next = omega (arith, long)

      at_home : (j : ℕ) → j < k.slots → ¬ IsAway k ys w receiver j
          → ((d : ℕ) × (from ≤ d) × (d < from + length q.hand) × (j ≡ d % k.slots)) ⊎ ((d : ℕ) → from ≤ d → d < from + length q.hand → j ≢ d % k.slots)
          → IsHome k (returned homes held) j
      at_home j below off (inl found) =
          let is : from + (found.0 - from) ≡ found.0 = omega (arith, found.1) in
          let one = got (found.0 - from) (omega (arith, found.1, found.2)) in
          (one.0, ap (λ (n : ℕ). get_elem? (returned homes held) n) (found.3 ∙ ap (λ (n : ℕ). n % k.slots) (sym is)) ∙ one.1, one.2)
      at_home j below off (inr clear) =
          let was = h.home j below (λ a. not_away a) in
          (was.0, back j clear ∙ was.1, was.2)
        where
          not_away : ¬ IsAway k ys w q j
          not_away (inl p) = off (inl p)
          not_away (inr p) = clear p.0 p.1 p.2 p.3

      filled : (i : ℕ) → far receiver ≤ i → i < length ys → (i < from + length q.hand) ⊎ (from + length q.hand ≤ i)
          → IsFull k (returned homes held) i (sent_at ys i)
      filled i low high (inl less) =
          let is : from + (i - from) ≡ i = omega (arith, low, long) in
          let e : i - from < length q.hand = omega (arith, low, long, less) in
          let one = got (i - from) e in (
            one.0,
            ap (λ (n : ℕ). get_elem? (returned homes held) (slot_of k n)) (sym is) ∙ one.1,
            one.2,
            one.3 ∙ same (i - from) e
                ∙ ap (λ (n : ℕ). sent_at ys n) is,
          )
      filled i low high (inr more) =
          let was = h.full i more high in (
            was.0,
            back (slot_of k i) (λ d least less e. absurd
                (omega (
                  arith,
                  least,
                  less,
                  more,
                  high,
                  h.within.1,
                  one_turn d i k.slots (omega (arith, less, more)) (omega (arith, least, high, h.within.1))
                      (sym e),
                ))) ∙ was.1,
            was.2,
            was.3,
          )

-- ---- the steps as the table has them

rings_at : (k : Key) (words words' : List ℕ) (homes homes' : List (Option Cell)) (xs : List Sent) (w : Writing) (r : Reading) → words' ≡ words → homes' ≡ homes
    → Rings k words homes xs w r → Rings k words' homes' xs w r
rings_at k words words' homes homes' xs w r e d h = rw (e, d) h

as_looked : (slots n m : ℕ) (k : Key) (a b : Me Cell View) → slots ≡ k.slots → n ≡ m → LookedIn (step k.slots 0 0 0 none) a m b
    → LookedIn (step slots 0 0 0 none) a n b
as_looked slots n m k a b e d x = rw (e, d) x

look_in : (k : Key) (id slots : ℕ) (v : View) → v.part ≡ Reads → v.reading.hand ≡ [] → slots ≡ k.slots
    → Allows (holds k) slots id (v, []) 0 (λ n. n) (LookedIn (step slots 0 0 0 none) (v, []))
look_in k id slots v reads idle e s h count at fits =
    let r = as_reader k s.words s.homes s.views id v h at reads in
    let m = look k s.words s.homes r.other.writing v r.rings idle r.size in (
      with_reading v m.new,
      m.act,
      m.valid,
      r.put (set s.words 0 (slice_index s.words 0)) (homes_after s.homes [] m.act) (with_reading v m.new) reads r.size
          (rings_at k s.words _ _ _ _ _ m.new (load_keeps s.words 0) refl m.rings),
      as_looked slots (slice_index s.words 0) _ k (v, []) (with_reading v m.new, carried_after [] m.act) e r.rings.counted.ins m.looked,
    )

pub look_in_at : (k : Key) (id slots : ℕ) (v : View) (held : List (ℕ × Cell)) → held ≡ [] → v.part ≡ Reads → v.reading.hand ≡ [] → slots ≡ k.slots
    → Allows (holds k) slots id (v, held) 0 (λ n. n) (LookedIn (step slots 0 0 0 none) (v, held))
look_in_at k id slots v held nil reads idle e = rw nil (look_in k id slots v reads idle e)

count_in : (k : Key) (id slots : ℕ) (v : View) → v.part ≡ Reads → v.reading.hand ≡ [] → Allows (holds k) slots id (v, []) 0 (λ n. n) (λ n b. Counts (v, []) n b)
count_in k id slots v reads idle s h count at fits =
    let r = as_reader k s.words s.homes s.views id v h at reads in
    let n = slice_index s.words 0 in
    let is : n ≡ length (accepted r.other.writing.offers) = r.rings.counted.ins in
    let new : ℕ → View = λ n. with_reading v (record v.reading { seen = n; left = n - length v.reading.received; looks = v.reading.looks + 1 }) in (
      new n,
      keeps,
      tt,
      r.put (set s.words 0 n) s.homes (new n) reads r.size
          (rings_at k s.words _ _ _ _ _ _ (load_keeps s.words 0) refl (rw is (counts k s.words s.homes r.other.writing v r.rings idle r.size))),
      record { low = omega (arith, is, r.rings.within.0); after = refl },
    )

pub count_in_at : (k : Key) (id slots : ℕ) (v : View) (held : List (ℕ × Cell)) → held ≡ [] → v.part ≡ Reads → v.reading.hand ≡ []
    → Allows (holds k) slots id (v, held) 0 (λ n. n) (λ n b. Counts (v, held) n b)
count_in_at k id slots v held nil reads idle = rw nil (count_in k id slots v reads idle)

ask : (k : Key) (id slots : ℕ) (v : View) → v.part ≡ Reads → v.reading.hand ≡ [] → Allows (holds k) slots id (v, []) 1 (λ n. n) (λ n b. Asked (v, []) n b)
ask k id slots v reads idle s h count at fits =
    let r = as_reader k s.words s.homes s.views id v h at reads in
    let m = asks k s.words s.homes r.other.writing v r.rings idle r.size (slice_index s.words 1) r.rings.counted.closed in (
      with_reading v m.new,
      keeps,
      tt,
      r.put (set s.words 1 (slice_index s.words 1)) s.homes (with_reading v m.new) reads r.size
          (rings_at k s.words _ _ _ _ _ m.new (load_keeps s.words 1) refl m.rings),
      m.asked,
    )

pub ask_at : (k : Key) (id slots : ℕ) (v : View) (held : List (ℕ × Cell)) → held ≡ [] → v.part ≡ Reads → v.reading.hand ≡ []
    → Allows (holds k) slots id (v, held) 1 (λ n. n) (λ n b. Asked (v, held) n b)
ask_at k id slots v held nil reads idle = rw nil (ask k id slots v reads idle)

-- what a store of `out` requires
pub record MayReceive (k : Key) (v : View) (held : List (ℕ × Cell)) (n : ℕ) : Type 0 where
  pub reads : v.part ≡ Reads
  pub turns : ℕ
  pub are : Turned k.slots k.size (length v.reading.received) turns v.reading.hand held
  pub low : length v.reading.received ≤ n
  pub few : n ≤ far v.reading

pub receive_at : (k : Key) (id slots n : ℕ) (v : View) (held : List (ℕ × Cell)) → MayReceive k v held n
    → Allows (holds k) slots id (v, held) 16 (λ x. n) (λ x b. Receives (v, held) n b)
receive_at k id slots n v held may s h count there fits =
    let r = as_reader k s.words s.homes s.views id v h there may.reads in
    let m = n - length v.reading.received in
    let is : n ≡ length v.reading.received + m = omega (arith, may.low) in
    let new : View = with_reading v (record v.reading { received = v.reading.received ++ take m v.reading.hand; hand = [] }) in (
      new,
      give_all held,
      valid_gives s.homes held,
      r.put (set s.words 16 n) (homes_after s.homes held (give_all held)) new may.reads r.size
          (rings_at k _ _ _ _ _ _ _ (ap (λ (x : ℕ). set s.words 16 x) is) (homes_given s.homes held)
          (receives k s.words s.homes r.other.writing v.reading may.turns m held r.rings may.are (omega (arith, may.few)))),
      ap (λ (c : List (ℕ × Cell)). (new, c)) (none_carried held),
    )
