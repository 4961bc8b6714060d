-- Words that change, and slots that are taken and given back.
use Rattle.std.proofs.Common.{◌≡◌, ◌≢◌, ◌⊎◌, ℕ, zero, suc, ◌+◌, ◌-◌, ◌%◌, ◌^◌, ◌<◌, ◌≤◌, true, false, List, [], ◌∷◌, ◌++◌, length, take, drop, set, slice_index, inl, inr, refl, sym, ap, subst, ◌∙◌, arith}
use Rattle.std.proofs.lemmas.List.{length-set, get_or-set_same, get_or-set_other, set-get_or, get_or-take, get_or-drop, length-take-le, length-drop, drop_more}
use Rattle.std.proofs.lemmas.Nat.{mod_below}
use mathlib.Core.Option.{Option, some, none}
use lib.ListN.{get_elem?}
use Rattle.atomic_table.specs.Table.{Act, keeps, takes, gives, chain, Valid, homes_after, carried_after}
use Rattle.atomic_table.proofs.Lists.{one_turn, set_here, set_else}
use Rattle.iio_kfifo.specs.declared.cell.Cell.{Cell}
use Rattle.iio_kfifo.specs.declared.view.Key.{Key}
use Rattle.iio_kfifo.specs.declared.view.Sent.{Sent}
use Rattle.iio_kfifo.specs.Rule.{slot_of, sent_at, sent_of, Words, IsFull}
use Rattle.iio_kfifo.specs.Steps.{AreIn, Turned}

pub truths : true ≡ false → ⊥
truths e = cc

pub decide : (a b : ℕ) → (a ≡ b) ⊎ (a ≢ b)
decide zero zero = inl refl
decide zero (suc b) = inr (λ e. absurd (omega arith))
decide (suc a) zero = inr (λ e. absurd (omega arith))
decide (suc a) (suc b) = by (decide a b)
  where
    by : (a ≡ b) ⊎ (a ≢ b) → (suc a ≡ suc b) ⊎ (suc a ≢ suc b)
    by (inl e) = inl (ap (λ (n : ℕ). suc n) e)
    by (inr d) = inr (λ e. d (omega (arith, e)))

pub compare : (a b : ℕ) → (a < b) ⊎ (b ≤ a)
compare zero zero = inr (omega arith)
compare zero (suc b) = inl (omega arith)
compare (suc a) zero = inr (omega arith)
compare (suc a) (suc b) = by (compare a b)
  where
    by : (a < b) ⊎ (b ≤ a) → (suc a < suc b) ⊎ (suc b ≤ suc a)
    by (inl l) = inl (omega arith)
    by (inr l) = inr (omega arith)

-- ---- words

pub load_keeps : (words : List ℕ) (i : ℕ) → set words i (slice_index words i) ≡ words
load_keeps words i = set-get_or words i 0

module _ (words : List ℕ) (taken given word n : ℕ) (h : Words words taken given word) where
  long : (i : ℕ) → length (set words i n) ≡ 32
  long i = length-set words i n ∙ h.count

  here : (i : ℕ) → i < 32 → slice_index (set words i n) i ≡ n
  here i below = get_or-set_same words i n 0 (omega (arith, below, h.count))

  else : (i j : ℕ) → j ≢ i → slice_index (set words i n) j ≡ slice_index words j
  else i j apart = get_or-set_other words i j n 0 apart

  pub ins_stored : Words (set words 0 n) n given word
  ins_stored =
      record {
        count = long 0;
        ins = here 0 (omega arith);
        outs = else 0 16 (λ e. absurd (omega (arith, e))) ∙ h.outs;
        closed =
            else 0 1 (λ e. absurd (omega (arith, e))) ∙ h.closed;
      }

  pub outs_stored : Words (set words 16 n) taken n word
  outs_stored =
      record {
        count = long 16;
        ins = else 16 0 (λ e. absurd (omega (arith, e))) ∙ h.ins;
        outs = here 16 (omega arith);
        closed =
            else 16 1 (λ e. absurd (omega (arith, e))) ∙ h.closed;
      }

  pub closed_stored : Words (set words 1 n) taken given n
  closed_stored =
      record {
        count = long 1;
        ins = else 1 0 (λ e. absurd (omega (arith, e))) ∙ h.ins;
        outs = else 1 16 (λ e. absurd (omega (arith, e))) ∙ h.outs;
        closed =
            here 1 (omega arith);
      }

-- ---- all slots of a run are taken

pub record Taken (k : Key) (homes : List (Option Cell)) (xs : List Sent) (i n : ℕ) : Type 0 where
  pub act : Act Cell
  pub valid : Valid homes [] act
  pub others : (j : ℕ) → ((d : ℕ) → i ≤ d → d < i + n → j ≢ slot_of k d) → get_elem? (homes_after homes [] act) j ≡ get_elem? homes j
  pub count : length (homes_after homes [] act) ≡ length homes
  pub are : AreIn k.slots k.size i (take n (drop i xs)) (carried_after [] act)

-- the places of one run have different slots
pub apart : (k : Key) (i d n : ℕ) → i < d → d < i + n → n ≤ k.slots → slot_of k i ≢ slot_of k d
apart k i d n less within few e = absurd (omega (arith, less, one_turn i d k.slots (omega (arith, less)) (omega (arith, within, few)) e))

take_on : (xs : List Sent) (i n : ℕ) → i < length xs → take (suc n) (drop i xs) ≡ sent_at xs i ∷ take n (drop (suc i) xs)
take_on xs i n less =
    let next : i + 1 ≡ suc i = omega arith in
    ap (λ (ys : List Sent). take (suc n) ys) (drop_more xs i (record { scan = []; lost = 0 }) less) ∙ ap (λ (m : ℕ). sent_at xs i ∷ take n (drop m xs)) next

pub take_run : (k : Key) (homes : List (Option Cell)) (xs : List Sent) (n i : ℕ) → n ≤ k.slots → i + n ≤ length xs
    → ((d : ℕ) → i ≤ d → d < i + n → IsFull k homes d (sent_at xs d)) → ((d : ℕ) → d < length xs → d + (sent_at xs d).lost < 2 ^ 64) → Taken k homes xs i n
take_run k homes xs zero i few within full sums = record { act = keeps; valid = tt; others = λ j far. refl; count = refl; are = tt }
take_run k homes xs (suc n) i few within full sums =
    let later : Taken k homes xs (suc i) n =
    take_run k homes xs n (suc i) (omega (arith, few)) (omega (arith, within)) (λ d low high. full d (omega (arith, low)) (omega (arith, high))) sums in
    let c : IsFull k homes i (sent_at xs i) = full i (omega arith) (omega arith) in record {
      act = chain later.act (takes (slot_of k i) c.0);
      valid = (later.valid, later.others (slot_of k i) (λ d low high. apart k i d (suc n) (omega (arith, low)) (omega (arith, high)) few) ∙ c.1);
      others =
          λ j far. set_else (homes_after homes [] later.act) (slot_of k i) j none (far i (omega arith) (omega arith))
          ∙ later.others j (λ d low high. far d (omega (arith, low)) (omega (arith, high)));
      count = length-set (homes_after homes [] later.act) (slot_of k i) none ∙ later.count;
      are =
          subst (λ (ss : List Sent). AreIn k.slots k.size i ss ((slot_of k i, c.0) ∷ carried_after [] later.act)) (sym (take_on xs i n (omega (arith, within))))
          (record { place = refl; sized = c.2; sent = c.3; sum = sums i (omega (arith, within)) }, later.are);
    }

-- ---- all slots in hand are given back

pub give_all : List (ℕ × Cell) → Act Cell
give_all [] = keeps
give_all (x ∷ xs) = chain gives (give_all xs)

pub returned : List (Option Cell) → List (ℕ × Cell) → List (Option Cell)
returned homes [] = homes
returned homes (x ∷ xs) = returned (set homes x.0 (some x.1)) xs

pub valid_gives : (homes : List (Option Cell)) (held : List (ℕ × Cell)) → Valid homes held (give_all held)
unfolding give_all
valid_gives homes [] = tt
valid_gives homes (x ∷ xs) = (tt, valid_gives (set homes x.0 (some x.1)) xs)

pub homes_given : (homes : List (Option Cell)) (held : List (ℕ × Cell)) → homes_after homes held (give_all held) ≡ returned homes held
unfolding give_all returned
homes_given homes [] = refl
homes_given homes (x ∷ xs) = homes_given (set homes x.0 (some x.1)) xs

pub none_carried : (held : List (ℕ × Cell)) → carried_after held (give_all held) ≡ []
unfolding give_all
none_carried [] = refl
none_carried (x ∷ xs) = none_carried xs

returned-append : (homes : List (Option Cell)) (p q : List (ℕ × Cell)) → returned homes (p ++ q) ≡ returned (returned homes p) q
unfolding returned
returned-append homes [] q = refl
returned-append homes (x ∷ p) q = returned-append (set homes x.0 (some x.1)) p q

length-returned : (homes : List (Option Cell)) (held : List (ℕ × Cell)) → length (returned homes held) ≡ length homes
unfolding returned
length-returned homes [] = refl
length-returned homes (x ∷ xs) = length-returned (set homes x.0 (some x.1)) xs ∙ length-set homes x.0 (some x.1)

outside : (slots size i : ℕ) (ss : List Sent) (homes : List (Option Cell)) (held : List (ℕ × Cell)) → AreIn slots size i ss held
    → (j : ℕ) → ((d : ℕ) → i ≤ d → d < i + length ss → j ≢ d % slots) → get_elem? (returned homes held) j ≡ get_elem? homes j
unfolding returned
outside slots size i [] homes [] are j far = refl
outside slots size i [] homes (x ∷ xs) are j far = absurd are
outside slots size i (s ∷ ss) homes [] are j far = absurd are
outside slots size i (s ∷ ss) homes (x ∷ xs) are j far =
    outside slots size (suc i) ss (set homes x.0 (some x.1)) xs are.1 j (λ d low high. far d (omega (arith, low)) (omega (arith, high)))
    ∙ set_else homes x.0 j (some x.1) (λ e. far i (omega arith) (omega arith) (e ∙ are.0.place))

abbrev pub GotBack : (slots size place : ℕ) → Sent → List (Option Cell) → Type 0
GotBack slots size place s homes = (c : Cell) × (get_elem? homes (place % slots) ≡ some (some c)) × (length c.bytes.items ≡ size) × (sent_of c ≡ s)

inside : (slots size i : ℕ) (ss : List Sent) (homes : List (Option Cell)) (held : List (ℕ × Cell)) → AreIn slots size i ss held → 0 < slots → length ss ≤ slots
    → length homes ≡ slots
    → (e : ℕ) → e < length ss → GotBack slots size (i + e) (sent_at ss e) (returned homes held)
unfolding returned
inside slots size i [] homes held are room few count e less = absurd (omega arith)
inside slots size i (s ∷ ss) homes [] are room few count e less = absurd are
inside slots size i (s ∷ ss) homes (x ∷ xs) are room few count zero less =
    let put = set homes x.0 (some x.1) in
    let same : i + zero ≡ i = omega arith in
    let apart : (d : ℕ) → suc i ≤ d → d < suc i + length ss → i % slots ≢ d % slots
    = λ d low high e. absurd (omega (arith, low, one_turn i d slots (omega (arith, low)) (omega (arith, high, few)) e)) in
    let at : get_elem? put (i % slots) ≡ some (some x.1)
    =
    ap (λ (j : ℕ). get_elem? put j) (sym are.0.place)
    ∙ set_here homes x.0 (some x.1) (omega (arith, ap (λ (j : ℕ). j) are.0.place, mod_below i slots room, count)) in (
      x.1,
      ap (λ (n : ℕ). get_elem? (returned put xs) (n % slots)) same ∙ outside slots size (suc i) ss put xs are.1 (i % slots) apart
          ∙ at,
      are.0.sized,
      are.0.sent,
    )
inside slots size i (s ∷ ss) homes (x ∷ xs) are room few count (suc e) less =
    let put = set homes x.0 (some x.1) in
    let same : i + suc e ≡ suc i + e = omega arith in
    let one = inside slots size (suc i) ss put xs are.1 room (omega (arith, few)) (length-set homes x.0 (some x.1) ∙ count) e (omega (arith, less)) in
    (one.0, ap (λ (n : ℕ). get_elem? (returned put xs) (n % slots)) same ∙ one.1, one.2, one.3)

module _ (slots size i t : ℕ) (ss : List Sent) (homes : List (Option Cell)) (held : List (ℕ × Cell)) (are : Turned slots size i t ss held) (room : 0 < slots)
    (few : length ss ≤ slots) (count : length homes ≡ slots) where
  both : returned homes held ≡ returned (returned homes are.front) are.back
  both = ap (λ (xs : List (ℕ × Cell)). returned homes xs) are.parts ∙ returned-append homes are.front are.back

  long_first : length (drop t ss) + t ≡ length ss
  long_first = omega (arith, length-drop t ss, are.few)

  long_last : length (take t ss) ≡ t
  long_last = length-take-le t ss are.few

  pub counted_back : length (returned homes held) ≡ slots
  counted_back = length-returned homes held ∙ count

  pub others_back : (j : ℕ) → ((d : ℕ) → i ≤ d → d < i + length ss → j ≢ slot_of (record { slots = slots; size = size }) d)
      → get_elem? (returned homes held) j ≡ get_elem? homes j
  others_back j far =
      ap (λ (hs : List (Option Cell)). get_elem? hs j) both
      ∙ outside slots size i (take t ss) (returned homes are.front) are.back are.last j (λ d low high. far d low (omega (arith, high, long_last, are.few)))
      ∙ outside slots size (i + t) (drop t ss) homes are.front are.first j (λ d low high. far d (omega (arith, low)) (omega (arith, high, long_first)))

  pub run_back : (e : ℕ) → e < length ss → GotBack slots size (i + e) (sent_at ss e) (returned homes held)
  run_back e less = by (compare e t)
    where
      early : e < t → GotBack slots size (i + e) (sent_at (take t ss) e) (returned (returned homes are.front) are.back)
          → GotBack slots size (i + e) (sent_at ss e) (returned homes held)
      early low one = (
        one.0,
        ap (λ (hs : List (Option Cell)). get_elem? hs ((i + e) % slots)) both ∙ one.1,
        one.2,
        one.3
            ∙ get_or-take t ss e (record { scan = []; lost = 0 }) low,
      )

      far : t ≤ e → (d : ℕ) → i ≤ d → d < i + length (take t ss) → (i + e) % slots ≢ d % slots
      far high d from to same =
          absurd (omega (
            arith,
            from,
            to,
            long_last,
            high,
            one_turn d (i + e) slots (omega (arith, to, long_last, high)) (omega (arith, from, less, few))
                (sym same),
          ))

      late : t ≤ e → GotBack slots size ((i + t) + (e - t)) (sent_at (drop t ss) (e - t)) (returned homes are.front)
          → GotBack slots size (i + e) (sent_at ss e) (returned homes held)
      late high one =
          let on : (i + t) + (e - t) ≡ i + e = omega (arith, high) in
          let on' : t + (e - t) ≡ e = omega (arith, high) in (
            one.0,
            ap (λ (hs : List (Option Cell)). get_elem? hs ((i + e) % slots)) both
                ∙ outside slots size i (take t ss) (returned homes are.front) are.back are.last ((i + e) % slots) (far high)
                ∙ ap (λ (n : ℕ). get_elem? (returned homes are.front) (n % slots)) (sym on) ∙ one.1,
            one.2,
            one.3 ∙ get_or-drop t ss (e - t) (record { scan = []; lost = 0 }) ∙ ap (λ (n : ℕ). sent_at ss n) on',
          )

      by : (e < t) ⊎ (t ≤ e) → GotBack slots size (i + e) (sent_at ss e) (returned homes held)
      by (inl low) =
          early low (inside slots size i (take t ss) (returned homes are.front) are.back are.last room (omega (arith, long_last, few, are.few))
          (length-returned homes are.front ∙ count) e (omega (arith, long_last, low)))
      by (inr high) =
          late high (inside slots size (i + t) (drop t ss) homes are.front are.first room (omega (arith, long_first, few)) count (e - t)
          (omega (arith, long_first, less, high)))

-- whether a slot is that of a place of a run
pub find_place : (slots j i n : ℕ) → ((d : ℕ) × (i ≤ d) × (d < i + n) × (j ≡ d % slots)) ⊎ ((d : ℕ) → i ≤ d → d < i + n → j ≢ d % slots)
find_place slots j i zero = inr (λ d low high. absurd (omega (arith, low, high)))
find_place slots j i (suc n) = by (find_place slots j (suc i) n) (decide j (i % slots))
  where
    by : ((d : ℕ) × (suc i ≤ d) × (d < suc i + n) × (j ≡ d % slots)) ⊎ ((d : ℕ) → suc i ≤ d → d < suc i + n → j ≢ d % slots) → (j ≡ i % slots) ⊎ (j ≢ i % slots)
        → ((d : ℕ) × (i ≤ d) × (d < i + suc n) × (j ≡ d % slots)) ⊎ ((d : ℕ) → i ≤ d → d < i + suc n → j ≢ d % slots)
    by (inl found) at = inl (found.0, omega (arith, found.1), omega (arith, found.2), found.3)
    by (inr later) (inl e) = inl (i, omega arith, omega arith, e)
    by (inr later) (inr off) = inr (λ d low high. past d low high (decide d i))
      where
        past : (d : ℕ) → i ≤ d → d < i + suc n → (d ≡ i) ⊎ (d ≢ i) → j ≢ d % slots
        past d low high (inl same) e = off (e ∙ ap (λ (m : ℕ). m % slots) same)
        past d low high (inr more) e = later d (omega (arith, low, more)) (omega (arith, high)) e
