-- The writer's steps keep the rule.
use Rattle.std.proofs.Common.{◌≡◌, ◌≢◌, ◌⊎◌, ℕ, ◌+◌, ◌^◌, ◌<◌, ◌≤◌, Bool, true, false, List, [], ◌∷◌, ◌++◌, length, set, slice_index, inl, inr, refl, sym, ap, subst, ◌∙◌, arith}
use Rattle.std.proofs.lemmas.List.{length-append, length-set, take-append-le, get_or_append_left}
use Rattle.std.proofs.lemmas.Nat.{mod_below}
use Rattle.std.proofs.Math.Seq.{get_or-append_seam}
use mathlib.Core.Option.{Option, some, none}
use lib.ListN.{get_elem?}
use Rattle.atomic_table.specs.Table.{Me, Act, keeps, takes, gives, step, Allows, Valid, homes_after, carried_after}
use Rattle.atomic_table.proofs.Lists.{one_turn, set_here, set_else}
use Rattle.iio_kfifo.specs.declared.cell.Cell.{Cell}
use Rattle.iio_kfifo.specs.declared.view.Key.{Key}
use Rattle.iio_kfifo.specs.declared.view.Offer.TheVariants.{Accepted, Refused}
use Rattle.iio_kfifo.specs.declared.view.Part.TheVariants.{Writes}
use Rattle.iio_kfifo.specs.declared.view.Sent.{Sent}
use Rattle.iio_kfifo.specs.declared.view.Writing.{Writing}
use Rattle.iio_kfifo.specs.declared.view.Reading.{Reading}
use Rattle.iio_kfifo.specs.declared.view.View.{View}
use Rattle.iio_kfifo.specs.Offers.{accepted, lost_in}
use Rattle.iio_kfifo.specs.Rule.{slot_of, sent_at, sent_of, closed_word, far, IsAway, Words, IsHome, IsFull, Rings, holds}
use Rattle.iio_kfifo.specs.Steps.{with_writing, LookedOut, Begins, Loses, Accepts, Closes}
use Rattle.iio_kfifo.proofs.OffersLaws.{accepted-accept, accepted-refuse}
use Rattle.iio_kfifo.proofs.Slots.{truths, decide, compare, load_keeps, ins_stored, closed_stored}
use Rattle.iio_kfifo.proofs.Views.{as_writer}

-- the closed word of an open ring
open_word : (b : Bool) (m n : ℕ) → b ≡ false → closed_word b m ≡ closed_word b n
open_word b m n e = rw e refl

same_words : (words : List ℕ) (a b c d : ℕ) → c ≡ d → Words words a b c → Words words a b d
same_words words a b c d e h = record { count = h.count; ins = h.ins; outs = h.outs; closed = h.closed ∙ e }

-- ---- the load of `out`

record LooksOut (k : Key) (words : List ℕ) (homes : List (Option Cell)) (v : View) (r : Reading) : Type 0 where
  pub new : Writing
  pub act : Act Cell
  pub valid : Valid homes [] act
  pub rings : Rings k words (homes_after homes [] act) (accepted new.offers) new r
  pub looked : LookedOut (step k.slots 16 0 0 none) (v, []) (length r.received) (with_writing v new, carried_after [] act)

module _ (k : Key) (words : List ℕ) (homes : List (Option Cell)) (v : View) (r : Reading) (h : Rings k words homes (accepted v.writing.offers) v.writing r)
    (idle : v.writing.turn ≡ false) (open' : v.writing.closed ≡ false) (size : v.size ≡ k.size) where
  abbrev w : Writing
  w = v.writing

  abbrev xs : List Sent
  xs = accepted v.writing.offers

  never_told : {A : Type 0} → r.word ≢ 0 → A
  never_told t = absurd (truths (sym (h.told t).0 ∙ open'))

  abbrev loser : Writing
  loser = record w { offers = w.offers ++ Refused ∷ []; seen = length r.received; looks = w.looks + 1 }

  loses : length r.received + k.slots ≤ length xs → LooksOut k words homes v r
  loses full = record {
    new = loser;
    act = keeps;
    valid = tt;
    rings = subst (λ (ys : List Sent). Rings k words homes ys loser r) (sym (accepted-refuse w.offers)) (record {
      room = h.room;
      counted = same_words words _ _ _ _ (open_word w.closed (lost_in w.offers) (lost_in loser.offers) open') h.counted;
      within = h.within;
      saw = (omega arith, h.saw.1, h.saw.2);
      prefix = h.prefix;
      turn = λ t. absurd (truths (sym t ∙ idle));
      count = h.count;
      home = h.home;
      full = h.full;
      sums = h.sums;
      told = λ t. never_told t;
    });
    looked = Loses (omega (arith, full, h.within.1)) refl;
  }

  abbrev beginner : Writing
  beginner = record w { turn = true; seen = length r.received; looks = w.looks + 1 }

  abbrev at : ℕ
  at = slot_of k (length xs)

  -- no scan that stands in the ring has the slot of the next one
  apart : (i : ℕ) → length r.received ≤ i → i < length xs → length xs < length r.received + k.slots → slot_of k i ≢ at
  apart i low high more e = absurd (omega (arith, high, one_turn i (length xs) k.slots (omega (arith, high)) (omega (arith, low, more)) e))

  near : length xs < length r.received + k.slots → ¬ IsAway k xs w r at
  near more (inl p) = truths (sym p.0 ∙ idle)
  near more (inr p) = apart p.0 p.1 (omega (arith, p.2, h.saw)) more (sym p.3)

  begins : length xs < length r.received + k.slots → LooksOut k words homes v r
  begins more = record {
    new = beginner;
    act = takes at there.0;
    valid = there.1;
    rings = record {
      room = h.room;
      counted = h.counted;
      within = h.within;
      saw = (omega arith, h.saw.1, h.saw.2);
      prefix = h.prefix;
      turn = λ t. more;
      count = length-set homes at none ∙ h.count;
      home = λ j below off. let old = h.home j below (not_away j off) in (old.0, set_else homes at j none (λ e. off (inl (refl, e))) ∙ old.1, old.2);
      full =
          λ i low high. let old =
          h.full i low high in (old.0, set_else homes at (slot_of k i) none (apart i (omega (arith, low)) high more) ∙ old.1, old.2, old.3);
      sums = h.sums;
      told = λ t. never_told t;
    };
    looked = Begins there.0 (there.2 ∙ sym size) h.within.0 more refl;
  }
    where
      there : IsHome k homes at
      there = h.home at (mod_below (length xs) k.slots h.room) (near more)

      not_away : (j : ℕ) → ¬ IsAway k xs beginner r j → ¬ IsAway k xs w r j
      not_away j off (inl p) = truths (sym p.0 ∙ idle)
      not_away j off (inr p) = off (inr p)

  looks : LooksOut k words homes v r
  looks = by (compare (length xs) (length r.received + k.slots))
    where
      by : (length xs < length r.received + k.slots) ⊎ (length r.received + k.slots ≤ length xs) → LooksOut k words homes v r
      by (inl more) = begins more
      by (inr full) = loses full

-- ---- the store of `in`

module _ (k : Key) (words : List ℕ) (homes : List (Option Cell)) (w : Writing) (r : Reading) (c : Cell) (h : Rings k words homes (accepted w.offers) w r)
    (busy : w.turn ≡ true) (open' : w.closed ≡ false)
    (size : length c.bytes.items ≡ k.size) (lost : c.lost ≡ lost_in w.offers) (sum : length (accepted w.offers) + lost_in w.offers < 2 ^ 64) where
  abbrev old : List Sent
  old = accepted w.offers

  abbrev accepter : Writing
  accepter = record w { offers = w.offers ++ Accepted c.bytes.items ∷ []; turn = false }

  abbrev place : ℕ
  place = slot_of k (length old)

  all : accepted accepter.offers ≡ old ++ sent_of c ∷ []
  all = accepted-accept w.offers c.bytes.items ∙ ap (λ (n : ℕ). old ++ record { scan = c.bytes.items; lost = n } ∷ []) (sym lost)

  long : length (old ++ sent_of c ∷ []) ≡ length old + 1
  long = length-append old (sent_of c ∷ [])

  inside : place < k.slots
  inside = mod_below (length old) k.slots h.room

  distinct : (i : ℕ) → far r ≤ i → i < length old → slot_of k i ≢ place
  distinct i low high e = absurd (omega (arith, high, one_turn i (length old) k.slots (omega (arith, high)) (omega (arith, low, h.turn busy, h.saw.0)) e))

  accepts : Rings k (set words 0 (length old + 1)) (set homes place (some c)) (accepted accepter.offers) accepter r
  accepts = subst (λ (ys : List Sent). Rings k (set words 0 (length old + 1)) (set homes place (some c)) ys accepter r) (sym all) (record {
    room = h.room;
    counted = same_words _ _ _ _ _ (open_word w.closed (lost_in w.offers) (lost_in accepter.offers) open')
        (subst (λ (n : ℕ). Words (set words 0 (length old + 1)) n (length r.received) (closed_word w.closed (lost_in w.offers))) (sym long)
        (ins_stored words _ _ _ (length old + 1) h.counted));
    within = (omega (arith, long, h.within.0), omega (arith, long, h.turn busy, h.saw.0));
    saw = (h.saw.0, h.saw.1, omega (arith, long, h.saw.2));
    prefix = h.prefix ∙ sym (take-append-le (far r) old (sent_of c ∷ []) (omega (arith, h.saw)));
    turn = λ t. absurd (truths (sym t));
    count = length-set homes place (some c) ∙ h.count;
    home = λ j below off. at_home j below off (decide j place);
    full = λ i low high. filled i low (decide i (length old)) (omega (arith, long, high));
    sums = λ i high. summed i (decide i (length old)) (omega (arith, long, high));
    told = λ t. absurd (truths (sym (h.told t).0 ∙ open'));
  })
    where
      at_home : (j : ℕ) → j < k.slots → ¬ IsAway k (old ++ sent_of c ∷ []) accepter r j → (j ≡ place) ⊎ (j ≢ place) → IsHome k (set homes place (some c)) j
      at_home j below off (inl e) =
          (c, ap (λ (n : ℕ). get_elem? (set homes place (some c)) n) e ∙ set_here homes place (some c) (omega (arith, inside, h.count)), size)
      at_home j below off (inr d) = let was = h.home j below (λ a. not_away a) in (was.0, set_else homes place j (some c) d ∙ was.1, was.2)
        where
          not_away : ¬ IsAway k old w r j
          not_away (inl p) = d p.1
          not_away (inr p) = off (inr p)

      filled : (i : ℕ) → far r ≤ i → (i ≡ length old) ⊎ (i ≢ length old) → i < length old + 1
          → IsFull k (set homes place (some c)) i (sent_at (old ++ sent_of c ∷ []) i)
      filled i low (inl e) high = (
        c,
        ap (λ (n : ℕ). get_elem? (set homes place (some c)) (slot_of k n)) e ∙ set_here homes place (some c) (omega (arith, inside, h.count)),
        size,
        sym (ap (λ (n : ℕ). sent_at (old ++ sent_of c ∷ []) n) e ∙ get_or-append_seam old (sent_of c) [] (record { scan = []; lost = 0 })),
      )
      filled i low (inr d) high =
          let less : i < length old = omega (arith, d, high) in
          let was = h.full i low less in (
            was.0,
            set_else homes place (slot_of k i) (some c) (distinct i low less) ∙ was.1,
            was.2,
            was.3
                ∙ sym (get_or_append_left old (sent_of c ∷ []) (record { scan = []; lost = 0 }) i less),
          )

      summed : (i : ℕ) → (i ≡ length old) ⊎ (i ≢ length old) → i < length old + 1 → i + (sent_at (old ++ sent_of c ∷ []) i).lost < 2 ^ 64
      summed i (inl e) high =
          let is : sent_at (old ++ sent_of c ∷ []) i ≡ sent_of c =
          ap (λ (n : ℕ). sent_at (old ++ sent_of c ∷ []) n) e ∙ get_or-append_seam old (sent_of c) [] (record { scan = []; lost = 0 }) in
          let n : (sent_at (old ++ sent_of c ∷ []) i).lost ≡ lost_in w.offers = ap (λ (s : Sent). s.lost) is ∙ lost in
          omega (arith, n, e, sum)
      summed i (inr d) high =
          let less : i < length old = omega (arith, d, high) in
          let n : (sent_at (old ++ sent_of c ∷ []) i).lost ≡ (sent_at old i).lost =
          ap (λ (s : Sent). s.lost) (get_or_append_left old (sent_of c ∷ []) (record { scan = []; lost = 0 }) i less) in
          omega (arith, n, h.sums i less)

-- ---- the store of the closed word

closes : (k : Key) (words : List ℕ) (homes : List (Option Cell)) (w : Writing) (r : Reading) → Rings k words homes (accepted w.offers) w r → w.closed ≡ false
    → Rings k (set words 1 (lost_in w.offers + 1)) homes (accepted w.offers) (record w { closed = true }) r
closes k words homes w r h open' = record {
  room = h.room;
  counted = closed_stored words _ _ _ (lost_in w.offers + 1) h.counted;
  within = h.within;
  saw = h.saw;
  prefix = h.prefix;
  turn = h.turn;
  count = h.count;
  home = h.home;
  full = h.full;
  sums = h.sums;
  told = λ t. absurd (truths (sym (h.told t).0 ∙ open'));
}

-- ---- the steps as the table has them

rings_at : (k : Key) (words words' : List ℕ) (homes : List (Option Cell)) (xs : List Sent) (w : Writing) (r : Reading) → words' ≡ words
    → Rings k words homes xs w r → Rings k words' homes xs w r
rings_at k words words' homes xs w r e h = rw e h

as_looked : (slots n m : ℕ) (k : Key) (a b : Me Cell View) → slots ≡ k.slots → n ≡ m → LookedOut (step k.slots 16 0 0 none) a m b
    → LookedOut (step slots 16 0 0 none) a n b
as_looked slots n m k a b e d x = rw (e, d) x

look_out : (k : Key) (id slots : ℕ) (v : View) → v.part ≡ Writes → v.writing.turn ≡ false → v.writing.closed ≡ false → slots ≡ k.slots
    → Allows (holds k) slots id (v, []) 16 (λ n. n) (LookedOut (step slots 16 0 0 none) (v, []))
look_out k id slots v writes idle open' e s h count at fits =
    let w = as_writer k s.words s.homes s.views id v h at writes in
    let m = looks k s.words s.homes v w.other.reading w.rings idle open' w.size in (
      with_writing v m.new,
      m.act,
      m.valid,
      w.put (set s.words 16 (slice_index s.words 16)) (homes_after s.homes [] m.act) (with_writing v m.new) writes w.size
          (rings_at k s.words _ _ _ m.new w.other.reading (load_keeps s.words 16) m.rings),
      as_looked slots (slice_index s.words 16) (length w.other.reading.received) k (v, []) (with_writing v m.new, carried_after [] m.act) e w.rings.counted.outs
          m.looked,
    )

pub look_out_at : (k : Key) (id slots : ℕ) (v : View) (held : List (ℕ × Cell)) → held ≡ [] → v.part ≡ Writes → v.writing.turn ≡ false → v.writing.closed ≡ false
    → slots ≡ k.slots
    → Allows (holds k) slots id (v, held) 16 (λ n. n) (LookedOut (step slots 16 0 0 none) (v, held))
look_out_at k id slots v held nil writes idle open' e = rw nil (look_out k id slots v writes idle open' e)

-- what a store of `in` requires of the slot in hand
pub record MayAccept (k : Key) (v : View) (at : ℕ) (c : Cell) (n : ℕ) : Type 0 where
  pub writes : v.part ≡ Writes
  pub busy : v.writing.turn ≡ true
  pub still : v.writing.closed ≡ false
  pub place : at ≡ slot_of k (length (accepted v.writing.offers))
  pub size : length c.bytes.items ≡ k.size
  pub lost : c.lost ≡ lost_in v.writing.offers
  pub sum : length (accepted v.writing.offers) + lost_in v.writing.offers < 2 ^ 64
  pub next : n ≡ length (accepted v.writing.offers) + 1

accept : (k : Key) (id slots : ℕ) (v : View) (at : ℕ) (c : Cell) (n : ℕ) → MayAccept k v at c n
    → Allows (holds k) slots id (v, (at, c) ∷ []) 0 (λ x. n) (λ x b. Accepts (v, (at, c) ∷ []) b)
accept k id slots v at c n may s h count there fits =
    let w = as_writer k s.words s.homes s.views id v h there may.writes in
    let new : View = with_writing v (record v.writing { offers = v.writing.offers ++ Accepted c.bytes.items ∷ []; turn = false }) in (
      new,
      gives,
      tt,
      w.put (set s.words 0 n) (set s.homes at (some c)) new may.writes w.size
          (rw (may.next, may.place) (accepts k s.words s.homes v.writing w.other.reading c w.rings may.busy may.still may.size may.lost may.sum)),
      refl,
    )

pub accept_at : (k : Key) (id slots : ℕ) (v : View) (at : ℕ) (c : Cell) (held : List (ℕ × Cell)) (n : ℕ) → held ≡ [] → MayAccept k v at c n
    → Allows (holds k) slots id (v, (at, c) ∷ held) 0 (λ x. n) (λ x b. Accepts (v, (at, c) ∷ held) b)
accept_at k id slots v at c held n nil may = rw nil (accept k id slots v at c n may)

close : (k : Key) (id slots n : ℕ) (v : View) → v.part ≡ Writes → v.writing.closed ≡ false → n ≡ lost_in v.writing.offers + 1
    → Allows (holds k) slots id (v, []) 1 (λ x. n) (λ x b. Closes (v, []) b)
close k id slots n v writes open' e s h count there fits =
    let w = as_writer k s.words s.homes s.views id v h there writes in
    let new : View = with_writing v (record v.writing { closed = true }) in (
      new,
      keeps,
      tt,
      w.put (set s.words 1 n) s.homes new writes w.size (rw e (closes k s.words s.homes v.writing w.other.reading w.rings open')),
      refl,
    )

pub close_at : (k : Key) (id slots n : ℕ) (v : View) (held : List (ℕ × Cell)) → held ≡ [] → v.part ≡ Writes → v.writing.closed ≡ false
    → n ≡ lost_in v.writing.offers + 1
    → Allows (holds k) slots id (v, held) 1 (λ x. n) (λ x b. Closes (v, held) b)
close_at k id slots n v held nil writes open' e = rw nil (close k id slots n v writes open' e)
