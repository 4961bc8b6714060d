-- What the reader's calls require of their steps, and what they keep.
use Rattle.std.proofs.Common.{◌≡◌, ◌≢◌, ℕ, suc, ◌+◌, ◌*◌, ◌/◌, ◌%◌, ◌^◌, ◌<◌, ◌≤◌, List, [], ◌∷◌, ◌++◌, length, take, drop, sym, ap, subst, ◌∙◌, arith}
use Rattle.std.specs.List.{flat_map}
use Rattle.std.proofs.lemmas.Grind.{flat_map-append}
use Rattle.std.proofs.lemmas.List.{append-nil, append_assoc, drop_more, length-take-le, take_more}
use Rattle.std.proofs.Math.Nat.{div-add-mod, add-mul-mod_self_left}
use mathlib.Core.Option.{none}
use Rattle.atomic_table.specs.Table.{Me, step, rest, turned}
use Rattle.iio_kfifo.specs.declared.cell.Cell.{Cell}
use Rattle.iio_kfifo.specs.declared.view.Key.{Key}
use Rattle.iio_kfifo.specs.declared.view.Part.TheVariants.{Reads}
use Rattle.iio_kfifo.specs.declared.view.Sent.{Sent}
use Rattle.iio_kfifo.specs.declared.view.View.{View}
use Rattle.iio_kfifo.specs.Offers.{accepted}
use Rattle.iio_kfifo.specs.Rule.{sent_at, sent_of}
use Rattle.iio_kfifo.specs.Steps.{with_reading, in_hand, AreIn, Turned, LookedIn}
use Rattle.iio_kfifo.proofs.ReaderLaws.{MayReceive}

same_size : (k : Key) (slots size size' i t : ℕ) (ss : List Sent) (held : List (ℕ × Cell)) → slots ≡ k.slots → size ≡ size' → Turned slots size i t ss held
    → Turned k.slots size' i t ss held
same_size k slots size size' i t ss held e d h = rw (← e, ← d) h

-- ---- after a load

-- all that is left is in hand, and no slot went to the end yet
pub record InHand (slots n : ℕ) (a : View) (b : Me Cell View) : Type 0 where
  pub hand : List Sent
  pub view : b.0 ≡ with_reading a (record a.reading { hand = hand; seen = n; left = length hand; looks = a.reading.looks + 1 })
  pub are : AreIn slots a.size (length a.reading.received) hand b.1
  pub found : n ≡ length a.reading.received + length hand
  pub all : a.reading.word ≢ 0 → accepted a.reading.offers ≡ a.reading.received ++ hand

pub looked : (slots n : ℕ) (a b : Me Cell View) → LookedIn (step slots 0 0 0 none) a n b → InHand slots n a.0 b
looked slots n a b h = record {
  hand = h.hand;
  view = ap (λ (x : Me Cell View). x.0) h.after;
  are = subst (λ (l : List (ℕ × Cell)). AreIn slots a.0.size (length a.0.reading.received) h.hand l) (sym (ap (λ (x : Me Cell View). x.1) h.after)) h.slots;
  found = h.found;
  all = h.all;
}

pub begun : (slots n : ℕ) (a : View) (b : Me Cell View) → (g : InHand slots n a b) → Turned slots a.size (length a.reading.received) 0 g.hand b.1
begun slots n a b g = record {
  front = b.1;
  back = [];
  parts = sym (append-nil b.1);
  few = omega arith;
  first = let e : length a.reading.received ≡ length a.reading.received + 0 = omega arith in subst (λ (i : ℕ). AreIn slots a.size i g.hand b.1) e g.are;
  last = tt;
}

-- ---- the next slot in hand

pub record Next (slots size i t : ℕ) (ss : List Sent) (held : List (ℕ × Cell)) : Type 0 where
  pub cell : Cell
  pub behind : List (ℕ × Cell)
  pub is : held ≡ ((i + t) % slots, cell) ∷ behind
  pub sized : length cell.bytes.items ≡ size
  pub sent : sent_of cell ≡ sent_at ss t
  pub sum : (i + t) + (sent_at ss t).lost < 2 ^ 64
  pub after : Turned slots size i (t + 1) ss (turned held)

AreIn-append : (slots size i : ℕ) (ss ss' : List Sent) (held held' : List (ℕ × Cell)) → AreIn slots size i ss held → AreIn slots size (i + length ss) ss' held'
    → AreIn slots size i (ss ++ ss') (held ++ held')
AreIn-append slots size i [] ss' [] held' a b = let e : i + 0 ≡ i = omega arith in subst (λ (n : ℕ). AreIn slots size n ss' held') e b
AreIn-append slots size i [] ss' (x ∷ xs) held' a b = absurd a
AreIn-append slots size i (s ∷ ss) ss' [] held' a b = absurd a
AreIn-append slots size i (s ∷ ss) ss' (x ∷ xs) held' a b =
    let e : i + length (s ∷ ss) ≡ suc i + length ss = omega arith in
    (a.0, AreIn-append slots size (suc i) ss ss' xs held' a.1 (subst (λ (n : ℕ). AreIn slots size n ss' held') e b))

pub next : (slots size i t : ℕ) (ss : List Sent) (held : List (ℕ × Cell)) → Turned slots size i t ss held → t < length ss → Next slots size i t ss held
next slots size i t ss held h less = by h.front h.parts (subst (λ (xs : List Sent). AreIn slots size (i + t) xs h.front) more h.first)
  where
    nil : Sent
    nil = record { scan = []; lost = 0 }

    more : drop t ss ≡ sent_at ss t ∷ drop (t + 1) ss
    more = drop_more ss t nil less

    one_more : t + 1 ≤ length ss
    one_more = omega (arith, less)

    on : suc (i + t) ≡ i + (t + 1)
    on = omega arith

    all : i + t ≡ i + length (take t ss)
    all = omega (arith, length-take-le t ss h.few)

    by : (front : List (ℕ × Cell)) → held ≡ front ++ h.back → AreIn slots size (i + t) (sent_at ss t ∷ drop (t + 1) ss) front → Next slots size i t ss held
    by [] parts are = absurd are
    by (x ∷ front) parts are = record {
      cell = x.1;
      behind = front ++ h.back;
      is = parts ∙ ap (λ (n : ℕ). (n, x.1) ∷ (front ++ h.back)) are.0.place;
      sized = are.0.sized;
      sent = are.0.sent;
      sum = are.0.sum;
      after = record {
        front = front;
        back = h.back ++ x ∷ [];
        parts = ap (λ (l : List (ℕ × Cell)). turned l) parts ∙ append_assoc front h.back (x ∷ []);
        few = one_more;
        first = subst (λ (n : ℕ). AreIn slots size n (drop (t + 1) ss) front) on are.1;
        last = subst (λ (xs : List Sent). AreIn slots size i xs (h.back ++ x ∷ [])) (sym (take_more ss t nil less))
            (AreIn-append slots size i (take t ss) (sent_at ss t ∷ []) h.back (x ∷ []) h.last
            (subst (λ (n : ℕ). AreIn slots size n (sent_at ss t ∷ []) (x ∷ [])) all (are.0, tt)));
      };
    }

pub front_is : (held behind : List (ℕ × Cell)) (i j : ℕ) (c : Cell) → i ≡ j → held ≡ (i, c) ∷ behind → held ≡ (j, c) ∷ rest held
front_is held behind i j c d e =
    let r : rest held ≡ behind = ap (λ (l : List (ℕ × Cell)). rest l) e in
    rw (r, ← d) e

pub hand_is : (held behind : List (ℕ × Cell)) (i : ℕ) (c : Cell) → held ≡ (i, c) ∷ behind → in_hand held ≡ c.bytes.items
hand_is held behind i c e = ap (λ (l : List (ℕ × Cell)). in_hand l) e

cell_at : List (ℕ × Cell) → Cell → Cell
cell_at [] d = d
cell_at (x ∷ xs) d = x.1

pub same_cell : (xs ys zs : List (ℕ × Cell)) (s t : ℕ) (c d : Cell) → xs ≡ (s, c) ∷ ys → xs ≡ (t, d) ∷ zs → c ≡ d
unfolding cell_at
same_cell xs ys zs s t c d e f = ap (λ (l : List (ℕ × Cell)). cell_at l c) (sym e ∙ f)

-- ---- scans were received

-- the slots in hand are those of the view after a load, and the first `m` of their scans are received
pub may_receive : (k : Key) (slots n m t : ℕ) (a : View) (b : Me Cell View) (v : View) (held : List (ℕ × Cell)) (count : ℕ) → (g : InHand slots n a b)
    → a.part ≡ Reads → slots ≡ k.slots → a.size ≡ k.size
    → v ≡ b.0 → Turned slots a.size (length a.reading.received) t g.hand held → count ≡ length a.reading.received → m ≤ length g.hand
    → MayReceive k v held (count + m)
may_receive k slots n m t a b v held count g reads same size is are counted few = rw (is, g.view) (record {
  reads = reads;
  turns = t;
  are = same_size k slots a.size k.size (length a.reading.received) t g.hand held same size are;
  low = omega (arith, counted);
  few = omega (arith, counted, few);
})

-- ---- bytes of a run

pub flat_more : (ss : List Sent) (t : ℕ) → t < length ss
    → flat_map (λ (s : Sent). s.scan) (take (t + 1) ss) ≡ flat_map (λ (s : Sent). s.scan) (take t ss) ++ (sent_at ss t).scan
flat_more ss t less =
    let scan : Sent → List ℕ = λ s. s.scan in
    ap (λ (xs : List Sent). flat_map scan xs) (take_more ss t (record { scan = []; lost = 0 }) less) ∙ flat_map-append scan (take t ss) (sent_at ss t ∷ [])
    ∙ ap (λ (ys : List ℕ). flat_map scan (take t ss) ++ ys) (append-nil (sent_at ss t).scan)

-- the slot after that of a place
pub next_mod : (slots i t at : ℕ) → 0 < slots → at ≡ (i + t) % slots → (at + 1) % slots ≡ (i + (t + 1)) % slots
next_mod slots i t at room e =
    let m = i + t in
    let all : (at + 1) + slots * (m / slots) ≡ i + (t + 1) = omega (arith, div-add-mod m slots, e) in
    sym (add-mul-mod_self_left (at + 1) slots (m / slots)) ∙ ap (λ (n : ℕ). n % slots) all
