-- Shapes: channels that are the same, listed masks, and where values begin.
use Rattle.std.proofs.Common.{◌≡◌, ℕ, ◌+◌, ◌<◌, ◌≤◌, ◌==◌, nat_lt, if◌then◌else◌, Bool, true, false, List, [], ◌∷◌, length, get_or, map, take, All, Option, Some, None, refl, sym, ap, ◌∙◌, subst, arith, rules}
use Rattle.std.proofs.lemmas.Grind.{common_steps}
use Rattle.std.specs.List.{AllPairs, list_any, position}
use Rattle.std.proofs.lemmas.Bool.{cond_above, false≢true, false_from_ne_true, true≢false}
use Rattle.std.proofs.lemmas.List.{get_or-map, get_or-take, get_or_read, length-map, length-take}
use Rattle.std.proofs.lemmas.List.Folds.{Any-from_list_any, list_any_at}
use Rattle.std.proofs.lemmas.List.Sums.{position_or_len_is}
use Rattle.iio_layout.specs.declared.channel.Channel.{Channel}
use Rattle.iio_layout.specs.declared.channel.Kind.{Kind}
use Rattle.iio_layout.specs.declared.channel.Suffix.{Suffix}
use Rattle.iio_layout.specs.declared.channel.Suffix.TheVariants.{Number, X, Y}
use Rattle.iio_layout.specs.Id.{id_of, kind_rank, same_id, suffix_rank}
use Rattle.iio_layout.specs.Shape.{ShapeRecord, channel_of, id_at, same_channel}
use Rattle.iio_layout.specs.View.{AreNumbered}

-- a channel that is the same as one before it
pub repeats : (xs : List Channel) (c : ℕ) (x : Channel) → c < length xs → x ≡ get_or xs c x
    → list_any (λ before. same_channel before x) (take c xs) ≡ true → AllPairs (λ a b. same_channel a b ≡ false) xs → ⊥
repeats xs c x within is some distinct =
    let found = Any-from_list_any (λ before. same_channel before x) (take c xs) some in
    let y = found.1 in
    let below : found.0 < c = omega (arith, length-take c xs, found.2) in
    let at : get_or xs found.0 y ≡ y = sym (get_or-take c xs found.0 y below) ∙ found.3 in
    let apart = distinct found.0 c y below within in
    let other = rw (at, sym (get_or_read xs c x within is y)) at apart in
    true≢false (sym found.4 ∙ other)

-- a channel that isn't the same as any before it
pub differs : (xs : List Channel) (c : ℕ) (x : Channel) → c < length xs → x ≡ get_or xs c x
    → list_any (λ before. same_channel before x) (take c xs) ≡ false
    → (i : ℕ) (d : Channel) → i < c → same_channel (get_or xs i d) (get_or xs c d) ≡ false
differs xs c x within is none i d below =
    false_from_ne_true (same_channel (get_or xs i d) (get_or xs c d)) (λ same.
    let here : same_channel (get_or (take c xs) i d) x ≡ true = grind (arith, common_steps) in
    let some = list_any_at (λ before. same_channel before x) (take c xs) i d (omega (arith, length-take c xs)) here in
    false≢true (sym none ∙ some))

-- facts of the listed numbers are facts of the masks
pub All-unmap : {X Y : Type 0} (P : Y → Type 0) (f : X → Y) (xs : List X) → All P (map f xs) → All (λ x. P (f x)) xs
All-unmap P f xs each = λ k d within.
    subst P (get_or-map f xs k d (f d) within) (each k (f d) (omega (arith, length-map xs f)))

-- the first channel of the ID that a text spells
pub channel_of-at : (shape : ShapeRecord) (text : List ℕ) (id : Kind × Suffix) (o : Option ℕ) → Some id ≡ id_of text
    → o ≡ position (λ channel. same_id (id_at channel) id) shape.channels → o ≡ channel_of shape text
channel_of-at shape text id o spelled is = rw (← spelled) is

-- ---- the first place that passes

-- the first place that passes: it passes, and none before it does
pub first_place : {X : Type 0} (p : X → Bool) (xs : List X) (i : ℕ) (d : X) → i < length xs
    → ((k : ℕ) → k < i → p (get_or xs k d) ≡ false) → p (get_or xs i d) ≡ true → position p xs ≡ Some i
first_place p xs i d within fails passes = search (rules, position_or_len_is)

-- no place passes
pub no_place : {X : Type 0} (p : X → Bool) (xs : List X) → ((k : ℕ) (d : X) → k < length xs → p (get_or xs k d) ≡ false)
    → position p xs ≡ None
no_place p [] fails = refl
no_place p (x ∷ xs) fails =
    let all = length (x ∷ xs) in
    ap (λ (n : ℕ). if nat_lt n all then Some n else None)
    (position_or_len_is p (x ∷ xs) all x (omega arith) (λ k l. fails k x l) (λ l. absurd (omega (arith, l))))
    ∙ sym (cond_above all all (Some all) None None (omega arith) refl)

-- the first place that passes is a place of the list
pub place_within : {X : Type 0} (p : X → Bool) (xs : List X) (i : ℕ) → Some i ≡ position p xs → i < length xs
place_within p xs i is = search rules

-- ---- channels of which each has its place for its number

-- a channel has no ID with another number than its own
other_number : (kind : Kind) (suffix : Suffix) (x : Channel) (n : ℕ) → x.suffix ≡ Number n → (n + 4 ≡ suffix_rank suffix → ⊥)
    → same_id (id_at x) (kind, suffix) ≡ false
other_number kind suffix x n is other = search rules

-- a channel has the ID with its own number if it has the ID's kind
own_number : (kind : Kind) (x : Channel) (n : ℕ) → x.suffix ≡ Number n
    → same_id (id_at x) (kind, Number n) ≡ (kind_rank x.kind == kind_rank kind)
own_number kind x n is = search rules

-- a suffix that is no number has the rank of no number
not_numbered : (suffix : Suffix) → ((n : ℕ) → suffix ≡ Number n → ⊥) → (n : ℕ) → n + 4 ≡ suffix_rank suffix → ⊥
not_numbered suffix none n is = search rules

-- an ID without a number isn't found
pub none_numbered : (kind : Kind) (suffix : Suffix) (xs : List Channel) → AreNumbered xs → ((n : ℕ) → suffix ≡ Number n → ⊥)
    → None ≡ position (λ channel. same_id (id_at channel) (kind, suffix)) xs
none_numbered kind suffix xs are none = grind (arith, common_steps, no_place, other_number, not_numbered)

-- an ID with a number that is no place isn't found
pub number_above : (kind : Kind) (n : ℕ) (xs : List Channel) → AreNumbered xs → length xs ≤ n
    → None ≡ position (λ channel. same_id (id_at channel) (kind, Number n)) xs
number_above kind n xs are above = search (rules, no_place, other_number)

-- an ID whose number is the place of a channel of another kind isn't found
pub number_of_other_kind : (kind : Kind) (n : ℕ) (x : Channel) (xs : List Channel) → AreNumbered xs → n < length xs → x ≡ get_or xs n x
    → (kind_rank x.kind == kind_rank kind) ≡ false → None ≡ position (λ channel. same_id (id_at channel) (kind, Number n)) xs
number_of_other_kind kind n x xs are within is other = grind (arith, common_steps, no_place, own_number, other_number)

-- an ID whose number is the place of a channel of its kind is found there
pub number_of_kind : (kind : Kind) (n : ℕ) (x : Channel) (xs : List Channel) → AreNumbered xs → n < length xs → x ≡ get_or xs n x
    → (kind_rank x.kind == kind_rank kind) ≡ true → Some n ≡ position (λ channel. same_id (id_at channel) (kind, Number n)) xs
number_of_kind kind n x xs are within is same = search (rules, first_place, other_number, own_number)
