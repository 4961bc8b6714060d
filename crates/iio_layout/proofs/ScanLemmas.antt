-- A scan as it is filled: channel by channel of the mask.
use Rattle.std.proofs.Common.{◌≡◌, ℕ, zero, suc, ◌+◌, ◌-◌, ◌%◌, ◌^◌, ◌<◌, ◌≤◌, max, Bool, true, false, cond, length, length-append, List, [], ◌∷◌, ◌++◌, refl, sym, ap, ◌∙◌, inl, inr, arith, append-nil, bit_and, rules}
use Rattle.std.specs.Prelude.{filter}
use Rattle.std.specs.List.{range_with_len}
use Rattle.std.specs.Int.{IsPowerOfTwo, next_multiple_of}
use Rattle.std.proofs.lemmas.Bool.{cases_lt}
use Rattle.std.proofs.lemmas.List.Elements.{filter-append}
use Rattle.std.proofs.lemmas.Nat.{and_mask}
use Rattle.std.proofs.lemmas.Nat.Bits.{bit_at_above}
use Rattle.iio_mask.specs.Mask.{channels_below, channels_of, has}
use Rattle.iio_scan_type.specs.Format.{Format}
use Rattle.iio_layout.specs.Layout.{end_below, largest_below, size_at}
use Rattle.iio_layout.specs.Scan.{field_at, front_below, padded}
use Rattle.iio_layout.proofs.SelectedLemmas.{range_more}
use Rattle.std.specs.Prelude.{ℤ}

-- the remainder by a power of two
pub and_size : (n size : ℕ) → IsPowerOfTwo size → bit_and n (size - 1) ≡ n % size
and_size n size power = rw power.1 (and_mask n power.0)

-- ---- the channels of a mask

pub has-below : (mask n c : ℕ) → mask < 2 ^ n → has mask c ≡ true → c < n
has-below mask n c small there = search (rules, bit_at_above)

channels_more : (mask n : ℕ) → channels_below mask (suc n) ≡ channels_below mask n ++ cond (has mask n) (n ∷ []) []
channels_more mask n =
    let last : range_with_len 0 (suc n) ≡ range_with_len 0 n ++ n ∷ [] = range_more 0 n ∙ ap (λ (k : ℕ). range_with_len 0 n ++ k ∷ []) (omega arith) in
    ap (filter (λ c. has mask c)) last ∙ filter-append (λ c. has mask c) (range_with_len 0 n) (n ∷ [])

-- a mask has no channel above its number of bits
channels_within : (mask n m : ℕ) → mask < 2 ^ n → n ≤ m → channels_below mask m ≡ channels_below mask n
channels_within mask n zero small within = let same : n ≡ 0 = omega arith in rw same refl
channels_within mask n (suc m) small within =
    elim (cases_lt m n) [
      | inl all ↦ let same : n ≡ suc m = omega arith in rw same refl
      | inr more ↦
          let none : has mask m ≡ false = rw (bit_at_above mask n m small more) refl in
          channels_more mask m ∙ rw none (append-nil (channels_below mask m)) ∙ channels_within mask n m small more
    ]

pub channels_of-within : (mask n : ℕ) → mask < 2 ^ 64 → mask < 2 ^ n → channels_of mask ≡ channels_below mask n
unfolding channels_of
channels_of-within mask n fits small =
    elim (cases_lt n 64) [
      | inl few ↦ channels_within mask n 64 small (omega arith)
      | inr many ↦ sym (channels_within mask 64 n fits many)
    ]

-- ---- where they end, and their bytes

-- where these channels end, after others that end at `end`
abbrev pub end_over : List Format → ℕ → List ℕ → ℕ
end_over formats end [] = end
end_over formats end (c ∷ cs) = end_over formats (next_multiple_of end (size_at formats c) + size_at formats c) cs

-- the size of the largest of these channels, and of others of which the largest has this size
abbrev pub largest_over : List Format → ℕ → List ℕ → ℕ
largest_over formats largest [] = largest
largest_over formats largest (c ∷ cs) = largest_over formats (max largest (size_at formats c)) cs

-- these channels, appended to the bytes before them
abbrev pub front_over : List Format → List ℤ → List ℕ → List ℕ → List ℕ
front_over formats values front [] = front
front_over formats values front (c ∷ cs) = front_over formats values (padded front (size_at formats c) ++ field_at formats values c) cs

pub end_over-ge : (formats : List Format) (end : ℕ) (cs : List ℕ) → end ≤ end_over formats end cs
end_over-ge formats end [] = omega arith
end_over-ge formats end (c ∷ cs) = search (rules, end_over-ge formats (next_multiple_of end (size_at formats c) + size_at formats c) cs)

end_over-append : (formats : List Format) (end : ℕ) (cs ds : List ℕ) → end_over formats end (cs ++ ds) ≡ end_over formats (end_over formats end cs) ds
end_over-append formats end [] ds = refl
end_over-append formats end (c ∷ cs) ds = end_over-append formats (next_multiple_of end (size_at formats c) + size_at formats c) cs ds

front_over-append : (formats : List Format) (values : List ℤ) (front cs ds : List ℕ)
    → front_over formats values front (cs ++ ds) ≡ front_over formats values (front_over formats values front cs) ds
front_over-append formats values front [] ds = refl
front_over-append formats values front (c ∷ cs) ds = front_over-append formats values (padded front (size_at formats c) ++ field_at formats values c) cs ds

pub end_over-all : (formats : List Format) (mask n : ℕ) → end_over formats 0 (channels_below mask n) ≡ end_below formats mask n
end_over-all formats mask zero = refl
end_over-all formats mask (suc n) = search (rules, channels_more, end_over-append, end_over-all formats mask n)

largest_over-append : (formats : List Format) (largest : ℕ) (cs ds : List ℕ)
    → largest_over formats largest (cs ++ ds) ≡ largest_over formats (largest_over formats largest cs) ds
largest_over-append formats largest [] ds = refl
largest_over-append formats largest (c ∷ cs) ds = largest_over-append formats (max largest (size_at formats c)) cs ds

pub largest_over-all : (formats : List Format) (mask n : ℕ) → largest_over formats 0 (channels_below mask n) ≡ largest_below formats mask n
largest_over-all formats mask zero = refl
largest_over-all formats mask (suc n) =
    ap (largest_over formats 0) (channels_more mask n)
    ∙ largest_over-append formats 0 (channels_below mask n) (cond (has mask n) (n ∷ []) [])
    ∙ by (has mask n)
    ∙ ap (λ (k : ℕ). max k (cond (has mask n) (size_at formats n) 0)) (largest_over-all formats mask n)
  where
    by : (b : Bool) → largest_over formats (largest_over formats 0 (channels_below mask n)) (cond b (n ∷ []) [])
        ≡ max (largest_over formats 0 (channels_below mask n)) (cond b (size_at formats n) 0)
    by true = refl
    by false = omega arith

-- a mask has no more channels than bits
pub channels_few : (mask n : ℕ) → length (channels_below mask n) ≤ n
channels_few mask zero = omega arith
channels_few mask (suc n) =
    let few = channels_few mask n in
    rw (channels_more mask n, length-append (channels_below mask n) (cond (has mask n) (n ∷ []) [])) (one (length (channels_below mask n)) n (has mask n) few)
  where
    one : (k m : ℕ) (b : Bool) → k ≤ m → k + length (cond b (m ∷ []) []) ≤ suc m
    one k m true few = omega (arith, few)
    one k m false few = omega (arith, few)

no_more : (xs : List ℕ) (b : Bool) (n : ℕ) → xs ++ cond b (n ∷ []) [] ≡ [] → (xs ≡ []) × (b ≡ false)
no_more [] b n e = search rules
no_more (x ∷ xs) b n e = cc

-- a mask without channels has none of them
pub channels_none : (mask n c : ℕ) → channels_below mask n ≡ [] → c < n → has mask c ≡ false
channels_none mask zero c none below = absurd (omega (arith, below))
channels_none mask (suc n) c none below =
    let parts = no_more (channels_below mask n) (has mask n) n (sym (channels_more mask n) ∙ none) in
    elim (cases_lt c n) [
      | inl less ↦ channels_none mask n c parts.0 less
      | inr last ↦ let same : c ≡ n = omega (arith, below, last) in rw same parts.1
    ]

pub front_over-all : (formats : List Format) (values : List ℤ) (mask n : ℕ)
    → front_over formats values [] (channels_below mask n) ≡ front_below formats mask values n
front_over-all formats values mask zero = refl
front_over-all formats values mask (suc n) = search (rules, channels_more, front_over-append, front_over-all formats values mask n)
