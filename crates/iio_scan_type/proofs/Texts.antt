-- A text that is read has the spelling, and a text that has the spelling is read.
use Rattle.std.proofs.Common.{◌≡◌, ℕ, ◌+◌, ◌-◌, ◌*◌, ◌/◌, ◌%◌, ◌<◌, ◌≤◌, List, [], ◌∷◌, ◌++◌, refl, ap, sym, ◌∙◌, subst, arith, Bool, true, false, cond, ◌==◌, ◌⊎◌, inl, inr, ltb, IfSome, Option, Some, None, codes, append_assoc, append-nil, rules}
use Rattle.std.proofs.lemmas.Option.{same_Some, cond_some, option_and_then_some}
use Rattle.std.proofs.lemmas.Fmt.{decimal_digit, decimal_step}
use Rattle.std.proofs.lemmas.Bool.Decides.{nat_tests}
use Rattle.std.specs.Fmt.{decimal}
use Rattle.iio_scan_type.specs.Text.{after_byte, endian_at, endian_text, sign_at, sign_text, is_digit, is_empty, second_digit, small_at, repeat_at, repeat_text, shift_at, profiled, type_of, short_text, IsTypeText}
use Rattle.iio_scan_type.specs.Format.{Format, IsInProfile, in_profile}
use Rattle.iio_scan_type.specs.declared.Sign.{Sign}
use Rattle.iio_scan_type.specs.declared.Endian.{Endian}
use Rattle.iio_scan_type.proofs.Numbers.{bounds_of}

-- ---- numbers of one or two digits

pub two_digits : (x y : ℕ) → 0 < x → x < 10 → y < 10 → decimal (10 * x + y) ≡ (48 + x) ∷ (48 + y) ∷ []
two_digits x y some small last = search (rules, decimal_step, decimal_digit)

second_is : (x : ℕ) (bs : List ℕ) → 0 < x → x < 10 → (48 + x) ∷ bs ≡ decimal ((second_digit x bs).0) ++ (second_digit x bs).1
second_is x bs some small = search (rules, decimal_digit, two_digits)

first_is : (b : ℕ) (bs : List ℕ) → 48 ≤ b → b ≤ 57 → (p : ℕ × List ℕ) → cond (b == 48) (0, bs) (second_digit (b - 48) bs) ≡ p → b ∷ bs ≡ decimal p.0 ++ p.1
first_is b bs low high p h = search (rules, decimal_digit, second_is)

-- ---- what is read is spelled so

-- the two cases of a choice
chosen : {A P : Type 0} (b : Bool) (x y z : A) → cond b x y ≡ z → (b ≡ true → x ≡ z → P) → (b ≡ false → y ≡ z → P) → P
chosen b x y z h j k = search rules

after_byte_takes : (c : ℕ) (text rest : List ℕ) → after_byte c text ≡ Some rest → text ≡ c ∷ rest
after_byte_takes c text rest h = search rules

endian_takes : (text : List ℕ) (p : Endian × List ℕ) → endian_at text ≡ Some p → text ≡ endian_text p.0 ++ p.1
endian_takes text p h = search rules

sign_takes : (text : List ℕ) (p : Sign × List ℕ) → sign_at text ≡ Some p → text ≡ sign_text p.0 ++ p.1
sign_takes text p h = search rules

small_takes : (text : List ℕ) (p : ℕ × List ℕ) → small_at text ≡ Some p → text ≡ decimal p.0 ++ p.1
small_takes text p h = search (rules, first_is)

repeat_takes : (text : List ℕ) (p : ℕ × List ℕ) → repeat_at text ≡ Some p → text ≡ repeat_text p.0 ++ p.1
repeat_takes text p h = search (rules, same_Some, chosen, small_takes)

shift_takes : (text : List ℕ) (n : ℕ) → shift_at text ≡ Some n → (text ≡ codes ">>" ++ decimal n) ⊎ ((n ≡ 0) × (text ≡ []))
shift_takes [] n h = inr (sym (same_Some 0 n h), refl)
shift_takes (b ∷ bs) n h =
    option_and_then_some _ (after_byte 62 (b ∷ bs)) n h (λ r e g.
    option_and_then_some _ (after_byte 62 r) n g (λ r2 e2 g2.
    option_and_then_some _ (small_at r2) n g2 (λ s e3 g3.
    inl (ended s r r2 (after_byte_takes 62 (b ∷ bs) r e) (after_byte_takes 62 r r2 e2) (small_takes r2 s e3) g3))))
  where
    ended : (s : ℕ × List ℕ) (r r2 : List ℕ) → b ∷ bs ≡ 62 ∷ r → r ≡ 62 ∷ r2 → r2 ≡ decimal s.0 ++ s.1 → cond (is_empty s.1) (Some s.0) None ≡ Some n
        → b ∷ bs ≡ codes ">>" ++ decimal n
    ended s r r2 x y z g = search rules

regroup : (a b c t p r : List ℕ) → (a ++ (b ++ (c ++ (47 ∷ (t ++ p))))) ++ r ≡ a ++ (b ++ (c ++ (47 ∷ (t ++ (p ++ r)))))
regroup a b c t p r = simp append_assoc

pub type_takes : (text : List ℕ) (f : Format) → type_of text ≡ Some f → IsInProfile f × IsTypeText text f
type_takes text f h =
    option_and_then_some _ (endian_at text) f h (λ e he g.
    option_and_then_some _ (sign_at e.1) f g (λ s hs g.
    option_and_then_some _ (small_at s.1) f g (λ real hreal g.
    option_and_then_some _ (after_byte 47 real.1) f g (λ slash hslash g.
    option_and_then_some _ (small_at slash) f g (λ storage hstorage g.
    option_and_then_some _ (repeat_at storage.1) f g (λ repeat hrepeat g.
    option_and_then_some _ (shift_at repeat.1) f g (λ shift hshift g.
    made (record {
      sign = s.0;
      realbits = real.0;
      storagebits = storage.0;
      shift = shift;
      repeat = repeat.0;
      endian = e.0;
    }) repeat.1 g
    (endian_takes text e he
    ∙ ap (λ t. endian_text e.0 ++ t) (sign_takes e.1 s hs
    ∙ ap (λ t. sign_text s.0 ++ t) (small_takes s.1 real hreal
    ∙ ap (λ t. decimal real.0 ++ t) (after_byte_takes 47 real.1 slash hslash
    ∙ ap (λ t. 47 ∷ t) (small_takes slash storage hstorage
    ∙ ap (λ t. decimal storage.0 ++ t) (repeat_takes storage.1 repeat hrepeat)))))
    ∙ sym (regroup (endian_text e.0) (sign_text s.0) (decimal real.0) (decimal storage.0) (repeat_text repeat.0) repeat.1))
    (shift_takes repeat.1 shift hshift))))))))
  where
    spelled : (g : Format) (rest : List ℕ) → text ≡ short_text g ++ rest → (rest ≡ codes ">>" ++ decimal g.shift) ⊎ ((g.shift ≡ 0) × (rest ≡ []))
        → IsTypeText text g
    spelled g rest e h1 = search rules

    made : (g : Format) (rest : List ℕ) → profiled g ≡ Some f → text ≡ short_text g ++ rest
        → (rest ≡ codes ">>" ++ decimal g.shift) ⊎ ((g.shift ≡ 0) × (rest ≡ [])) → IsInProfile f × IsTypeText text f
    made g rest h e r =
        let q = cond_some (in_profile g) g f h in
        let P : Format → Type 0 = λ k. IsInProfile k × IsTypeText text k in
        subst P q.1 (q.0, spelled g rest e r)

pub found : (text : List ℕ) (o : Option Format) → o ≡ type_of text → IfSome o (λ f. IsInProfile f × IsTypeText text f)
found text o e = search (rules, type_takes)

-- ---- what is spelled so is read

abbrev starts_digit : List ℕ → Bool
starts_digit [] = false
starts_digit (b ∷ bs) = is_digit b

abbrev starts_repeat : List ℕ → Bool
starts_repeat [] = false
starts_repeat (b ∷ bs) = b == 88

one_again : (x : ℕ) (rest : List ℕ) → x < 10 → starts_digit rest ≡ false → small_at ((48 + x) ∷ rest) ≡ Some (x, rest)
one_again x rest small h = search rules

two_again : (x y : ℕ) (rest : List ℕ) → 0 < x → x < 10 → y < 10 → small_at ((48 + x) ∷ (48 + y) ∷ rest) ≡ Some (10 * x + y, rest)
two_again x y rest some small last = search rules

small_again : (n : ℕ) (rest : List ℕ) → n < 100 → starts_digit rest ≡ false → small_at (decimal n ++ rest) ≡ Some (n, rest)
small_again n rest small h = by_cases (ltb n 10) refl
  where
    by_cases : (t : Bool) → ltb n 10 ≡ t → small_at (decimal n ++ rest) ≡ Some (n, rest)
    by_cases true t = search (rules, decimal_digit, one_again)
    by_cases false t =
        let two : 10 ≤ n = grind (arith, nat_tests) in
        let whole : 10 * (n / 10) + n % 10 ≡ n = omega arith in
        ap (λ d. small_at (d ++ rest)) (ap decimal (sym whole) ∙ two_digits (n / 10) (n % 10) (omega arith) (omega arith) (omega arith))
        ∙ two_again (n / 10) (n % 10) rest (omega arith) (omega arith) (omega arith) ∙ ap (λ m. Some (m, rest)) whole

endian_again : (e : Endian) (rest : List ℕ) → endian_at (endian_text e ++ rest) ≡ Some (e, rest)
endian_again e rest = search rules

sign_again : (s : Sign) (rest : List ℕ) → sign_at (sign_text s ++ rest) ≡ Some (s, rest)
sign_again s rest = search rules

-- what may follow the storage bits: a repeat, or neither that nor a digit
repeat_again : (n : ℕ) (rest : List ℕ) → n < 100 → starts_digit rest ≡ false → starts_repeat rest ≡ false → repeat_at (repeat_text n ++ rest) ≡ Some (n, rest)
repeat_again n rest small h k = search (rules, small_again)

repeat_no_digit : (n : ℕ) (rest : List ℕ) → starts_digit rest ≡ false → starts_digit (repeat_text n ++ rest) ≡ false
repeat_no_digit n rest h = search rules

shift_again : (n : ℕ) → n < 100 → shift_at (codes ">>" ++ decimal n) ≡ Some n
shift_again n small =
    let e : small_at (decimal n) ≡ Some (n, []) = ap small_at (sym (append-nil (decimal n))) ∙ small_again n [] small refl in
    rw e refl

spelled_again : (f : Format) (rest : List ℕ) → IsInProfile f → starts_digit rest ≡ false → starts_repeat rest ≡ false → shift_at rest ≡ Some f.shift
    → type_of (short_text f ++ rest) ≡ Some f
spelled_again f rest p h k s = search (rules, bounds_of, small_again, repeat_no_digit, repeat_again, regroup, endian_again, sign_again)

pub only : (text : List ℕ) (f : Format) → IsInProfile f → IsTypeText text f → type_of text ≡ Some f
only text f p (inl e) = search (rules, bounds_of, spelled_again, shift_again)
only text f p (inr (z, e)) = ap type_of (e ∙ sym (append-nil (short_text f))) ∙ spelled_again f [] p refl refl (ap Some (sym z))
