use Rattle.std.proofs.Common.{◌≡◌, ◌==◌, ℕ, Bool, true, false, cond, List, [], ◌∷◌, length, map, Option, Some, option_map, find, refl, ap, ◌∙◌, rules, tests}
use Rattle.std.proofs.lemmas.Iterator.{YieldsList-from_slice}
use Rattle.std.proofs.lemmas.Iterator.Search.{find_from_yields_List}
use Rattle.iio_mask.specs.Mask.{is_within, matching_mask}
use Rattle.iio_mask.specs.declared.Mask.{Mask}
use Rattle.iio_mask.proofs.pick.Goals as goal

-- the first that passes, of the numbers
cond_mapped : {A B : Type 0} (b : Bool) (f : A → B) (x : A) (o : Option A) → option_map f (cond b (Some x) o) ≡ cond b (Some (f x)) (option_map f o)
cond_mapped true f x o = refl
cond_mapped false f x o = refl

find-map : {A B : Type 0} (p : B → Bool) (f : A → B) (xs : List A) → option_map f (find (λ x. p (f x)) xs) ≡ find p (map f xs)
find-map p f [] = refl
find-map p f (x ∷ xs) =
    cond_mapped (p (f x)) f x (find (λ y. p (f y)) xs) ∙ ap (cond (p (f x)) (Some (f x))) (find-map p f xs)

matching_mask-listed : (listed : List Mask) (wanted : ℕ) → false ≡ (length listed == 0)
    → option_map (λ m. m.bits) (find (λ m. is_within wanted m.bits) listed) ≡ matching_mask (map (λ m. m.bits) listed) wanted
matching_mask-listed [] wanted h = cc h
matching_mask-listed (m ∷ ms) wanted h = find-map (λ bits. is_within wanted bits) (λ (x : Mask). x.bits) (m ∷ ms)

pub returns : goal.returns
returns c =
    let found =
    find_from_yields_List (λ m. is_within c.args.wanted.bits m.bits) _ _ c.find.result c.find.ensures.ran (YieldsList-from_slice c.args.listed.now cc)
    (λ x b q k. search (rules, tests)) in
    ap (option_map (λ m. m.bits)) (c.copied.ensures ∙ found) ∙ matching_mask-listed c.args.listed.now c.args.wanted.bits c.if-is_empty.ensures
