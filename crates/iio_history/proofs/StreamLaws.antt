-- What a connection sent: what further bytes complete depends only on what was begun.
use Rattle.std.proofs.Common.{◌≡◌, ℕ, ◌||◌, Bool, false, List, [], ◌∷◌, ◌++◌, map, is_some, cond, refl, ap, ◌∙◌, arith, rules}
use Rattle.std.proofs.lemmas.Grind.{common_steps}
use Rattle.std.specs.Str.{bytes_eq}
use Rattle.iiod_grammar.specs.Stream.{Scanner, after_byte, scanner_after}
use Rattle.iio_history.specs.Event.{Event, Arrived}
use Rattle.iio_history.specs.Registry.{Setup, ConnectionRecord, Registry, user_named}
use Rattle.iio_history.specs.Fold.{user_after, newcomers, new_user, users_after, registry_after}
use Rattle.iio_history.specs.Told.{user_of, line_told, stream_of, begun_of}
use Rattle.iio_history.specs.Machine.{begun_after, line_after, new_line}

-- ---- bytes

begun_more : (s : Scanner) (before bytes : List ℕ) → scanner_after s (before ++ bytes) ≡ scanner_after (scanner_after s before) bytes
begun_more s [] bytes = refl
begun_more s (b ∷ bs) bytes = begun_more (after_byte s b).next bs bytes

-- ---- connections

begun_is : (e : Event) (h : List Event) (name : List ℕ) → begun_of (stream_of name (e ∷ h)) ≡ begun_after e name (begun_of (stream_of name h))
begun_is e h name = search (rules, begun_more)

lines_kept : (s : Setup) (r : Registry) (e : Event) (h : List Event) (us : List ConnectionRecord)
    → map (line_told (e ∷ h)) (map (user_after s r e) us) ≡ map (line_after s r e) (map (line_told h) us)
lines_kept s r e h [] = refl
lines_kept s r e h (u ∷ us) = simp (begun_is, lines_kept s r e h us)

-- a connection that isn't there has sent nothing
abbrev has_user : List ℕ → List ConnectionRecord → Bool
has_user name us = is_some (user_named name us)

has_first : (name : List ℕ) (u : ConnectionRecord) (us : List ConnectionRecord) → has_user name (u ∷ us) ≡ (bytes_eq u.who name || has_user name us)
has_first name u us = search rules

has_more : (name : List ℕ) (us more : List ConnectionRecord) → has_user name (us ++ more) ≡ (has_user name us || has_user name more)
has_more name [] more = refl
has_more name (u ∷ us) more = search (rules, has_first, has_more name us more)

has_kept : (s : Setup) (r : Registry) (e : Event) (name : List ℕ) (us : List ConnectionRecord) → has_user name (map (user_after s r e) us) ≡ has_user name us
has_kept s r e name [] = refl
has_kept s r e name (u ∷ us) = simp (has_first, has_kept s r e name us)

parts : (a b : Bool) → (a || b) ≡ false → (a ≡ false) × (b ≡ false)
parts a b h = search rules

absent_before : (s : Setup) (r : Registry) (e : Event) (name : List ℕ) → has_user name (users_after s r e) ≡ false → (has_user name r.users ≡ false)
    × (has_user name (newcomers s e r.users) ≡ false)
absent_before s r e name h = search (rules, parts, has_more, has_kept)

stranger : (s : Setup) (speaker name : List ℕ) (us : List ConnectionRecord) (x : Bool) → has_user speaker us ≡ x → has_user name us ≡ false
    → has_user name (cond x [] (new_user s speaker ∷ [])) ≡ false → bytes_eq speaker name ≡ false
stranger s speaker name us x is absent h = search rules

pub absent_sent : (s : Setup) (h : List Event) (name : List ℕ) → has_user name (registry_after s h).users ≡ false → stream_of name h ≡ []
absent_sent s [] name absent = refl
absent_sent s (Arrived speaker bytes ∷ h) name absent =
    let r = registry_after s h in
    let before = absent_before s r (Arrived speaker bytes) name absent in
    ap (λ (b : Bool). cond b (stream_of name h ++ bytes) (stream_of name h)) (stranger s speaker name r.users (has_user speaker r.users) refl before.0 before.1)
    ∙ absent_sent s h name before.0
absent_sent s (e ∷ h) name absent = absent_sent s h name (absent_before s (registry_after s h) e name absent).0

newcomers_are : (s : Setup) (e : Event) (h : List Event)
    → map (line_told (e ∷ h)) (newcomers s e (registry_after s h).users) ≡ map (new_line e) (newcomers s e (registry_after s h).users)
newcomers_are s e h = search (rules, begun_is, absent_sent)

pub lines_are : (s : Setup) (e : Event) (h : List Event)
    → map (line_told (e ∷ h)) (users_after s (registry_after s h) e)
    ≡ map (line_after s (registry_after s h) e) (map (line_told h) (registry_after s h).users) ++ map (new_line e) (newcomers s e (registry_after s h).users)
lines_are s e h = grind (arith, common_steps, lines_kept, newcomers_are)

pub users_are : (h : List Event) (us : List ConnectionRecord) → map user_of (map (line_told h) us) ≡ us
users_are h [] = refl
users_are h (u ∷ us) = ap (λ (vs : List ConnectionRecord). u ∷ vs) (users_are h us)
