-- An input without the lines of other connections' steps has the same steps without those.
use Rattle.std.proofs.Common.{◌≡◌, ◌⊎◌, inl, ℕ, ◌+◌, not, Bool, true, false, List, [], ◌∷◌, ◌++◌, Option, Some, None, Result, Ok, Err, cond, refl, sym, ap, ◌∙◌, subst, rules}
use Rattle.std.specs.Str.{bytes_eq}
use Rattle.std.proofs.lemmas.Slice.Eq.{bytes_eq-Decides}
use Rattle.iio_base.specs.Refusals.{ensure, ◌>>=◌, ◌>>◌}
use Rattle.iio_text.specs.declared.refusals.Why.{Why}
use Rattle.iio_text.specs.declared.refusals.Why.TheVariants as why
use Rattle.iio_desc.specs.Description.{Description}
use Rattle.iio_history.specs.Transcript.{Step, Feed, transcript}
use Rattle.iio_history.specs.Script.{Finished, Refused, Script, ending_text, first_step, keeps_names, names_after, script_from, step_of}
use Rattle.iio_worlds.specs.Worlds.{without_others}
use Rattle.iio_worlds.specs.OwnLines.{OwnLinesPlay, own_lines, says_others}
use Rattle.iio_worlds.proofs.Alone.{append_nil}

-- no names but the connection's own
AreOwn : List ℕ → List (List ℕ) → Type 0
AreOwn a names = (names ≡ []) ⊎ (names ≡ a ∷ [])

-- a step that isn't another connection's keeps to the number of names, and adds no other name
OwnNames : List ℕ → List (List ℕ) → Option Step → Type 0
OwnNames a names step = (keeps_names names step ≡ true) × AreOwn a (names_after names step)

own_fed : (a name bytes : List ℕ) (names : List (List ℕ)) → name ≡ a → AreOwn a names → OwnNames a names (Some (Feed name bytes))
unfolding AreOwn OwnNames
own_fed a name bytes names is h1 = search rules

own_names : (a : List ℕ) (names : List (List ℕ)) (step : Option Step) → says_others a (Ok step) ≡ false → AreOwn a names → OwnNames a names step
unfolding OwnNames
own_names a names None is are = (refl, are)
own_names a names (Some (Feed name bytes)) is are = own_fed a name bytes names ((bytes_eq-Decides name a).0 (kept (bytes_eq name a) is)) are
  where
    kept : (b : Bool) → not b ≡ false → b ≡ true
    kept b h = search rules
own_names a names (Some step) is are = (refl, are)

-- ---- a line

abbrev checked : Option Step → Bool → Result (Option Step) Why
checked step b = do
  ensure b why.Limit
  Ok step

abbrev after_by : List (List ℕ) → Result (Option Step) Why → Result (Option Step) Why
after_by names said = do
  step ← said
  checked step (keeps_names names step)

abbrev script_by : Description → List (List ℕ) → ℕ → List (List ℕ) → Result (Option Step) Why → Script
script_by desc names n lines o = elim o [
  | Err why ↦ record { steps = []; ending = Refused n why }
  | Ok step ↦ first_step step (script_from desc Finished (names_after names step) (n + 1) lines)
]

-- a script that ends, and its steps without those of others
abbrev IsWithout : List ℕ → Script → Script → Type 0
IsWithout a own whole = (own.ending ≡ Finished) × (own.steps ≡ without_others a whole.steps)

abbrev Says : Description → List ℕ → List (List ℕ) → Type 0
Says desc a lines =
    (names names' : List (List ℕ)) (n n' : ℕ) → AreOwn a names' → (script_from desc Finished names n lines).ending ≡ Finished
    → IsWithout a (script_from desc Finished names' n' (own_lines desc a lines)) (script_from desc Finished names n lines)

first_ends : (step : Option Step) (script : Script) → (first_step step script).ending ≡ script.ending
first_ends step script = search rules

others_first : (a : List ℕ) (step : Option Step) (own whole : Script) → says_others a (Ok step) ≡ true → IsWithout a own whole
    → IsWithout a own (first_step step whole)
others_first a step own whole is are = search rules

own_first : (a : List ℕ) (step : Option Step) (own whole : Script) → says_others a (Ok step) ≡ false → IsWithout a own whole
    → IsWithout a (first_step step own) (first_step step whole)
own_first a step own whole is are = search rules

-- a line that is kept gives its step
kept_line : (desc : Description) (a : List ℕ) (names : List (List ℕ)) (n : ℕ) (line : List ℕ) (lines : List (List ℕ)) (step : Option Step)
    → step_of desc line ≡ Ok step → keeps_names names step ≡ true
    → script_from desc Finished names n (line ∷ lines) ≡ first_step step (script_from desc Finished (names_after names step) (n + 1) lines)
kept_line desc a names n line lines step said keeps = cc

by_others : (desc : Description) (a : List ℕ) (line : List ℕ) (lines : List (List ℕ)) (names names' : List (List ℕ)) (n n' : ℕ) (step : Option Step) (b : Bool)
    → step_of desc line ≡ Ok step → says_others a (Ok step) ≡ b
    → AreOwn a names' → (script_from desc Finished (names_after names step) (n + 1) lines).ending ≡ Finished → Says desc a lines
    → IsWithout a (script_from desc Finished names' n' (cond b (own_lines desc a lines) (line ∷ own_lines desc a lines)))
    (first_step step (script_from desc Finished (names_after names step) (n + 1) lines))
unfolding OwnNames
by_others desc a line lines names names' n n' step true said is are ends next =
    others_first a step (script_from desc Finished names' n' (own_lines desc a lines)) (script_from desc Finished (names_after names step) (n + 1) lines) is
    (next (names_after names step) names' (n + 1) n' are ends)
by_others desc a line lines names names' n n' step false said is are ends next =
    let own = own_names a names' step is are in
    subst (λ script. IsWithout a script (first_step step (script_from desc Finished (names_after names step) (n + 1) lines)))
    (sym (kept_line desc a names' n' line (own_lines desc a lines) step said own.0))
    (own_first a step (script_from desc Finished (names_after names' step) (n' + 1) (own_lines desc a lines))
    (script_from desc Finished (names_after names step) (n + 1) lines) is
    (next (names_after names step) (names_after names' step) (n + 1) (n' + 1) own.1 ends))

by_keeping : (desc : Description) (a : List ℕ) (line : List ℕ) (lines : List (List ℕ)) (names names' : List (List ℕ)) (n n' : ℕ) (step : Option Step) (b : Bool)
    → step_of desc line ≡ Ok step
    → AreOwn a names' → (script_by desc names n lines (checked step b)).ending ≡ Finished → Says desc a lines
    → IsWithout a (script_from desc Finished names' n' (cond (says_others a (Ok step)) (own_lines desc a lines) (line ∷ own_lines desc a lines)))
    (script_by desc names n lines (checked step b))
by_keeping desc a line lines names names' n n' step false said are ends next = cc
by_keeping desc a line lines names names' n n' step true said are ends next =
    by_others desc a line lines names names' n n' step (says_others a (Ok step)) said refl are
    (sym (first_ends step (script_from desc Finished (names_after names step) (n + 1) lines)) ∙ ends) next

by_said : (desc : Description) (a : List ℕ) (line : List ℕ) (lines : List (List ℕ)) (names names' : List (List ℕ)) (n n' : ℕ) (o : Result (Option Step) Why)
    → step_of desc line ≡ o
    → AreOwn a names' → (script_by desc names n lines (after_by names o)).ending ≡ Finished → Says desc a lines
    → IsWithout a (script_from desc Finished names' n' (cond (says_others a o) (own_lines desc a lines) (line ∷ own_lines desc a lines)))
    (script_by desc names n lines (after_by names o))
by_said desc a line lines names names' n n' (Err why) said are ends next = cc
by_said desc a line lines names names' n n' (Ok step) said are ends next = search (rules, by_keeping)

own_says : (desc : Description) (a : List ℕ) (lines : List (List ℕ)) → Says desc a lines
own_says desc a [] names names' n n' are ends = (refl, refl)
own_says desc a (line ∷ lines) names names' n n' are ends =
    by_said desc a line lines names names' n n' (step_of desc line) refl are ends (own_says desc a lines)

pub own_lines_play : OwnLinesPlay
unfolding AreOwn
own_lines_play s a first lines ends = (
  own.0,
  ap (λ e. transcript s [] (script_from s.desc Finished [] first (own_lines s.desc a lines)).steps ++ ending_text e) own.0
      ∙ append_nil (transcript s [] (script_from s.desc Finished [] first (own_lines s.desc a lines)).steps)
      ∙ ap (transcript s []) own.1,
)
  where
    none : AreOwn a []
    none = inl refl

    own : IsWithout a (script_from s.desc Finished [] first (own_lines s.desc a lines)) (script_from s.desc Finished [] first lines)
    own = own_says s.desc a lines [] [] first first none ends
