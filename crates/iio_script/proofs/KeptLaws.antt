-- The lines of an input of which something is kept, as a reader gives them; and its description.
use Rattle.std.proofs.Common.{◌≡◌, ℕ, ◌+◌, Bool, true, false, List, [], ◌∷◌, ◌++◌, length, Option, Some, None, Result, Ok, Err, IfOk, IfSome, refl, sym, ap, ◌∙◌, append_assoc, append-nil, arith, rules}
use Rattle.std.proofs.lemmas.Grind.{common_steps}
use Rattle.iio_io.specs.Bytes.{TakesAtMost}
use Rattle.iio_text.specs.declared.refusals.Why.{Why}
use Rattle.iio_text.specs.declared.refusals.Why.TheVariants.{Long}
use Rattle.iio_sensor.specs.Driver.{Driver}
use Rattle.iio_desc.specs.Description.{Description}
use Rattle.iio_device.specs.declared.plug.Plug.{Plug}
use Rattle.iio_history.specs.Input.{input_limit, is_overlong, scanned_lines}
use Rattle.iio_history.specs.Outcome.{Cut, head_of, last_ending}
use Rattle.iio_history.specs.Registry.{Setup}
use Rattle.iio_history.specs.Script.{Ending, Finished, Refused, TooLong}
use Rattle.iio_system.specs.declared.system.System.{System}
use Rattle.iio_worlds.specs.KeptOn.{KeptGoesOn}
use Rattle.iio_worlds.specs.Solo.{kept_of}
use Rattle.iio_script.specs.declared.opening.Opening.TheVariants as read
use Rattle.iio_script.specs.Keeps.{Excerpt, KeepsOn, excerpt_of, kept_at_end, kept_of_lines, watch_of}
use Rattle.iio_script.specs.LineReader.{Follows, Hand, HasLine, IsCut, IsDone, IsHand, IsLong, TakesBlocks, line_of}
use Rattle.iio_script.specs.Plays.{progress_of, with_line}
use Rattle.iio_script.specs.Told.{EndsAlone, EndsAt, RefusesAt}
use Rattle.iio_script.proofs.FollowLaws.{cut_line, follows_begin, long_line, next_line, no_line, takes_at_most}
use Rattle.iio_script.proofs.KeepLaws.{keeps_cut, keeps_done, keeps_long}
use Rattle.iio_script.proofs.StepLaws.{same_rest}

module _ {X : Type 0} {V : X → Type 0} (driver : Plug X V → Driver) where
  -- the lines `given` were played, and this was kept of them; the reader has gone on over them
  pub record KeptSoFar (s : Setup) (a : List ℕ) (x : System X V) (excerpt : Excerpt) (first n : ℕ) (h h' : Hand) (left left' : Option (List ℕ)) : Type 0 where
    pub given : List (List ℕ)
    pub keeps : KeepsOn driver (watch_of s a) x excerpt (progress_of first n given)
    pub follows : (input : List ℕ) (front : List (List ℕ)) → Follows input front h left → Follows input (front ++ given) h' left'

  pub so_far_first : (s : Setup) (a : List ℕ) (x : System X V) (text : List ℕ) (first : ℕ) (h : Hand) (left : Option (List ℕ)) → text ≡ []
      → KeepsOn driver (watch_of s a) x (excerpt_of None []) (progress_of first first [])
      → KeptSoFar s a x (excerpt_of None text) first first h h left left
  so_far_first s a x text first h left empty keeps = search rules

  -- the next line was looked for
  pub so_far_found : (s : Setup) (a : List ℕ) (x : System X V) (excerpt : Excerpt) (first n : ℕ) (h h1 h2 : Hand) (left left1 left2 : Option (List ℕ))
      → ((input : List ℕ) (front : List (List ℕ)) → Follows input front h1 left1 → Follows input front h2 left2)
      → KeptSoFar s a x excerpt first n h h1 left left1 → KeptSoFar s a x excerpt first n h h2 left left2
  so_far_found s a x excerpt first n h h1 h2 left left1 left2 finds so = search rules

  -- .. and was played
  pub so_far_played : (s : Setup) (a : List ℕ) (x x' : System X V) (excerpt excerpt' : Excerpt) (line : List ℕ) (first n : ℕ) (h h1 h2 : Hand)
      (left left' : Option (List ℕ))
      → ((input : List ℕ) (front : List (List ℕ)) (l : Option (List ℕ)) → Follows input front h1 l → Follows input (front ++ line_of h1 ∷ []) h2 l)
      → line ≡ line_of h1
      → (so : KeptSoFar s a x excerpt first n h h1 left left') → KeepsOn driver (watch_of s a) x' excerpt' (with_line (progress_of first n so.given) line)
      → KeptSoFar s a x' excerpt' first (n + 1) h h2 left left'
  so_far_played s a x x' excerpt excerpt' line first n h h1 h2 left left' passes same so keeps = grind (arith, common_steps)

  -- ---- the end: what is kept of all looked-at lines

  abbrev Kept : Setup → List ℕ → (first : ℕ) (input : List ℕ) (more : List (List ℕ)) → Result (List ℕ) Ending → Type 0
  Kept s a first input more kept = kept_of_lines s a (last_ending (is_overlong input)) first more ≡ kept

  -- the same, by the lines that were given and those after them
  kept_by : (s : Setup) (a : List ℕ) (first : ℕ) (front given more rest : List (List ℕ)) (input : List ℕ) (over : Bool) (kept : Result (List ℕ) Ending)
      → scanned_lines input ≡ front ++ more → scanned_lines input ≡ front ++ (given ++ rest) → is_overlong input ≡ over
      → kept_of_lines s a (last_ending over) first (given ++ rest) ≡ kept → Kept s a first input more kept
  kept_by s a first front given more rest input over kept looked lines long is = search (rules, same_rest)

  pub takes_so : (s : Setup) (a : List ℕ) (x : System X V) (excerpt : Excerpt) (first n : ℕ) (h h' : Hand) (left left' : Option (List ℕ))
      (front : List (List ℕ)) (input : List ℕ)
      → IsHand h' → Follows input front h left → KeptSoFar s a x excerpt first n h h' left left' → TakesAtMost input (input_limit + 1) left'
  takes_so s a x excerpt first n h h' left left' front input is follows so = search (rules, takes_at_most)

  pub kept_done : KeptGoesOn → (s : Setup) (a : List ℕ) (x : System X V) (excerpt : Excerpt) (first n : ℕ) (h h' : Hand) (left left' : Option (List ℕ))
      (front more : List (List ℕ)) (input : List ℕ)
      → IsHand h' → IsDone h' → Follows input front h left → scanned_lines input ≡ front ++ more → KeptSoFar s a x excerpt first n h h' left left'
      → Kept s a first input more (kept_at_end excerpt.offence excerpt.text)
  kept_done law s a x excerpt first n h h' left left' front more input is done follows looked so =
      let none = no_line input (front ++ so.given) h' left' is done (so.follows input front follows) in
      kept_by s a first front so.given more [] input false (kept_at_end excerpt.offence excerpt.text) looked
      (none.0 ∙ ap (λ (ls : List (List ℕ)). front ++ ls) (sym (append-nil so.given))) none.1
      (ap (λ (ls : List (List ℕ)). kept_of_lines s a Finished first ls) (append-nil so.given) ∙ keeps_done driver law s a x _ _ so.keeps)

  pub kept_cut : (s : Setup) (a : List ℕ) (x : System X V) (excerpt : Excerpt) (first n : ℕ) (h h' : Hand) (left left' : Option (List ℕ))
      (front more : List (List ℕ)) (input : List ℕ)
      → IsHand h' → IsCut h' → Follows input front h left → scanned_lines input ≡ front ++ more → KeptSoFar s a x excerpt first n h h' left left'
      → Kept s a first input more (Err TooLong)
  kept_cut s a x excerpt first n h h' left left' front more input is cut follows looked so =
      let none = cut_line input (front ++ so.given) h' left' is cut (so.follows input front follows) in
      kept_by s a first front so.given more [] input true (Err TooLong) looked (none.0 ∙ ap (λ (ls : List (List ℕ)). front ++ ls) (sym (append-nil so.given)))
      none.1
      (ap (λ (ls : List (List ℕ)). kept_of_lines s a TooLong first ls) (append-nil so.given) ∙ keeps_cut driver s a x _ _ so.keeps)

  pub kept_refused : (s : Setup) (a : List ℕ) (x : System X V) (excerpt : Excerpt) (line : List ℕ) (first n : ℕ) (h h' : Hand) (left left' : Option (List ℕ))
      (front more : List (List ℕ)) (input : List ℕ) (why : Why)
      → IsHand h' → HasLine h' → Follows input front h left → scanned_lines input ≡ front ++ more → line ≡ line_of h'
      → (so : KeptSoFar s a x excerpt first n h h' left left')
      → ((ending : Ending) (lines : List (List ℕ)) → kept_of_lines s a ending first (so.given ++ line ∷ lines) ≡ Err (Refused n why))
      → Kept s a first input more (Err (Refused n why))
  kept_refused s a x excerpt line first n h h' left left' front more input why is has follows looked same so refused =
      let next = next_line input (front ++ so.given) h' left' is has (so.follows input front follows) in
      let begins : scanned_lines input ≡ front ++ (so.given ++ (line ∷ next.more)) = grind (arith, common_steps) in
      kept_by s a first front so.given more (line ∷ next.more) input (is_overlong input) (Err (Refused n why)) looked begins refl
      (refused (last_ending (is_overlong input)) next.more)

  pub kept_long : (s : Setup) (a : List ℕ) (x : System X V) (excerpt : Excerpt) (first n : ℕ) (h h' : Hand) (left left' : Option (List ℕ))
      (front more : List (List ℕ)) (input : List ℕ)
      → IsHand h' → IsLong h' → Follows input front h left → scanned_lines input ≡ front ++ more → KeptSoFar s a x excerpt first n h h' left left'
      → Kept s a first input more (Err (Refused n Long))
  kept_long s a x excerpt first n h h' left left' front more input is long follows looked so =
      let next = long_line input (front ++ so.given) h' left' is long (so.follows input front follows) in
      kept_by s a first front so.given more (next.line ∷ next.more) input (is_overlong input) (Err (Refused n Long)) looked
      (next.parts ∙ append_assoc front so.given (next.line ∷ next.more)) refl
      (keeps_long driver s a x _ _ next.line next.more (last_ending (is_overlong input)) next.long so.keeps)

-- ---- by the head of the input

pub kept_described : (a : List ℕ) (drivers : List Driver) (count : ℕ) (desc : Description) (first : ℕ) (input : List ℕ) (h : Hand)
    (left left' : Option (List ℕ)) {B E : Type 0} (bytes : B → Result (List ℕ) Ending) (r : Result B E)
    → count ≡ length drivers → IsHand h → EndsAt count desc first input h left
    → ((front more : List (List ℕ)) → Follows input front h left → scanned_lines input ≡ front ++ more
    → IfOk r (λ kept. kept_of_lines (record { desc = desc; drivers = drivers }) a (last_ending (is_overlong input)) first more ≡ bytes kept)
    × TakesAtMost input (input_limit + 1) left')
    → IfOk r (λ kept. kept_of a drivers input ≡ bytes kept) × TakesAtMost input (input_limit + 1) left'
kept_described a drivers count desc first input h left left' bytes r many is ends keeps = search (rules, follows_begin)

-- ---- if the source is visible

module _ (a : List ℕ) (drivers : List Driver) (count : ℕ) where
  pub told_alone : (desc : Description) (text : List ℕ) (left : Option (List ℕ)) → count ≡ length drivers → text ≡ []
      → IfSome left (λ input. EndsAlone count desc input)
      → IfSome left (λ input. kept_of a drivers input ≡ Ok text)
  told_alone desc text left many empty alone = search rules

  pub told_faulty : (line : ℕ) (why : Why) (left left' : Option (List ℕ)) → count ≡ length drivers
      → IfSome left (λ input. RefusesAt count (read.Refused line why) line input left')
      → IfSome left (λ input. kept_of a drivers input ≡ Err (Refused line why))
  told_faulty line why left left' many refuses = search rules

  pub told_cut : (left : Option (List ℕ)) → count ≡ length drivers → IfSome left (λ input. head_of count input ≡ Cut)
      → IfSome left (λ input. kept_of a drivers input ≡ Err TooLong)
  told_cut left many cut = search rules

pub takes_kept : (left left' : Option (List ℕ)) → IfSome left (λ input. TakesBlocks input left')
    → IfSome left (λ input. TakesAtMost input (input_limit + 1) left')
takes_kept left left' takes = search rules

module _ {B E : Type 0} (bytes : B → Result (List ℕ) Ending) (a : List ℕ) (drivers : List Driver) (count : ℕ) (desc : Description) (first : ℕ) (h : Hand) where
  -- what a script kept, whatever lines came before it
  abbrev pub KeepsAll : (input : List ℕ) (left left' : Option (List ℕ)) → Result B E → Type 0
  KeepsAll input left left' r =
      (front more : List (List ℕ)) → Follows input front h left → scanned_lines input ≡ front ++ more
      → IfOk r (λ kept. kept_of_lines (record { desc = desc; drivers = drivers }) a (last_ending (is_overlong input)) first more ≡ bytes kept)
      × TakesAtMost input (input_limit + 1) left'

  told_kept : (input : List ℕ) (r : Result B E) → IfOk r (λ kept. kept_of a drivers input ≡ bytes kept)
      → IfOk r (λ kept. IfSome (Some input) (λ xs. kept_of a drivers xs ≡ bytes kept))
  told_kept input r is = search rules

  untold : (r : Result B E) → IfOk r (λ kept. IfSome None (λ xs. kept_of a drivers xs ≡ bytes kept))
  untold r = search rules

  pub both_kept : (left left1 left2 : Option (List ℕ)) (r : Result B E) → count ≡ length drivers → IsHand h
      → IfSome left (λ input. EndsAt count desc first input h left1)
      → ((input : List ℕ) → KeepsAll input left1 left2 r) → IfOk r (λ kept. IfSome left (λ input. kept_of a drivers input ≡ bytes kept))
  both_kept None left1 left2 r many is ends keeps = untold r
  both_kept (Some input) left1 left2 r many is ends keeps =
      told_kept input r (kept_described a drivers count desc first input h left1 left2 bytes r many is ends (keeps input)).0

  pub described_keeps : (left left1 left2 : Option (List ℕ)) (r : Result B E) → count ≡ length drivers → IsHand h
      → IfSome left (λ input. EndsAt count desc first input h left1)
      → ((input : List ℕ) → KeepsAll input left1 left2 r) → IfSome left (λ input. TakesAtMost input (input_limit + 1) left2)
  described_keeps None left1 left2 r many is ends keeps = tt
  described_keeps (Some input) left1 left2 r many is ends keeps =
      (kept_described a drivers count desc first input h left1 left2 bytes r many is ends (keeps input)).1
