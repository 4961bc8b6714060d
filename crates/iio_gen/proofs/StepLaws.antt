-- The steps of the lines of an input.
use Rattle.std.proofs.Common.{◌≡◌, ℕ, zero, suc, ◌+◌, ◌*◌, ◌/◌, ◌%◌, ◌^◌, ◌<◌, ◌≤◌, ◌==◌, ℤ, pos, Bool, true, false, ◌||◌, cond, nat_le, nat_lt, List, [], ◌∷◌, ◌++◌, length, get_or, codes, Some, None, Ok, refl, sym, ap, ◌∙◌, arith, subst, Fits, w8, append_assoc}
use Rattle.std.specs.Fmt.{decimal}
use Rattle.std.specs.List.{list_all}
use Rattle.std.proofs.lemmas.Bool.{lt-ltb}
use Rattle.std.proofs.lemmas.Bool.Decides.{nat_tests}
use Rattle.std.proofs.lemmas.Fmt.{decimal_digit, length-decimal-le}
use Rattle.std.proofs.lemmas.List.{length-append}
use Rattle.iio_text.specs.Escape.{escaped, is_plain, quoted, quoted_of}
use Rattle.iio_text.specs.Lines.{is_printable, lines_of, words_of_line}
use Rattle.iio_text.specs.Words.{begins_word, is_space, onto_first, words_of}
use Rattle.iio_text.specs.Numbers.{int_of}
use Rattle.iio_text.proofs.EscapeLemmas.{quoted_of-quoted}
use Rattle.iio_attr.specs.Name.{is_name}
use Rattle.iio_mask.specs.Text.{mask_text}
use Rattle.iiod_grammar.specs.Command.{entry_of}
use Rattle.iio_desc.specs.Description.{Description}
use Rattle.iio_history.specs.Script.{Finished, Script, first_step, from_quote, has_quote_first, is_known, keeps_names, names_after, script_from, step_of, step_words}
use Rattle.iio_history.specs.Transcript.{Step, Feed, Fire}
use Rattle.iio_gen.specs.Generator.{next_state}
use Rattle.iio_gen.specs.Input.{close_line, feed_line, fire_line, open_line, read_line, step_line}
use Rattle.iio_gen.proofs.DescriptionLaws.{int_decimal, t0}
use Rattle.iio_gen.proofs.FeedLemmas.{IsPlain, escaped_line, mask_size, open_plain, read_plain}
use Rattle.iio_gen.proofs.Texts.{IsLine, IsWord, and_true, both_parts, decimal_word, line_words, lines_then, plain_is_printable, word_last, word_printable, word_then}

-- ---- names of connections

abbrev c0 : List ℕ
c0 = codes "c0"

abbrev c1 : List ℕ
c1 = codes "c1"

abbrev c2 : List ℕ
c2 = codes "c2"

abbrev c3 : List ℕ
c3 = codes "c3"

-- 1 if a name isn't among those, otherwise 0
abbrev lacks : List (List ℕ) → List ℕ → ℕ
lacks names name = cond (is_known names name) 0 1

-- at most four names, with room left for those of these connections that are missing
pub record IsFew (names : List (List ℕ)) : Type 0 where
  pub room : length names + (lacks names c0 + lacks names c1 + lacks names c2 + lacks names c3) ≤ 4

-- a step that keeps the names so few
abbrev pub Keeps : Step → Type 0
Keeps step = (names : List (List ℕ)) → IsFew names → (keeps_names names (Some step) ≡ true) × IsFew (names_after names (Some step))

fire_keeps : (m : ℤ) → Keeps (Fire 0 m)
fire_keeps m names few = (refl, few)

-- what a feed needs, by whether its name is known
abbrev Kept : List (List ℕ) → List ℕ → Bool → Type 0
Kept names name known = ((known || nat_lt (length names) 64) ≡ true) × IsFew (cond known names (name ∷ names))

kept_known : (names : List (List ℕ)) (name : List ℕ) → IsFew names → Kept names name true
kept_known names name few = (refl, few)

few_names : (names : List (List ℕ)) → IsFew names → nat_lt (length names) 64 ≡ true
few_names names few = let room = few.room in lt-ltb (length names) 64 (omega arith)

keeps_by : (names : List (List ℕ)) (name : List ℕ) (known : Bool) → is_known names name ≡ known → Kept names name known
    → (keeps_names names (Some (Feed name [])) ≡ true) × IsFew (names_after names (Some (Feed name [])))
keeps_by names name known is kept = subst (Kept names name) (sym is) kept

keeps_c0 : (names : List (List ℕ)) → IsFew names → (b : Bool) → is_known names c0 ≡ b → Kept names c0 b
keeps_c0 names few true is = kept_known names c0 few
keeps_c0 names few false is = (few_names names few, record { room = let room = rw is at few.room in omega arith })

keeps_c1 : (names : List (List ℕ)) → IsFew names → (b : Bool) → is_known names c1 ≡ b → Kept names c1 b
keeps_c1 names few true is = kept_known names c1 few
keeps_c1 names few false is = (few_names names few, record { room = let room = rw is at few.room in omega arith })

keeps_c2 : (names : List (List ℕ)) → IsFew names → (b : Bool) → is_known names c2 ≡ b → Kept names c2 b
keeps_c2 names few true is = kept_known names c2 few
keeps_c2 names few false is = (few_names names few, record { room = let room = rw is at few.room in omega arith })

keeps_c3 : (names : List (List ℕ)) → IsFew names → (b : Bool) → is_known names c3 ≡ b → Kept names c3 b
keeps_c3 names few true is = kept_known names c3 few
keeps_c3 names few false is = (few_names names few, record { room = let room = rw is at few.room in omega arith })

feed_keeps : (c : ℕ) (bytes : List ℕ) → c < 4 → Keeps (Feed (99 ∷ (48 + c) ∷ []) bytes)
feed_keeps zero bytes h names few = keeps_by names c0 (is_known names c0) refl (keeps_c0 names few (is_known names c0) refl)
feed_keeps (suc zero) bytes h names few = keeps_by names c1 (is_known names c1) refl (keeps_c1 names few (is_known names c1) refl)
feed_keeps (suc (suc zero)) bytes h names few = keeps_by names c2 (is_known names c2) refl (keeps_c2 names few (is_known names c2) refl)
feed_keeps (suc (suc (suc zero))) bytes h names few = keeps_by names c3 (is_known names c3) refl (keeps_c3 names few (is_known names c3) refl)
feed_keeps (suc (suc (suc (suc c)))) bytes h names few = absurd (omega arith)

-- ---- one more line

-- these steps before those of a script
abbrev pub behind : List Step → Script → Script
behind steps script = record { steps = steps ++ script.steps; ending = script.ending }

-- the lines of a text are that many steps, whatever comes after them
pub record Plays (desc : Description) (first count : ℕ) (text : List ℕ) : Type 0 where
  pub names : List (List ℕ)
  pub few : IsFew names
  pub steps : List Step
  pub counted : length steps ≡ count
  pub number : ℕ
  pub plays : (more : List ℕ)
      → script_from desc Finished [] first (lines_of (text ++ more)) ≡ behind steps (script_from desc Finished names number (lines_of more))
  pub short : length text ≤ 64 * count

pub plays_none : (desc : Description) (first : ℕ) → Plays desc first 0 []
plays_none desc first =
    record { names = []; few = record { room = omega arith }; steps = []; counted = refl; number = first; plays = λ more. refl; short = omega arith }

turn : (desc : Description) (names : List (List ℕ)) (number : ℕ) (line : List ℕ) (rest : List (List ℕ)) (step : Step) → step_of desc line ≡ Ok (Some step)
    → keeps_names names (Some step) ≡ true
    → script_from desc Finished names number (line ∷ rest)
    ≡ first_step (Some step) (script_from desc Finished (names_after names (Some step)) (number + 1) rest)
turn desc names number line rest step says keeps = rw (says, keeps, script_from) refl

-- the step of a line
pub record SaysStep (desc : Description) (line : List ℕ) : Type 0 where
  pub step : Step
  pub printable : list_all is_printable line ≡ true
  pub short : length line ≤ 63
  pub says : step_of desc line ≡ Ok (Some step)
  pub keeps : Keeps step

plays_more : (desc : Description) (first count : ℕ) (text line : List ℕ) → Plays desc first count text → SaysStep desc line
    → Plays desc first (suc count) (text ++ (line ++ 10 ∷ []))
plays_more desc first count text line r l =
    let kept = l.keeps r.names r.few in record {
      names = names_after r.names (Some l.step);
      few = kept.1;
      steps = r.steps ++ l.step ∷ [];
      counted = let n = r.counted in omega (arith, length-append r.steps (l.step ∷ []));
      number = r.number + 1;
      plays = λ more.
          let rest = script_from desc Finished (names_after r.names (Some l.step)) (r.number + 1) (lines_of more) in
          ap (λ t. script_from desc Finished [] first (lines_of t)) (append_assoc text (line ++ 10 ∷ []) more)
          ∙ r.plays ((line ++ 10 ∷ []) ++ more)
          ∙ ap (λ ls. behind r.steps (script_from desc Finished r.names r.number ls)) (lines_then line more l.printable)
          ∙ ap (behind r.steps) (turn desc r.names r.number line (lines_of more) l.step l.says kept.0)
          ∙ ap (λ (ss : List Step). record { steps = ss; ending = rest.ending }) (sym (append_assoc r.steps (l.step ∷ []) rest.steps));
      short =
          let old = r.short in
          let size = l.short in
          omega (arith, length-append text (line ++ 10 ∷ []), length-append line (10 ∷ []));
    }

-- ---- polls

fire_said : (desc : Description) (line t : List ℕ) (m : ℤ) → words_of_line line ≡ Ok (codes "fire" ∷ codes "t0" ∷ t ∷ []) → desc.triggers ≡ t0 ∷ []
    → int_of t ≡ Some m
    → step_of desc line ≡ Ok (Some (Fire 0 m))
fire_said desc line t m words triggers is = rw (words, triggers, is) refl

fire_says : (desc : Description) (t : ℕ) → desc.triggers ≡ t0 ∷ [] → t < 100000 → SaysStep desc (codes "fire t0 " ++ decimal t)
fire_says desc t triggers h =
    let digits = decimal_word t (omega arith) in
    let line : IsLine (codes "fire t0 " ++ decimal t) (codes "fire" ∷ codes "t0" ∷ decimal t ∷ []) = record {
      printable = word_printable (decimal t) digits;
      short = omega (arith, length-decimal-le 5 t (omega arith) (omega arith) (omega arith));
      said = word_then (codes "fire") (codes "t0 " ++ decimal t) (record { some = omega arith; bytes = refl }) ∙ ap (λ ws. codes "fire" ∷ ws)
          (word_then (codes "t0") (decimal t) (record { some = omega arith; bytes = refl }) ∙ ap (λ ws. codes "t0" ∷ ws) (word_last (decimal t) digits));
    } in record {
      step = Fire 0 (pos t);
      printable = line.printable;
      short = line.short;
      says = fire_said desc (codes "fire t0 " ++ decimal t) (decimal t) (pos t) (line_words _ _ line refl) triggers (int_decimal t (omega arith));
      keeps = fire_keeps (pos t);
    }

-- ---- feeds

-- the word that a quote begins
quote_first : (rest : List ℕ) → has_quote_first (words_of is_space (34 ∷ rest)) ≡ true
quote_first rest = by (begins_word is_space rest) (words_of is_space rest)
  where
    by : (t : Bool) (words : List (List ℕ)) → has_quote_first (onto_first 34 t words) ≡ true
    by true [] = refl
    by true (w ∷ ws) = refl
    by false ws = refl

-- plain bytes and LF are bytes
bytes_fit : (text : List ℕ) → IsPlain text → (k : ℕ) → Fits w8 (get_or (text ++ 10 ∷ []) k 0)
bytes_fit [] plain zero = omega arith
bytes_fit [] plain (suc k) = omega arith
bytes_fit (b ∷ bs) plain zero = let one = (and_true (is_plain b) (list_all is_plain bs) plain).0 in grind (arith, nat_tests, one)
bytes_fit (b ∷ bs) plain (suc k) = bytes_fit bs (and_true (is_plain b) (list_all is_plain bs) plain).1 k

-- the names of connections that are fed, by their last byte
pub record IsNamed (d : ℕ) : Type 0 where
  pub word : IsWord (99 ∷ d ∷ [])
  pub name : is_name (99 ∷ d ∷ []) ≡ true
  pub no_step : entry_of step_words (99 ∷ d ∷ []) ≡ None
  pub no_quote : (d == 34) ≡ false
  pub keeps : (bytes : List ℕ) → Keeps (Feed (99 ∷ d ∷ []) bytes)

named : (c : ℕ) → c < 4 → IsNamed (48 + c)
named zero h =
    record { word = record { some = omega arith; bytes = refl }; name = refl; no_step = refl; no_quote = refl; keeps = λ bytes. feed_keeps 0 bytes h }
named (suc zero) h =
    record { word = record { some = omega arith; bytes = refl }; name = refl; no_step = refl; no_quote = refl; keeps = λ bytes. feed_keeps 1 bytes h }
named (suc (suc zero)) h =
    record { word = record { some = omega arith; bytes = refl }; name = refl; no_step = refl; no_quote = refl; keeps = λ bytes. feed_keeps 2 bytes h }
named (suc (suc (suc zero))) h =
    record { word = record { some = omega arith; bytes = refl }; name = refl; no_step = refl; no_quote = refl; keeps = λ bytes. feed_keeps 3 bytes h }
named (suc (suc (suc (suc c)))) h = absurd (omega arith)

feed_said : (desc : Description) (line name text bytes : List ℕ) (words : List (List ℕ)) → words_of_line line ≡ Ok (name ∷ words)
    → entry_of step_words name ≡ None
    → is_name name ≡ true → has_quote_first words ≡ true → from_quote line ≡ text → quoted_of text ≡ Some bytes
    → step_of desc line ≡ Ok (Some (Feed name bytes))
feed_said desc line name text bytes words said no_step is_one first from is = rw (said, no_step, is_one, first, from, is) refl

feed_says : (desc : Description) (d : ℕ) (text : List ℕ) → IsNamed d → IsPlain text → length text ≤ 50 → SaysStep desc (99 ∷ d ∷ 32 ∷ quoted (text ++ 10 ∷ []))
feed_says desc d text named plain short =
    let bytes = text ++ 10 ∷ [] in
    let name = 99 ∷ d ∷ [] in
    let e = escaped_line text plain in
    let printable : list_all is_printable (escaped bytes ++ 34 ∷ []) ≡ true =
    subst (λ s. list_all is_printable (s ++ 34 ∷ []) ≡ true) (sym e)
    (both_parts is_printable (text ++ 92 ∷ 110 ∷ []) (34 ∷ []) (both_parts is_printable text (92 ∷ 110 ∷ []) (plain_is_printable text plain) refl) refl) in
    let line : IsLine (name ++ 32 ∷ quoted bytes) (name ∷ words_of is_space (quoted bytes)) = record {
      printable = both_parts is_printable name (32 ∷ quoted bytes) (word_printable name named.word) printable;
      short = omega (arith, length-append (escaped bytes) (34 ∷ []), ap length e, length-append text (92 ∷ 110 ∷ []));
      said = word_then name (quoted bytes) named.word;
    } in
    let from : from_quote (name ++ 32 ∷ quoted bytes) ≡ quoted bytes = rw named.no_quote refl in record {
      step = Feed name bytes;
      printable = line.printable;
      short = line.short;
      says =
          feed_said desc (name ++ 32 ∷ quoted bytes) name (quoted bytes) bytes (words_of is_space (quoted bytes)) (line_words _ _ line refl) named.no_step
          named.name
          (quote_first (escaped bytes ++ 34 ∷ [])) from (quoted_of-quoted bytes (bytes_fit text plain));
      keeps = named.keeps bytes;
    }

plays_feed : (desc : Description) (first count c : ℕ) (text command : List ℕ) → Plays desc first count text → c < 4 → IsPlain command → length command ≤ 50
    → Plays desc first (suc count) (text ++ feed_line c command)
plays_feed desc first count c text command r h plain short =
    let quote = quoted (command ++ 10 ∷ []) in
    subst (λ d. Plays desc first (suc count) (text ++ ((99 ∷ (d ++ 32 ∷ quote)) ++ 10 ∷ []))) (sym (decimal_digit c (omega arith)))
    (plays_more desc first count text (99 ∷ (48 + c) ∷ 32 ∷ quote) r (feed_says desc (48 + c) command (named c h) plain short))

-- ---- each step

kind_by : (P : List ℕ → Type 0) (i y : ℕ) (a b d : Bool) → P (open_line y).0 → P (close_line y).0 → P (fire_line i y).0 → P (read_line y).0
    → P ((cond a open_line (cond b close_line (cond d (fire_line i) read_line))) y).0
kind_by P i y true b d o l f r = o
kind_by P i y false true d o l f r = l
kind_by P i y false false true o l f r = f
kind_by P i y false false false o l f r = r

plays_open : (desc : Description) (first i c s m : ℕ) (text : List ℕ) → Plays desc first i text → c < 4 → s < 8
    → Plays desc first (suc i) (text ++ feed_line c (codes "OPEN dev0 " ++ (decimal (1 + s) ++ (codes " " ++ mask_text 9 (1 + m)))))
plays_open desc first i c s m text r h k =
    plays_feed desc first i c text (codes "OPEN dev0 " ++ (decimal (1 + s) ++ (codes " " ++ mask_text 9 (1 + m)))) r h
    (open_plain (1 + s) (1 + m) (omega arith))
    (omega (
      arith,
      length-append (decimal (1 + s)) (codes " " ++ mask_text 9 (1 + m)),
      length-decimal-le 1 (1 + s) (omega arith) (omega arith) (omega arith),
      mask_size (1 + m),
    ))

plays_read : (desc : Description) (first i c b : ℕ) (text : List ℕ) → Plays desc first i text → c < 4 → b < 400
    → Plays desc first (suc i) (text ++ feed_line c (codes "READBUF dev0 " ++ decimal b))
plays_read desc first i c b text r h k =
    plays_feed desc first i c text (codes "READBUF dev0 " ++ decimal b) r h (read_plain b (omega arith))
    (omega (arith, length-decimal-le 3 b (omega arith) (omega arith) (omega arith)))

pub step_more : (desc : Description) (first : ℕ) → desc.triggers ≡ t0 ∷ [] → (i : ℕ) (text : List ℕ) (x : ℕ) → i < 20000 → Plays desc first i text
    → Plays desc first (suc i) (text ++ (step_line i x).0)
step_more desc first triggers i text x h r =
    let d = next_state x / 2 ^ 33 % 10 in
    let y = next_state x in
    let c = next_state y / 2 ^ 33 % 4 in
    kind_by (λ line. Plays desc first (suc i) (text ++ line)) i y (d == 0) (d == 1) (nat_le d 5)
    (plays_open desc first i c (next_state (next_state y) / 2 ^ 33 % 8) (next_state (next_state (next_state y)) / 2 ^ 33 % 511) text r (omega arith)
    (omega arith))
    (plays_feed desc first i c text (codes "CLOSE dev0") r (omega arith) refl (omega arith))
    (plays_more desc first i text (codes "fire t0 " ++ decimal (5 * i)) r (fire_says desc (5 * i) triggers (omega arith)))
    (plays_read desc first i c (next_state (next_state y) / 2 ^ 33 % 400) text r (omega arith) (omega arith))
