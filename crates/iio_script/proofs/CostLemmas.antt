-- A step costs at most the bytes of its line and one more.
use Rattle.std.proofs.Common.{◌≡◌, ℕ, zero, suc, ◌+◌, ◌-◌, ◌≤◌, Bool, true, List, [], ◌∷◌, length, Option, Some, None, IfSome, Result, Ok, Err, IfOk, subst, arith, rules}
use Rattle.std.proofs.lemmas.Grind.{common_steps}
use Rattle.std.specs.Prelude.{option_and_then}
use Rattle.std.specs.Option.{ok_or}
use Rattle.std.specs.Result.{result_ok}
use Rattle.std.proofs.lemmas.Bool.Decides.{nat_tests}
use Rattle.iio_base.specs.Refusals.{ensure, ◌>>=◌, ◌>>◌}
use Rattle.iio_text.specs.declared.lines.TheConstants.{MAX_LINE_BYTES}
use Rattle.iio_text.specs.declared.refusals.Why.{Why}
use Rattle.iio_text.specs.declared.refusals.Why.TheVariants as why
use Rattle.iio_text.specs.Escape.{between_quotes, piece_of, piece_then, quoted_of, unescaped, unescaped_from}
use Rattle.iio_text.specs.Lines.{fits_line, words_of_line}
use Rattle.iio_text.specs.Words.{IsFirstWord, from_word, is_space}
use Rattle.iio_attr.specs.Name.{is_name}
use Rattle.iio_desc.specs.Description.{Description}
use Rattle.iio_history.specs.Script.{begins_quote, feed_step, from_quote, has_quote_first, keeps_names, step_by, step_of, step_of_words}
use Rattle.iio_history.specs.Transcript.{Step, Feed}
use Rattle.iio_system.specs.declared.step.Step.{Step as CodeStep}
use Rattle.iio_system.specs.declared.step.Step.TheVariants as code
use Rattle.iio_system.specs.Standing.{IsTaken}
use Rattle.iio_system.specs.Step.{cost_of, step_view}
use Rattle.iio_script.specs.Step.{feed_of, form_of}
use Rattle.iio_script.specs.declared.step_word.StepWord.{StepWord}
use Rattle.iio_script.specs.declared.step_word.StepWord.TheVariants as word

-- ---- unescaping makes no text longer

abbrev NoLonger : ℕ → Result (List ℕ) ℕ → Type 0
NoLonger n (Ok bytes) = length bytes ≤ n
NoLonger n (Err place) = Unit {0}

no_longer_piece : (place n : ℕ) (piece : Option (ℕ × ℕ)) (next : ℕ → Result (List ℕ) ℕ) → ((more : ℕ) → NoLonger n (next more))
    → NoLonger (suc n) (piece_then place piece next)
no_longer_piece place n piece next each = search rules

no_longer_next : (n : ℕ) (read : Result (List ℕ) ℕ) → NoLonger n read → NoLonger (suc n) read
no_longer_next n read few = search rules

unescaped_few : (place passed : ℕ) (text : List ℕ) → NoLonger (length text) (unescaped_from place passed text)
unescaped_few place passed [] = omega arith
unescaped_few place (suc passed) (b ∷ rest) = no_longer_next (length rest) (unescaped_from (place + 1) passed rest) (unescaped_few (place + 1) passed rest)
unescaped_few place zero (b ∷ rest) =
    no_longer_piece place (length rest) (piece_of (b ∷ rest)) (λ more. unescaped_from (place + 1) more rest) (λ more. unescaped_few (place + 1) more rest)

-- ---- a quoted text has more bytes than what it stands for

abbrev HasFew : ℕ → Option (List ℕ) → Type 0
HasFew n text = IfSome text (λ bytes. length bytes ≤ n)

inner_few : (n : ℕ) (inner : Option (List ℕ)) → HasFew n inner → HasFew n (option_and_then (λ inner. result_ok (unescaped inner)) inner)
inner_few n inner few = search (rules, unescaped_few)

between_few : (text : List ℕ) → HasFew (length text) (between_quotes text)
between_few text = search rules

quoted_few : (text : List ℕ) → HasFew (length text) (quoted_of text)
quoted_few text = inner_few (length text) (between_quotes text) (between_few text)

from_quote_few : (line : List ℕ) → length (from_quote line) ≤ length line
from_quote_few [] = omega arith
from_quote_few (b ∷ bs) = search (rules, from_quote_few bs)

from_word_few : (text : List ℕ) → length (from_word text) ≤ length text
from_word_few [] = omega arith
from_word_few (b ∷ bs) = search (rules, from_word_few bs)

-- ---- the bytes that a step feeds

abbrev feeds : Step → ℕ
feeds (Feed name bytes) = length bytes
feeds step = 0

abbrev FeedsFew : ℕ → Result Step Why → Type 0
FeedsFew n (Ok step) = feeds step ≤ n
FeedsFew n (Err refusal) = Unit {0}

few_behind : {A : Type 0} (n : ℕ) (read : Result A Why) (next : Result Step Why) → FeedsFew n next → FeedsFew n (read >> next)
few_behind n read next few = search rules

-- ---- a step that is no feed

abbrev pub IsMove : Step → Type 0
IsMove (Feed name bytes) = ⊥
IsMove step = Unit {0}

pub move_cost : (step : CodeStep) → IsMove (step_view step) → cost_of step ≡ 1
move_cost step move = search rules

pub move_taken : (names : List (List ℕ)) (step : CodeStep) → IsMove (step_view step) → IsTaken names step
move_taken names step move = search rules

pub move_kept : (names : List (List ℕ)) (step : Step) → IsMove step → keeps_names names (Some step) ≡ true
move_kept names step move = search rules

-- ---- the forms of steps

abbrev Form : Type 0
Form = Description → List (List ℕ) → Result Step Why

abbrev MoveForm : Form → Type 0
MoveForm form = (desc : Description) (words : List (List ℕ)) → IfOk (form desc words) IsMove

pub form_moves : (w : StepWord) (desc : Description) (words : List (List ℕ)) → IfOk (form_of w desc words) IsMove
form_moves w desc words = search rules

few_quoted : (n : ℕ) (name : List ℕ) (quoted : Option (List ℕ)) → HasFew n quoted → FeedsFew n (ok_or quoted why.Text >>= λ bytes. Ok (Feed name bytes))
few_quoted n name quoted few = search rules

few_weaker : (n m : ℕ) (quoted : Option (List ℕ)) → HasFew n quoted → n ≤ m → HasFew m quoted
few_weaker n m quoted few le = search rules

few_feed_step : (line name : List ℕ) (words : List (List ℕ)) → FeedsFew (length line) (feed_step line name words)
few_feed_step line name words =
    few_behind (length line) (ensure (is_name name) why.Word) _ (few_behind (length line) (ensure (has_quote_first words) why.Count) _
    (few_quoted (length line) name (quoted_of (from_quote line))
    (few_weaker (length (from_quote line)) (length line) (quoted_of (from_quote line)) (quoted_few (from_quote line)) (from_quote_few line))))

-- a feed has at most as many bytes as the words after its name
pub few_fed : (name words named bytes : List ℕ) → feed_of name (from_word words) ≡ Ok (Feed named bytes) → length bytes ≤ length words
few_fed name words named bytes read =
    let few : FeedsFew (length words) (feed_of name (from_word words)) =
    few_behind (length words) (ensure (is_name name) why.Word) _ (few_behind (length words) (ensure (begins_quote (from_word words)) why.Count) _
    (few_quoted (length words) name (quoted_of (from_word words))
    (few_weaker (length (from_word words)) (length words) (quoted_of (from_word words)) (quoted_few (from_word words)) (from_word_few words)))) in
    subst (FeedsFew (length words)) read few

few_step_by : (desc : Description) (line word : List ℕ) (words : List (List ℕ)) (form : Option Form) → IfSome form MoveForm
    → FeedsFew (length line) (step_by desc line word words form)
few_step_by desc line word words form move = search (rules, few_feed_step)

-- ---- the step of a line

abbrev StepFeedsFew : ℕ → Result (Option Step) Why → Type 0
StepFeedsFew n (Ok (Some step)) = feeds step ≤ n
StepFeedsFew n (Ok None) = Unit {0}
StepFeedsFew n (Err refusal) = Unit {0}

few_of_words : (desc : Description) (line : List ℕ) (words : List (List ℕ)) → StepFeedsFew (length line) (step_of_words desc line words)
few_of_words desc line words = search (rules, few_step_by)

few_by_words : (desc : Description) (line : List ℕ) (read : Result (List (List ℕ)) Why)
    → StepFeedsFew (length line) (read >>= λ words. step_of_words desc line words)
few_by_words desc line read = search (rules, few_of_words)

-- a line that is a step isn't too long
short_line : (line : List ℕ) (t : Bool) (next : Result (List (List ℕ)) Why) (f : List (List ℕ) → Result (Option Step) Why) (step : Option Step)
    → ((ensure t why.Long >> next) >>= f) ≡ Ok step → t ≡ true
short_line line t next f step h = search rules

cost_by : (step : CodeStep) (n : ℕ) → feeds (step_view step) ≤ n → cost_of step ≤ 1 + n
cost_by step n few = search rules

pub cost_of_line : (desc : Description) (line : List ℕ) (step : CodeStep) → step_of desc line ≡ Ok (Some (step_view step)) → cost_of step ≤ 1 + MAX_LINE_BYTES
cost_of_line desc line step said =
    let fits : fits_line line ≡ true = short_line line (fits_line line) _ (λ words. step_of_words desc line words) (Some (step_view step)) said in
    let within : length line ≤ MAX_LINE_BYTES = grind (arith, nat_tests) in
    let few : feeds (step_view step) ≤ length line = subst (StepFeedsFew (length line)) said (few_by_words desc line (words_of_line line)) in
    cost_by step MAX_LINE_BYTES (omega (arith, few, within))

-- what stands after the first word of a line that isn't too long
pub few_after_word : (line word rest : List ℕ) (words : List (List ℕ)) → words_of_line line ≡ Ok words → IsFirstWord is_space line word rest
    → length rest ≤ MAX_LINE_BYTES
few_after_word line word rest words said first = grind (arith, common_steps)
