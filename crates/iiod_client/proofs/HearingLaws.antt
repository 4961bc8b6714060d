-- What an answer that was heard means.
use Rattle.std.proofs.Common.{◌≡◌, ◌≢◌, ◌≤◌, inl, inr, ℕ, List, [], ◌∷◌, ◌++◌, length, drop, take, Option, None, Result, Ok, Err, refl, sym, ap, subst, ◌∙◌, arith, length-append, rules}
use Rattle.std.specs.Prelude.{⊤}
use Rattle.std.proofs.lemmas.List.{take-append-drop}
use Rattle.iiod_client.specs.declared.answer.State.TheVariants as state
use Rattle.iiod_client.specs.declared.client_end.ClientEnd.{ClientEnd}
use Rattle.iiod_client.specs.declared.client_end.ClientEnd.TheVariants.{Done, Refused, LinkFault, WriteFault, Memory, Malformed, Cut}
use Rattle.iiod_client.specs.Line.{line_text, HasNoLf}
use Rattle.iiod_client.specs.Standing.{AnswerRecord, Stands, IsPartial, state_of, new_answer}
use Rattle.iiod_client.specs.declared.answer.Place.TheVariants as place
use Rattle.iiod_client.specs.Awaited.{Awaited, Plain, IsUnfinished}
use Rattle.iiod_client.specs.Exchange.{Hears, IsLinkEnd, SaysPlain}
use Rattle.iiod_client.specs.Point.{Point, Heard, point}
use Rattle.iiod_client.proofs.Heard.{heard_more, heard_pending}
use Rattle.iiod_client.proofs.Stands.{no_lf_more}

-- the link gave no byte within an answer
pub hears_end : (w : Awaited) (body text : List ℕ) (r : Result ⊤ ClientEnd) (y e : ClientEnd) (a b c : Point) → r ≡ Err y → y ≡ e → IsUnfinished w text
    → Heard a text b → Heard b [] c → IsLinkEnd e c → Hears w body r a c
hears_end w body text r y e a b c p q u h k end = search rules

-- ---- plain answers

pub plain_says : (line said : List ℕ) (byte : ℕ) (r : Result ⊤ ClientEnd) (a b c : Point) → SaysPlain said r → said ≡ line → HasNoLf line → length line ≤ 32
    → Heard a line b → Heard b (byte ∷ []) c → byte ≡ 10
    → Hears Plain [] r a c
plain_says line said byte r a b c says e lf few h k is = by r (subst (λ xs. SaysPlain xs r) e says)
  where
    heard : Heard a (line_text line) c
    heard = subst (λ x. Heard a (line ++ x ∷ []) c) is (heard_more a b c line (byte ∷ []) h k)

    by : (r : Result ⊤ ClientEnd) → SaysPlain line r → Hears Plain [] r a c
    by (Ok done) s = (line_text line, (ap line_text s, refl), heard)
    by (Err Done) s = absurd s
    by (Err (Refused n)) s = (line_text line, record { line = line; is_line = record { few = few; no_lf = lf }; number = s; text_is = refl }, heard)
    by (Err LinkFault) s = absurd s
    by (Err WriteFault) s = absurd s
    by (Err Memory) s = absurd s
    by (Err Malformed) s =
        (line_text line, inl (record { line = line; is_line = record { few = few; no_lf = lf }; no_zero = s.0; no_refusal = s.1; text_is = refl }), heard)
    by (Err Cut) s = absurd s

pub plain_long : (line : List ℕ) (byte : ℕ) (a b c : Point) → HasNoLf line → length line ≡ 32 → Heard a line b → Heard b (byte ∷ []) c → byte ≢ 10
    → Hears Plain [] (Err Malformed) a c
plain_long line byte a b c lf full h k other = (
  line ++ byte ∷ [],
  inr (record { one_more = omega (arith, full, length-append line (byte ∷ [])); no_lf = no_lf_more line byte lf other }),
  heard_more a b c
      line (byte ∷ []) h k,
)

-- ---- answers to READBUF

pub new_stands : (x : AnswerRecord) → x ≡ new_answer x.asked → 1 ≤ x.asked.bytes → Stands x []
new_stands x e some = search rules

pub new_more : (x : AnswerRecord) → x ≡ new_answer x.asked → state_of x.place ≡ state.More
new_more x e = ap (λ (y : AnswerRecord). state_of y.place) e

-- an answer that hasn't ended is the beginning of one
pub stands_partial : (x : AnswerRecord) (text : List ℕ) → state_of x.place ≡ state.More → Stands x text → IsPartial x.asked text x.body
stands_partial x text more s = search rules

-- the first of the pending bytes were heard
pub heard_taken : (l : Option (List ℕ)) (p q : List ℕ) (n : ℕ) → q ≡ drop n p → Heard (point l p None None) (take n p) (point l q None None)
heard_taken l p q n e = heard_pending l p (take n p) q (sym (take-append-drop n p) ∙ ap (λ xs. take n p ++ xs) (sym e))

-- the first of the bytes that are pending after a receive were heard
pub heard_fed : (a : Point) (l m : Option (List ℕ)) (p q r bytes text : List ℕ) (n : ℕ) → Heard a text (point l p None None)
    → Heard (point l p None None) [] (point m q None None) → bytes ≡ q → r ≡ drop n q
    → Heard a (text ++ take n bytes) (point m r None None)
heard_fed a l m p q r bytes text n h k e f = search (rules, heard_more, heard_taken)
