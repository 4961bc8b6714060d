-- What the bytes mean that come where an answer is awaited, and that they have one meaning.
use Rattle.std.proofs.Common.{◌≡◌, ◌⊎◌, inl, inr, ℕ, List, [], ◌∷◌, ◌++◌, Option, Some, None, refl, sym, ap, subst, ◌∙◌, arith, append_assoc, append-nil, rules}
use Rattle.std.proofs.lemmas.Grind.{common_steps}
use Rattle.iiod_client.specs.declared.answer.State.{State}
use Rattle.iiod_client.specs.declared.answer.State.TheVariants as state
use Rattle.iiod_client.specs.Line.{line_text, HasNoLf, IsBegunLine, IsLongLine, zero_line, refusal_of}
use Rattle.iiod_client.specs.Awaited.{Awaited, Plain, Scans, Nothing, IsAccepted, IsPlainRefusal, IsWrongPlain}
use Rattle.iiod_client.specs.Standing.{Reads, IsEnd, told_body}
use Rattle.iiod_client.proofs.Machine.{one_reading}

-- ---- lines

first_same : (x y : ℕ) (xs ys : List ℕ) → x ∷ xs ≡ y ∷ ys → x ≡ y
first_same x y xs ys e = cc

rest_same : (x y : ℕ) (xs ys : List ℕ) → x ∷ xs ≡ y ∷ ys → xs ≡ ys
rest_same x y xs ys e = cc

-- two lines without an LF, each before its LF, are one line
one_line : (xs ys ms ns : List ℕ) → HasNoLf xs → HasNoLf ys → xs ++ 10 ∷ ms ≡ ys ++ 10 ∷ ns → (xs ≡ ys) × (ms ≡ ns)
one_line [] [] ms ns k l e = (refl, rest_same 10 10 ms ns e)
one_line [] (y ∷ ys) ms ns k l e = absurd (l.0 (sym (first_same 10 y ms (ys ++ 10 ∷ ns) e)))
one_line (x ∷ xs) [] ms ns k l e = absurd (k.0 (first_same x 10 (xs ++ 10 ∷ ms) ns e))
one_line (x ∷ xs) (y ∷ ys) ms ns k l e = search (rules, first_same, rest_same, one_line xs ys ms ns k.1 l.1 (rest_same x y (xs ++ 10 ∷ ms) (ys ++ 10 ∷ ns) e))

has_lf : (xs ms : List ℕ) → HasNoLf (xs ++ 10 ∷ ms) → ⊥
has_lf [] ms h = h.0 refl
has_lf (x ∷ xs) ms h = has_lf xs ms h.1

-- a line with its LF, and what follows
spelled : (line text more : List ℕ) → text ≡ line_text line → text ++ more ≡ line ++ 10 ∷ more
spelled line text more e = ap (λ xs. xs ++ more) e ∙ append_assoc line (10 ∷ []) more

zero_begun : IsBegunLine zero_line
zero_begun = record { few = omega arith; no_lf = ((λ (e : 48 ≡ 10). omega (arith, e)), tt) }

-- ---- plain answers

-- what a text means where this answer is awaited
abbrev pub ReadsAs : Awaited → State → (text body : List ℕ) → Type 0
ReadsAs Plain state.More text body = IsBegunLine text
ReadsAs Plain state.Done text body = IsAccepted Plain text body
ReadsAs Plain (state.Refused n) text body = IsPlainRefusal n text
ReadsAs Plain state.Malformed text body = IsWrongPlain text ⊎ IsLongLine text
ReadsAs (Scans q) s text body = Reads q s text body
ReadsAs Nothing s text body = ⊥

abbrev SaysLine : List ℕ → State → Type 0
SaysLine line state.More = ⊥
SaysLine line state.Done = line ≡ zero_line
SaysLine line (state.Refused n) = refusal_of line ≡ Some n
SaysLine line state.Malformed = (line ≡ zero_line → ⊥) × (refusal_of line ≡ None)

-- a plain answer's line
record PlainEnd (s : State) (text body : List ℕ) : Type 0 where
  line : List ℕ
  is_line : IsBegunLine line
  says : SaysLine line s
  none : told_body s body ≡ []
  text_is : text ≡ line_text line

plain_end : (s : State) (text body : List ℕ) → IsEnd s → ReadsAs Plain s text body → PlainEnd s text body ⊎ (IsLongLine text × (s ≡ state.Malformed))
plain_end s text body is r = search (rules, zero_begun)

one_says : (line : List ℕ) (s t : State) → SaysLine line s → SaysLine line t → t ≡ s
one_says line s t a b = search rules

-- a text that has ended has no other reading, and no longer text that begins with it has any
abbrev One : (s t : State) (more body other : List ℕ) → Type 0
One s t more body other = (more ≡ []) × (t ≡ s) × (told_body t other ≡ told_body s body)

not_begun : (s : State) (text body more : List ℕ) → PlainEnd s text body ⊎ (IsLongLine text × (s ≡ state.Malformed)) → IsBegunLine (text ++ more) → ⊥
not_begun s text body more h1 b = grind (arith, common_steps, has_lf)

one_end : (s t : State) (text more body other : List ℕ) → PlainEnd s text body ⊎ (IsLongLine text × (s ≡ state.Malformed)) → PlainEnd t (text ++ more) other
    ⊎ (IsLongLine (text ++ more) × (t ≡ state.Malformed))
    → One s t more body other
one_end s t text more body other h1 h2 = grind (arith, common_steps, one_line, has_lf)

one_plain : (s t : State) (text more body other : List ℕ) → IsEnd s → ReadsAs Plain s text body → ReadsAs Plain t (text ++ more) other → One s t more body other
one_plain s state.More text more body other is r k = absurd (not_begun s text body more (plain_end s text body is r) k)
one_plain s state.Done text more body other is r k =
    one_end s state.Done text more body other (plain_end s text body is r) (plain_end state.Done (text ++ more) other tt k)
one_plain s (state.Refused n) text more body other is r k =
    one_end s (state.Refused n) text more body other (plain_end s text body is r) (plain_end (state.Refused n) (text ++ more) other tt k)
one_plain s state.Malformed text more body other is r k =
    one_end s state.Malformed text more body other (plain_end s text body is r) (plain_end state.Malformed (text ++ more) other tt k)

-- ---- all answers

abbrev state_in : Option (State × List ℕ) → State
state_in None = state.More
state_in (Some p) = p.0

abbrev body_in : Option (State × List ℕ) → List ℕ
body_in None = []
body_in (Some p) = p.1

pub one_answer : (w : Awaited) (s t : State) (text more body other : List ℕ) → IsEnd s → ReadsAs w s text body → ReadsAs w t (text ++ more) other
    → One s t more body other
one_answer Plain s t text more body other is r k = one_plain s t text more body other is r k
one_answer (Scans q) s t text more body other is r k =
    let one = one_reading q s t text more body other is r k in (one.0, ap state_in one.1, ap body_in one.1)
one_answer Nothing s t text more body other is r k = absurd r

-- ---- the meaning of the bytes to come

-- the bytes begin with a text of that state; if it hasn't ended, it is all of them
pub record Tells (w : Awaited) (bytes : List ℕ) (s : State) : Type 0 where
  pub text : List ℕ
  pub more : List ℕ
  pub body : List ℕ
  pub reads : ReadsAs w s text body
  pub ended : IsEnd s ⊎ ((s ≡ state.More) × (more ≡ []))
  pub bytes_are : bytes ≡ text ++ more

-- one of two beginnings begins with the other
split : (xs ys ms ns : List ℕ) → xs ++ ms ≡ ys ++ ns
    → ((more : List ℕ) × (ys ≡ xs ++ more) × (ms ≡ more ++ ns)) ⊎ ((more : List ℕ) × (xs ≡ ys ++ more) × (ns ≡ more ++ ms))
split [] ys ms ns e = inl (ys, refl, e)
split (x ∷ xs) [] ms ns e = inr (x ∷ xs, refl, sym e)
split (x ∷ xs) (y ∷ ys) ms ns e = search (rules, rest_same, first_same, split xs ys ms ns (rest_same x y (xs ++ ms) (ys ++ ns) e))

front_none : (xs ys : List ℕ) → xs ++ ys ≡ [] → xs ≡ []
front_none [] ys e = refl
front_none (x ∷ xs) ys e = absurd cc

-- the same, if the first is a front of the second
tells_by : (w : Awaited) (s t : State) (text text' more more' body other m : List ℕ) → ReadsAs w s text body → ReadsAs w t text' other
    → IsEnd s ⊎ ((s ≡ state.More) × (more ≡ [])) → IsEnd t ⊎ ((t ≡ state.More) × (more' ≡ [])) → text' ≡ text ++ m → more ≡ m ++ more' → s ≡ t
tells_by w s t text text' more more' body other m r k (inl is) ended e f =
    let one = one_answer w s t text m body other is r (subst (λ xs. ReadsAs w t xs other) e k) in sym one.1
tells_by w s t text text' more more' body other m r k (inr none) (inr none') e f = none.0 ∙ sym none'.0
tells_by w s t text text' more more' body other m r k (inr none) (inl is) e f =
    let no_more : m ≡ [] = front_none m more' (sym f ∙ none.1) in
    let same : text ≡ text' ++ [] = sym (append-nil text) ∙ ap (λ xs. text ++ xs) (sym no_more) ∙ sym e ∙ sym (append-nil text') in
    let one = one_answer w t s text' [] other body is k (subst (λ xs. ReadsAs w s xs body) same r) in one.1

pub tells_one : (w : Awaited) (bytes : List ℕ) (s t : State) → Tells w bytes s → Tells w bytes t → s ≡ t
tells_one w bytes s t a b = by (split a.text b.text a.more b.more (sym a.bytes_are ∙ b.bytes_are))
  where
    by : ((m : List ℕ) × (b.text ≡ a.text ++ m) × (a.more ≡ m ++ b.more)) ⊎ ((m : List ℕ) × (a.text ≡ b.text ++ m) × (b.more ≡ m ++ a.more)) → s ≡ t
    by (inl (m, e, f)) = tells_by w s t a.text b.text a.more b.more a.body b.body m a.reads b.reads a.ended b.ended e f
    by (inr (m, e, f)) = sym (tells_by w t s b.text a.text b.more a.more b.body a.body m b.reads a.reads b.ended a.ended e f)

-- whole answers at the front of one text are the same answer
pub one_front : (w : Awaited) (text text' more more' body body' : List ℕ) → IsAccepted w text body → IsAccepted w text' body' → text ++ more ≡ text' ++ more'
    → (text ≡ text') × (body ≡ body') × (more ≡ more')
one_front w text text' more more' body body' a b e = by (split text text' more more' e)
  where
    done : (w : Awaited) (text body : List ℕ) → IsAccepted w text body → ReadsAs w state.Done text body
    done w text body a = search rules

    front : (x y u v body other m : List ℕ) → IsAccepted w x body → IsAccepted w y other → y ≡ x ++ m → u ≡ m ++ v → (x ≡ y) × (body ≡ other) × (u ≡ v)
    front x y u v body other m a b f g =
        let one = one_answer w state.Done state.Done x m body other tt (done w x body a) (subst (λ xs. ReadsAs w state.Done xs other) f (done w y other b)) in
        (sym (f ∙ ap (λ xs. x ++ xs) one.0 ∙ append-nil x), sym one.2, g ∙ ap (λ xs. xs ++ v) one.0)

    by : ((m : List ℕ) × (text' ≡ text ++ m) × (more ≡ m ++ more')) ⊎ ((m : List ℕ) × (text ≡ text' ++ m) × (more' ≡ m ++ more)) → (text ≡ text')
        × (body ≡ body') × (more ≡ more')
    by (inl (m, f, g)) = front text text' more more' body body' m a b f g
    by (inr (m, f, g)) = let one = front text' text more' more body' body m b a f g in (sym one.0, sym one.1, sym one.2)
