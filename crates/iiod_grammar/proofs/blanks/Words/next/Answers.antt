use Rattle.std.proofs.Common.{◌≡◌, ℕ, ◌/◌, ◌^◌, ◌<◌, ◌≤◌, List, length, take, drop, arith, refl, sym, ap, ◌∙◌}
use Rattle.std.specs.Int.{w64, trailing_zeros, trailing_ones}
use Rattle.std.specs.List.{position_or_len, prefix_len}
use Rattle.std.proofs.lemmas.List.Sums.{prefix_len-le-length}
use Rattle.iio_text.specs.Words.{is_blank, IsFirstWord}
use Rattle.iio_text.proofs.WordLemmas.{first_word_is}
use Rattle.iiod_grammar.specs.Marks.{is_solid, marks_of, kept_marks}
use Rattle.iiod_grammar.proofs.MarkLemmas.{begins, end_at, kept_rest, no_words_kept}
use Rattle.iiod_grammar.proofs.blanks.Words.next.Goals as goal

pub returns-then-self-le-MARKED-clause-none : goal.returns-then-self-le-MARKED-clause-none
returns-then-self-le-MARKED-clause-none c =
    let none : kept_marks c.self.inside.text.now ≡ 0 = sym c.self.invariant ∙ c.if-self-eq0.true in
    (λ _. sym c.self.view_is ∙ no_words_kept c.self.inside.text.now none (omega (arith, c.if-self-le-MARKED.true)), λ _. refl)

pub split_at-requires : goal.split_at-requires
split_at-requires c =
    let first = begins c.self.inside.text.now c.self.inside.marks c.self.invariant (omega (arith, c.if-self-eq0.false)) in
    omega (arith, first.start, prefix_len-le-length is_blank c.self.inside.text.now)

-- the text from the first word on, and its length
record Begun (begun : List ℕ) (text : List ℕ) (marks place end : ℕ) : Type 0 where
  pub is : begun ≡ drop (prefix_len is_blank text) text
  pub some : 0 < length begun
  pub few : length begun ≤ 63
  pub marked : marks / 2 ^ place ≡ marks_of begun
  pub len : end ≡ position_or_len is_blank begun

begun_at : (begun : List ℕ) (text : List ℕ) (marks end : ℕ) → marks ≡ kept_marks text → 0 < marks → begun ≡ drop (trailing_zeros w64 marks) text
    → end ≡ trailing_ones w64 (marks / 2 ^ trailing_zeros w64 marks) → Begun begun text marks (trailing_zeros w64 marks) end
begun_at begun text marks end kept some is ones =
    let first = begins text marks kept some in
    let here : begun ≡ drop (prefix_len is_blank text) text = is ∙ ap (λ k. drop k text) first.start in
    let few : length begun ≤ 63 = rw here first.few in
    let marked : marks / 2 ^ trailing_zeros w64 marks ≡ marks_of begun = rw here first.marked in record {
      is = here;
      some = rw here first.some;
      few = few;
      marked = marked;
      len = ones ∙ ap (trailing_ones w64) marked ∙ end_at begun few;
    }

begun_of : (c : goal.After-rest-1)
    → Begun c.split_at.result.1.now c.self.inside.text.now c.self.inside.marks (trailing_zeros w64 c.self.inside.marks) c.trailing_ones-len.result
begun_of c = begun_at _ _ _ _ c.self.invariant (omega (arith, c.if-self-eq0.false)) c.split_at.ensures.back c.trailing_ones-len.ensures

pub split_at-requires-2 : goal.split_at-requires-2
split_at-requires-2 c =
    let begun = begun_at _ _ _ _ c.self.invariant (omega (arith, c.if-self-eq0.false)) c.split_at.ensures.back c.trailing_ones-len.ensures in
    omega (arith, begun.len, prefix_len-le-length is_solid c.split_at.result.1.now)

pub invariant_of-self : goal.invariant_of-self
invariant_of-self c =
    let begun = begun_of c in
    rw (c.split_at-2.ensures.back, c.trailing_ones-len.ensures) (kept_rest c.split_at.result.1.now _ _ begun.few begun.marked)

found_at : (c : goal.After-rest-1) → IsFirstWord is_blank c.self.inside.text.now c.split_at-2.result.0.now c.split_at-2.result.1.now
found_at c =
    let begun = begun_of c in
    first_word_is is_blank c.self.inside.text.now c.split_at.result.1.now _ _ begun.is begun.some
    (c.split_at-2.ensures.front ∙ ap (λ k. take k c.split_at.result.1.now) begun.len)
    (c.split_at-2.ensures.back ∙ ap (λ k. drop k c.split_at.result.1.now) begun.len)

pub returns-clause-none : goal.returns-clause-none
returns-clause-none c = let found = sym c.self.view_is ∙ (found_at c).words in (λ e. absurd (cc e), λ e. absurd (cc (found, e)))

pub returns-clause-found : goal.returns-clause-found
returns-clause-found c = sym c.self.view_is ∙ (found_at c).words
