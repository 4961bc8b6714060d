-- How further bytes change the place in an answer.
use Rattle.std.proofs.Common.{◌≡◌, ◌≢◌, inl, inr, ℕ, ◌+◌, ◌≤◌, List, [], ◌∷◌, ◌++◌, length, Some, Result, Err, true, refl, sym, ap, subst, ◌∙◌, arith, append_assoc, append-nil, length-append, rules}
use Rattle.std.proofs.lemmas.Grind.{common_steps}
use Rattle.std.specs.Prelude.{is_err, OnErr}
use Rattle.std.specs.List.{AllByRecursion}
use Rattle.iio_text.specs.Numbers.{number_of}
use Rattle.iio_mask.specs.Text.{IsMaskText}
use Rattle.iiod_client.specs.declared.answer.Place.{Place}
use Rattle.iiod_client.specs.declared.answer.Place.TheVariants.{Length, Mask, Data, Done, Refused, Malformed}
use Rattle.iiod_client.specs.Line.{line_text, HasNoLf, IsBegunLine}
use Rattle.iiod_client.specs.Answer.{Asked, Block, IsBlock, AreBlocks, Begins, IsMalformed}
use Rattle.iiod_client.specs.declared.answer.State.TheVariants.{More}
use Rattle.iiod_client.specs.Standing.{InLength, InMask, StandsAt, IsSoundPlace, state_of}
use Rattle.iiod_client.specs.Steps.{AfterLength, AfterMask, AfterBlock, AfterBytes, AfterLineAt}

-- ---- lists

pub no_lf_more : (xs : List ℕ) (b : ℕ) → HasNoLf xs → b ≢ 10 → HasNoLf (xs ++ b ∷ [])
no_lf_more [] b h n = (n, tt)
no_lf_more (x ∷ xs) b h n = (h.0, no_lf_more xs b h.1 n)

later_more : (xs : List Block) (b : Block) → AllByRecursion IsBlock xs → IsBlock b → AllByRecursion IsBlock (xs ++ b ∷ [])
later_more [] b h n = (n, tt)
later_more (x ∷ xs) b h n = (h.0, later_more xs b h.1 n)

-- ---- blocks

-- blocks and one more
pub blocks_more : (q : Asked) (text body line rest : List ℕ) → AreBlocks q text body → IsBegunLine line → number_of line ≡ Some (length rest) → 1 ≤ length rest
    → length body + length rest ≤ q.bytes
    → AreBlocks q (text ++ (line_text line ++ rest)) (body ++ rest)
blocks_more q text body line rest b is_line n some fits =
    let block : Block = record { line = line; bytes = rest } in
    let head = line_text b.first.line in
    let mask = line_text b.mask in
    record {
      first = b.first;
      mask = b.mask;
      later = b.later ++ block ∷ [];
      is_first = b.is_first;
      is_mask_line = b.is_mask_line;
      is_mask = b.is_mask;
      are_later = later_more b.later block b.are_later (record { is_line = is_line; counted = n; some = some });
      body_is = grind (arith, common_steps);
      text_is = grind (arith, common_steps);
      within = omega (arith, fits, length-append body rest);
    }

-- a first block
pub blocks_first : (q : Asked) (first mask rest : List ℕ) → IsBegunLine first → IsBegunLine mask → number_of first ≡ Some (length rest) → 1 ≤ length rest
    → length rest ≤ q.bytes → IsMaskText q.channels mask q.mask
    → AreBlocks q (line_text first ++ (line_text mask ++ rest)) rest
blocks_first q first mask rest is_first is_mask_line n some fits is_mask = record {
  first = record { line = first; bytes = rest };
  mask = mask;
  later = [];
  is_first = record { is_line = is_first; counted = n; some = some };
  is_mask_line = is_mask_line;
  is_mask = is_mask;
  are_later = tt;
  body_is = sym (append-nil rest);
  text_is = ap (λ xs. line_text first ++ (line_text mask ++ xs)) (sym (append-nil rest));
  within = fits;
}

-- blocks have bytes
pub blocks_some : (q : Asked) (text body : List ℕ) → AreBlocks q text body → 1 ≤ length body
blocks_some q text body b = grind (arith, common_steps)

pub begun_blocks : (q : Asked) (text body : List ℕ) → Begins q text body → 1 ≤ length body → AreBlocks q text body
begun_blocks q text body h1 some = search rules

-- ---- a byte of a line

pub length_long : (q : Asked) (line body text : List ℕ) (b : ℕ) → InLength q line body text → b ≢ 10 → length line ≡ 32 → IsMalformed q (text ++ b ∷ [])
length_long q line body text b s other full = inr (inr (inl (record {
  front = s.blocks;
  line = line ++ b ∷ [];
  before = inl (body, s.begins, s.short);
  long = record { one_more = omega (arith, full, length-append line (b ∷ [])); no_lf = no_lf_more line b s.begun.no_lf other };
  text_is = ap (λ xs. xs ++ b ∷ []) s.text_is ∙ append_assoc s.blocks line (b ∷ []);
})))

pub mask_long : (q : Asked) (n : ℕ) (line body text : List ℕ) (b : ℕ) → InMask q n line body text → b ≢ 10 → length line ≡ 32 → IsMalformed q (text ++ b ∷ [])
mask_long q n line body text b s other full = inr (inr (inl (record {
  front = line_text s.first;
  line = line ++ b ∷ [];
  before = inr (n, s.first, s.is_first, refl);
  long = record { one_more = omega (arith, full, length-append line (b ∷ [])); no_lf = no_lf_more line b s.begun.no_lf other };
  text_is = ap (λ xs. xs ++ b ∷ []) s.text_is ∙ append_assoc (line_text s.first) line (b ∷ []);
})))

-- ---- the LF of a line

ended : (blocks line text : List ℕ) → text ≡ blocks ++ line → text ++ 10 ∷ [] ≡ blocks ++ line_text line
ended blocks line text e = ap (λ xs. xs ++ 10 ∷ []) e ∙ append_assoc blocks line (10 ∷ [])

number_at : (line rest : List ℕ) (n : ℕ) → number_of line ≡ Some n → length rest ≡ n → number_of line ≡ Some (length rest)
number_at line rest n e f = e ∙ ap (λ (k : ℕ). Some k) (sym f)

pub length_end : (q : Asked) (line body text : List ℕ) (p : Place) → InLength q line body text → AfterLength q body line p
    → StandsAt p q [] body (text ++ 10 ∷ [])
length_end q line body text Length s a = absurd a
length_end q line body text (Mask n) s a = grind (arith, common_steps)
length_end q line body text (Data n) s a = record {
  some = a.1;
  within = a.2;
  whole = λ rest e.
      subst (λ xs. AreBlocks q xs (body ++ rest))
      (sym (ap (λ xs. xs ++ rest) (ended s.blocks line text s.text_is) ∙ append_assoc s.blocks (line_text line) rest))
      (blocks_more q s.blocks body line rest (begun_blocks q s.blocks body s.begins a.3) s.begun (number_at line rest n a.0 e) (omega (arith, a.1, e))
      (omega (arith, a.2, e)));
}
length_end q line body text Done s a = grind (arith, common_steps)
length_end q line body text (Refused n) s a = search (rules, ended)
length_end q line body text Malformed s a = search (rules, ended)

pub mask_end : (q : Asked) (n : ℕ) (line body text : List ℕ) (p : Place) → InMask q n line body text → AfterMask q n line p
    → StandsAt p q [] body (text ++ 10 ∷ [])
mask_end q n line body text p s a = grind (arith, common_steps, blocks_first)

-- ---- what comes at a place that isn't in a block

pub line_end : (at : Place) (q : Asked) (line body text : List ℕ) (p : Place) → state_of at ≡ More → ((missing : ℕ) → at ≡ Data missing → ⊥)
    → StandsAt at q line body text → AfterLineAt at q line body p
    → StandsAt p q [] body (text ++ 10 ∷ [])
line_end at q line body text p m d s a = search (rules, length_end, mask_end)

pub line_long : (at : Place) (q : Asked) (line body text : List ℕ) (b : ℕ) → state_of at ≡ More → ((missing : ℕ) → at ≡ Data missing → ⊥)
    → StandsAt at q line body text → b ≢ 10 → length line ≡ 32
    → IsMalformed q (text ++ b ∷ [])
line_long at q line body text b m d s other full = search (rules, length_long, mask_long)

pub bytes_end : (at : Place) (q : Asked) (missing left : ℕ) (line body text part : List ℕ) (p : Place) → at ≡ Data missing → StandsAt at q line body text
    → length part + left ≡ missing → line ≡ [] → AfterBytes q left (body ++ part) p
    → StandsAt p q line (body ++ part) (text ++ part)
bytes_end at q missing left line body text part p e s f none a = grind (arith, common_steps)

-- ---- what the code may rely on

pub sound_length : (q : Asked) (line body : List ℕ) (p : Place) → AfterLength q body line p → IsSoundPlace p q [] body
sound_length q line body p a = search rules

pub sound_bytes : (q : Asked) (left : ℕ) (line body : List ℕ) (p : Place) → line ≡ [] → AfterBytes q left body p → IsSoundPlace p q line body
sound_bytes q left line body p e a = search rules

pub bytes_done : (q : Asked) (left : ℕ) (body : List ℕ) (p : Place) → left ≡ 0 → AfterBlock q body p → AfterBytes q left body p
bytes_done q left body p e a = search rules

-- a line where the mask's line is due
pub is_mask_line : (at : Place) (q : Asked) (n : ℕ) (line said body : List ℕ) (p : Place) → at ≡ Mask n → said ≡ line → AfterMask q n said p
    → AfterLineAt at q line body p
is_mask_line at q n line said body p e f a = search rules

pub sound_mask_line : (at : Place) (q : Asked) (n : ℕ) (line old body : List ℕ) (p : Place) → at ≡ Mask n → IsSoundPlace at q old body → AfterMask q n line p
    → IsSoundPlace p q [] body
sound_mask_line at q n line old body p e s a = search rules

-- a line where a length line is due
pub is_length_line : (at : Place) (q : Asked) (line said body heard : List ℕ) (p : Place) → state_of at ≡ More → ((missing : ℕ) → at ≡ Data missing → ⊥)
    → ((n : ℕ) → at ≡ Mask n → ⊥)
    → said ≡ line → heard ≡ body → AfterLength q heard said p → AfterLineAt at q line body p
is_length_line at q line said body heard p m d k e f a = search rules

pub on_err : {A E : Type 0} (r : Result A E) (P : Type 0) → is_err r ≡ true → OnErr r P → P
on_err r P e p = search rules

pub on_err_at : {A E : Type 0} (r : Result A E) (y : E) (P : Type 0) → r ≡ Err y → P → OnErr r P
on_err_at {A} {E} r y P e p = subst (λ (x : Result A E). OnErr x P) (sym e) p
