-- One reading of a text: a machine that takes a byte at a time, and where each part of the grammar leads it. It is cited by
-- the law `one_reading` alone.
use Rattle.std.proofs.Common.{◌≡◌, ◌≢◌, ◌⊎◌, inl, inr, ℕ, zero, suc, ◌+◌, ◌-◌, ◌<◌, ◌≤◌, List, [], ◌∷◌, ◌++◌, length, Option, Some, None, ◌%◌, refl, sym, ap, subst, ◌∙◌, arith, append_assoc, append-nil, length-append, rules}
use Rattle.std.proofs.lemmas.Grind.{common_steps}
use Rattle.std.specs.List.{AllByRecursion, flat_map}
use Rattle.std.specs.Prelude.{◌==◌}
use Rattle.std.proofs.lemmas.Bool.{cases_Bool, cases_lt, eqb-true, eqb-false}
use Rattle.iio_mask.specs.Text.{IsMaskText}
use Rattle.iiod_client.specs.declared.answer.State.{State}
use Rattle.iiod_client.specs.declared.answer.State.TheVariants as state
use Rattle.iiod_client.specs.declared.answer.Place.{Place}
use Rattle.iiod_client.specs.declared.answer.Place.TheVariants.{Length, Mask, Data, Done, Refused, Malformed}
use Rattle.iiod_client.specs.Line.{line_text, HasNoLf, IsBegunLine, zero_line}
use Rattle.iiod_client.specs.Answer.{Asked, Block, IsBlock, AreBlocks, Begins, IsAnswer, IsRefusal, IsMalformed, IsBeforeLine, block_text}
use Rattle.iiod_client.specs.Standing.{IsPartial, Reads, IsEnd, OneReading, reading_of, told_body}
use Rattle.iiod_client.specs.Steps.{AfterLength, AfterMask, AfterBlock}
use Rattle.iiod_client.proofs.Stands.{blocks_some}

-- ---- the machine

-- at a place of an answer, with the bytes of a line and the data so far; or after an answer's end
data M : Type 0 where
  At : (place : Place) (line body : List ℕ) → M
  Beyond : M

-- a byte of a line: it ends the line, goes on with it, or is one too many
abbrev LineStep : (line body : List ℕ) → (After : Place → Type 0) → Place → ℕ → M → Type 0
LineStep line body After at b x =
    ((b ≡ 10) × (p : Place) × After p × (x ≡ At p [] body))
    ⊎ (((b ≢ 10) × (length line < 32) × (x ≡ At at (line ++ b ∷ []) body)) ⊎ ((b ≢ 10) × (32 ≤ length line) × (x ≡ At Malformed [] body)))

-- a byte of a block: there are more, or it is the last one
abbrev DataStep : Asked → ℕ → (body : List ℕ) → ℕ → M → Type 0
DataStep q n body b x =
    ((2 ≤ n) × (x ≡ At (Data (n - 1)) [] (body ++ b ∷ []))) ⊎ ((n < 2) × (p : Place) × AfterBlock q (body ++ b ∷ []) p × (x ≡ At p [] (body ++ b ∷ [])))

abbrev StepAt : Asked → Place → (line body : List ℕ) → ℕ → M → Type 0
StepAt q Length line body b x = LineStep line body (AfterLength q body line) Length b x
StepAt q (Mask n) line body b x = LineStep line body (AfterMask q n line) (Mask n) b x
StepAt q (Data n) line body b x = DataStep q n body b x
StepAt q Done line body b x = x ≡ Beyond
StepAt q (Refused n) line body b x = x ≡ Beyond
StepAt q Malformed line body b x = x ≡ Beyond

abbrev Step : Asked → M → ℕ → M → Type 0
Step q (At place line body) b x = StepAt q place line body b x
Step q Beyond b x = x ≡ Beyond

abbrev Runs : Asked → M → List ℕ → M → Type 0
Runs q m [] x = x ≡ m
Runs q m (b ∷ bs) x = (y : M) × Step q m b y × Runs q y bs x

det_step : (q : Asked) (m : M) (b : ℕ) (x y : M) → Step q m b x → Step q m b y → x ≡ y
det_step q m b x y s t = search rules

det_runs : (q : Asked) (m : M) (text : List ℕ) (x y : M) → Runs q m text x → Runs q m text y → x ≡ y
det_runs q m [] x y s t = s ∙ sym t
det_runs q m (b ∷ bs) x y (u, s, r) (v, t, k) =
    let same = det_step q m b u v s t in
    det_runs q v bs x y (subst (λ (z : M). Runs q z bs x) same r) k

runs_on : (q : Asked) (m : M) (xs ys : List ℕ) (x y : M) → Runs q m xs x → Runs q x ys y → Runs q m (xs ++ ys) y
runs_on q m [] ys x y e t = subst (λ (z : M). Runs q z ys y) e t
runs_on q m (b ∷ bs) ys x y (u, s, r) t = (u, s, runs_on q u bs ys x y r t)

runs_cut : (q : Asked) (m : M) (xs ys : List ℕ) (y : M) → Runs q m (xs ++ ys) y → (x : M) × Runs q m xs x × Runs q x ys y
runs_cut q m [] ys y r = (m, refl, r)
runs_cut q m (b ∷ bs) ys y (u, s, r) = let (x, k, l) = runs_cut q u bs ys y r in (x, (u, s, k), l)

runs_beyond : (q : Asked) (text : List ℕ) (x : M) → Runs q Beyond text x → x ≡ Beyond
runs_beyond q [] x e = e
runs_beyond q (b ∷ bs) x (u, s, r) = runs_beyond q bs x (subst (λ (z : M). Runs q z bs x) s r)

-- ---- where parts lead

abbrev start : M
start = At Length [] []

run_line : (q : Asked) (After : Place → Type 0) (at : Place) (line body xs : List ℕ)
    → ((l : List ℕ) (b : ℕ) → b ≢ 10 → length l < 32 → StepAt q at l body b (At at (l ++ b ∷ []) body)) → HasNoLf xs → length line + length xs ≤ 32
    → Runs q (At at line body) xs (At at (line ++ xs) body)
run_line q After at line body [] step lf few = ap (λ (l : List ℕ). At at l body) (append-nil line)
run_line q After at line body (b ∷ bs) step lf few =
    grind (arith, common_steps, run_line q After at (line ++ b ∷ []) body bs step lf.1 (omega (arith, few, length-append line (b ∷ []))))

length_go : (q : Asked) (body l : List ℕ) (b : ℕ) → b ≢ 10 → length l < 32 → StepAt q Length l body b (At Length (l ++ b ∷ []) body)
length_go q body l b other room = inr (inl (other, room, refl))

mask_go : (q : Asked) (n : ℕ) (body l : List ℕ) (b : ℕ) → b ≢ 10 → length l < 32 → StepAt q (Mask n) l body b (At (Mask n) (l ++ b ∷ []) body)
mask_go q n body l b other room = inr (inl (other, room, refl))

run_length : (q : Asked) (body line : List ℕ) → IsBegunLine line → Runs q (At Length [] body) line (At Length line body)
run_length q body line is = run_line q (λ p. ⊥) Length [] body line (length_go q body) is.no_lf (omega (arith, is.few))

run_mask : (q : Asked) (n : ℕ) (body line : List ℕ) → IsBegunLine line → Runs q (At (Mask n) [] body) line (At (Mask n) line body)
run_mask q n body line is = run_line q (λ p. ⊥) (Mask n) [] body line (mask_go q n body) is.no_lf (omega (arith, is.few))

length_line : (q : Asked) (body line : List ℕ) (p : Place) → IsBegunLine line → AfterLength q body line p
    → Runs q (At Length [] body) (line_text line) (At p [] body)
length_line q body line p is a =
    runs_on q (At Length [] body) line (10 ∷ []) (At Length line body) (At p [] body) (run_length q body line is) (At p [] body, inl (refl, p, a, refl), refl)

mask_line : (q : Asked) (n : ℕ) (body line : List ℕ) (p : Place) → IsBegunLine line → AfterMask q n line p
    → Runs q (At (Mask n) [] body) (line_text line) (At p [] body)
mask_line q n body line p is a =
    runs_on q (At (Mask n) [] body) line (10 ∷ []) (At (Mask n) line body) (At p [] body) (run_mask q n body line is)
    (At p [] body, inl (refl, p, a, refl), refl)

run_data : (q : Asked) (n : ℕ) (line body xs : List ℕ) (p : Place) → length xs ≡ n → 1 ≤ n → AfterBlock q (body ++ xs) p
    → Runs q (At (Data n) line body) xs (At p [] (body ++ xs))
run_data q n line body [] p e some a = absurd (omega (arith, e, some))
run_data q n line body (b ∷ []) p e some a = (At p [] (body ++ b ∷ []), inr (omega (arith, e), p, a, refl), refl)
run_data q n line body (b ∷ c ∷ cs) p e some a =
    let all = append_assoc body (b ∷ []) (c ∷ cs) in
    let more = run_data q (n - 1) [] (body ++ b ∷ []) (c ∷ cs) p (omega (arith, e)) (omega (arith, e)) (subst (λ xs. AfterBlock q xs p) (sym all) a) in (
      At (Data (n - 1)) [] (body ++ b ∷ []),
      inl (omega (arith, e), refl),
      subst
          (λ (xs : List ℕ). Runs q (At (Data (n - 1)) [] (body ++ b ∷ [])) (c ∷ cs) (At p [] xs)) all more,
    )

-- ---- blocks

abbrev all_bytes : List Block → List ℕ
all_bytes later = flat_map (λ (x : Block). x.bytes) later

run_block : (q : Asked) (b : Block) (body : List ℕ) (p : Place) → IsBlock b → 1 ≤ length body → length body + length b.bytes ≤ q.bytes
    → AfterBlock q (body ++ b.bytes) p
    → Runs q (At Length [] body) (block_text b) (At p [] (body ++ b.bytes))
run_block q b body p is some fits a =
    runs_on q (At Length [] body) (line_text b.line) b.bytes (At (Data (length b.bytes)) [] body) (At p [] (body ++ b.bytes))
    (length_line q body b.line (Data (length b.bytes)) is.is_line (is.counted, is.some, fits, some))
    (run_data q (length b.bytes) [] body b.bytes p refl is.some a)

run_later : (q : Asked) (later : List Block) (body : List ℕ) (p : Place) → AllByRecursion IsBlock later → length body < q.bytes → 1 ≤ length body
    → length (body ++ all_bytes later) ≤ q.bytes → AfterBlock q (body ++ all_bytes later) p
    → Runs q (At Length [] body) (flat_map block_text later) (At p [] (body ++ all_bytes later))
run_later q [] body p are short some fits a = search rules
run_later q (b ∷ []) body p are short some fits a = grind (arith, common_steps, run_block)
run_later q (b ∷ c ∷ cs) body p are short some fits a =
    let next = body ++ b.bytes in
    let rest = all_bytes (c ∷ cs) in
    let all = append_assoc body b.bytes rest in
    let sizes : length body + length b.bytes + length (all_bytes (c ∷ cs)) ≤ q.bytes = grind (arith, common_steps) in
    let more : 1 ≤ length rest = omega (arith, are.1.0.some, length-append c.bytes (all_bytes cs)) in
    let less : length next < q.bytes = omega (arith, sizes, more, length-append body b.bytes) in
    let one = run_block q b body Length are.0 some (omega (arith, sizes)) less in
    let two =
    run_later q (c ∷ cs) next p are.1 less (omega (arith, some, length-append body b.bytes)) (omega (arith, fits, ap length all))
    (subst (λ xs. AfterBlock q xs p) (sym all) a) in
    subst (λ (xs : List ℕ). Runs q (At Length [] body) (flat_map block_text (b ∷ c ∷ cs)) (At p [] xs)) all
    (runs_on q (At Length [] body) (block_text b) (flat_map block_text (c ∷ cs)) (At Length [] next) (At p [] (next ++ rest)) one two)

run_first : (q : Asked) (first : Block) (mask : List ℕ) (p : Place) → IsBlock first → IsBegunLine mask → IsMaskText q.channels mask q.mask
    → length first.bytes ≤ q.bytes → AfterBlock q first.bytes p
    → Runs q start (line_text first.line ++ (line_text mask ++ first.bytes)) (At p [] first.bytes)
run_first q first mask p is is_line is_mask fits a =
    let n = length first.bytes in
    runs_on q start (line_text first.line) (line_text mask ++ first.bytes) (At (Mask n) [] []) (At p [] first.bytes)
    (length_line q [] first.line (Mask n) is.is_line (is.counted, is.some, fits, refl))
    (runs_on q (At (Mask n) [] []) (line_text mask) first.bytes (At (Data n) [] []) (At p [] first.bytes)
    (mask_line q n [] mask (Data n) is_line (refl, is_mask)) (run_data q n [] [] first.bytes p refl is.some a))

run_blocks : (q : Asked) (text body : List ℕ) (p : Place) → AreBlocks q text body → AfterBlock q body p → Runs q start text (At p [] body)
run_blocks q text body p b a =
    subst (λ (xs : List ℕ). Runs q start xs (At p [] body)) (sym b.text_is)
    (subst (λ (xs : List ℕ). Runs q start (line_text b.first.line ++ (line_text b.mask ++ (b.first.bytes ++ flat_map block_text b.later))) (At p [] xs))
    (sym b.body_is)
    (by b.later b.are_later (subst (λ xs. length xs ≤ q.bytes) b.body_is b.within) (subst (λ xs. AfterBlock q xs p) b.body_is a)))
  where
    by : (later : List Block) → AllByRecursion IsBlock later → length (b.first.bytes ++ all_bytes later) ≤ q.bytes
        → AfterBlock q (b.first.bytes ++ all_bytes later) p
        → Runs q start (line_text b.first.line ++ (line_text b.mask ++ (b.first.bytes ++ flat_map block_text later)))
        (At p [] (b.first.bytes ++ all_bytes later))
    by [] are fits c = search (rules, run_first)
    by (d ∷ ds) are fits c =
        let rest = all_bytes (d ∷ ds) in
        let more : 1 ≤ length rest = omega (arith, are.0.some, length-append d.bytes (all_bytes ds)) in
        let less : length b.first.bytes < q.bytes = omega (arith, fits, more, length-append b.first.bytes rest) in
        let text = flat_map block_text (d ∷ ds) in
        let spelled : (line_text b.first.line ++ (line_text b.mask ++ b.first.bytes)) ++ text ≡ line_text b.first.line
        ++ (line_text b.mask ++ (b.first.bytes ++ text)) = grind (arith, common_steps) in
        subst (λ (xs : List ℕ). Runs q start xs (At p [] (b.first.bytes ++ rest))) spelled
        (runs_on q start (line_text b.first.line ++ (line_text b.mask ++ b.first.bytes)) text (At Length [] b.first.bytes) (At p [] (b.first.bytes ++ rest))
        (run_first q b.first b.mask Length b.is_first b.is_mask_line b.is_mask (omega (arith, less)) less)
        (run_later q (d ∷ ds) b.first.bytes p are less b.is_first.some fits c))

run_begins : (q : Asked) (text body : List ℕ) → Begins q text body → length body < q.bytes → Runs q start text (At Length [] body)
run_begins q text body h1 short = search (rules, run_blocks)

-- ---- whole texts

less_of : (m n : ℕ) → m ≤ n → (m ≡ n → ⊥) → m < n
less_of m n few other = elim (cases_lt m n) [ inl less ↦ less | inr full ↦ let e : m ≡ n = omega (arith, few, full) in absurd (other e) ]

run_answer : (q : Asked) (text body : List ℕ) → IsAnswer q text body → Runs q start text (At Done [] body)
run_answer q text body a = subst (λ (xs : List ℕ). Runs q start xs (At Done [] body)) (sym a.text_is)
    (elim (cases_Bool (length body == q.bytes)) [
      | inl full ↦
          rw (full, append-nil a.blocks) (run_blocks q a.blocks body Done a.are_blocks (eqb-true (length body) q.bytes full, a.scans))
      | inr fewer ↦
          let short : length body < q.bytes = less_of (length body) q.bytes a.are_blocks.within (eqb-false (length body) q.bytes fewer) in
          rw fewer (runs_on q start a.blocks (line_text zero_line) (At Length [] body) (At Done [] body) (run_blocks q a.blocks body Length a.are_blocks short)
          (length_line q body zero_line Done zero_begun (refl, blocks_some q a.blocks body a.are_blocks, a.scans)))
    ])
  where
    zero_begun : IsBegunLine zero_line
    zero_begun = record { few = omega arith; no_lf = ((λ (e : 48 ≡ 10). omega (arith, e)), tt) }

run_refusal : (q : Asked) (n : ℕ) (text : List ℕ) → IsRefusal q n text → (body : List ℕ) × Runs q start text (At (Refused n) [] body)
run_refusal q n text r = (
  r.body,
  subst (λ (xs : List ℕ). Runs q start xs (At (Refused n) [] r.body)) (sym r.text_is)
      (runs_on q start r.blocks (line_text r.line) (At Length [] r.body) (At (Refused n) [] r.body) (run_begins q r.blocks r.body r.begins r.short)
      (length_line q r.body r.line (Refused n) r.is_line (r.number, r.scans))),
)

-- the last of some bytes
last_of : (k : ℕ) (line : List ℕ) → length line ≡ suc k → HasNoLf line → (xs : List ℕ) × (b : ℕ) × (line ≡ xs ++ b ∷ []) × (length xs ≡ k) × HasNoLf xs
    × (b ≢ 10)
last_of k [] e lf = absurd (omega (arith, e))
last_of k (b ∷ []) e lf = ([], b, refl, omega (arith, e), tt, lf.0)
last_of zero (b ∷ c ∷ cs) e lf = absurd (omega (arith, e))
last_of (suc k) (b ∷ c ∷ cs) e lf =
    let (xs, d, f, g, h, j) = last_of k (c ∷ cs) (omega (arith, e)) lf.1 in
    (b ∷ xs, d, ap (λ ys. b ∷ ys) f, omega (arith, g), (lf.0, h), j)

run_long : (q : Asked) (at : Place) (body line : List ℕ) → ((l : List ℕ) (b : ℕ) → b ≢ 10 → length l < 32 → StepAt q at l body b (At at (l ++ b ∷ []) body))
    → ((l : List ℕ) (b : ℕ) → b ≢ 10 → 32 ≤ length l → StepAt q at l body b (At Malformed [] body)) → length line ≡ 33 → HasNoLf line
    → Runs q (At at [] body) line (At Malformed [] body)
run_long q at body line go stop long lf =
    let (xs, b, e, f, g, h) = last_of 32 line long lf in
    subst (λ (ys : List ℕ). Runs q (At at [] body) ys (At Malformed [] body)) (sym e)
    (runs_on q (At at [] body) xs (b ∷ []) (At at xs body) (At Malformed [] body) (run_line q (λ p. ⊥) at [] body xs go g (omega (arith, f)))
    (At Malformed [] body, stop xs b h (omega (arith, f)), refl))

run_malformed : (q : Asked) (text : List ℕ) → IsMalformed q text → (body : List ℕ) × Runs q start text (At Malformed [] body)
run_malformed q text (inl w) = (
  w.body,
  subst (λ (xs : List ℕ). Runs q start xs (At Malformed [] w.body)) (sym w.text_is)
      (runs_on q start w.blocks (line_text w.line) (At Length [] w.body) (At Malformed [] w.body) (run_begins q w.blocks w.body w.begins w.short)
      (length_line q w.body w.line Malformed w.is_line w.wrong)),
)
run_malformed q text (inr (inl w)) = (
  [],
  subst (λ (xs : List ℕ). Runs q start xs (At Malformed [] [])) (sym w.text_is)
      (runs_on q start (line_text w.first) (line_text w.line) (At (Mask w.n) [] []) (At Malformed [] [])
      (length_line q [] w.first (Mask w.n) w.is_first.is_line (w.is_first.counted, w.is_first.some, w.is_first.within, refl))
      (mask_line q w.n [] w.line Malformed w.is_line w.wrong)),
)
run_malformed q text (inr (inr (inl w))) = by w.before
  where
    by : IsBeforeLine q w.front → (body : List ℕ) × Runs q start text (At Malformed [] body)
    by (inl (body, begins, short)) = (
      body,
      subst (λ (xs : List ℕ). Runs q start xs (At Malformed [] body)) (sym w.text_is)
          (runs_on q start w.front w.line (At Length [] body) (At Malformed [] body) (run_begins q w.front body begins short)
          (run_long q Length body w.line (length_go q body) (λ l b other full. inr (inr (other, full, refl))) w.long.one_more w.long.no_lf)),
    )
    by (inr (n, first, is, e)) = (
      [],
      subst (λ (xs : List ℕ). Runs q start xs (At Malformed [] [])) (sym (w.text_is ∙ ap (λ xs. xs ++ w.line) e))
          (runs_on q start (line_text first) w.line (At (Mask n) [] []) (At Malformed [] [])
          (length_line q [] first (Mask n) is.is_line (is.counted, is.some, is.within, refl))
          (run_long q (Mask n) [] w.line (mask_go q n []) (λ l b other full. inr (inr (other, full, refl))) w.long.one_more w.long.no_lf)),
    )
run_malformed q text (inr (inr (inr w))) = (w.body, run_blocks q text w.body Malformed w.are_blocks (w.full, w.uneven))

-- ---- what the machine's places say

abbrev says : M → Option (State × List ℕ)
says (At Length line body) = Some (state.More, [])
says (At (Mask n) line body) = Some (state.More, [])
says (At (Data n) line body) = Some (state.More, [])
says (At Done line body) = Some (state.Done, body)
says (At (Refused n) line body) = Some (state.Refused n, [])
says (At Malformed line body) = Some (state.Malformed, [])
says Beyond = None

abbrev told : State → List ℕ → Option (State × List ℕ)
told s k = Some (s, k)

-- nothing comes after an end
end_step : (q : Asked) (x u : M) (b : ℕ) (s : State) (k : List ℕ) → says x ≡ told s k → IsEnd s → Step q x b u → u ≡ Beyond
end_step q x u b s k e is step = search rules

block_some : (q : Asked) (body : List ℕ) → length body ≤ q.bytes → (p : Place) × AfterBlock q body p
block_some q body fits =
    elim (cases_lt (length body) q.bytes) [
      | inl less ↦ (Length, less)
      | inr full ↦
          let all : length body ≡ q.bytes = omega (arith, fits, full) in
          elim (cases_Bool (length body % q.size == 0)) [
            | inl even ↦ (Done, (all, eqb-true (length body % q.size) 0 even))
            | inr odd ↦ (Malformed, (all, eqb-false (length body % q.size) 0 odd))
          ]
    ]

-- if one more byte leads somewhere, the answer hasn't ended
alive : (q : Asked) (x : M) (b : ℕ) (bs : List ℕ) (p : Place) (body : List ℕ) → Runs q x (b ∷ bs) (At p [] body) → says x ≡ told state.More []
alive q x b bs p body r = search (rules, runs_beyond)

some_zeros : (n : ℕ) → (zs : List ℕ) × (length zs ≡ n)
some_zeros zero = ([], refl)
some_zeros (suc n) = let (zs, e) = some_zeros n in (0 ∷ zs, omega (arith, e))

run_partial : (q : Asked) (text body : List ℕ) → IsPartial q text body → (x : M) × Runs q start text x × (says x ≡ told state.More [])
run_partial q text body (inl (line, s)) = (
  At Length line body,
  subst (λ (xs : List ℕ). Runs q start xs (At Length line body)) (sym s.text_is)
      (runs_on q start s.blocks line (At Length [] body) (At Length line body) (run_begins q s.blocks body s.begins s.short) (run_length q body line s.begun)),
  refl,
)
run_partial q text body (inr (inl (n, line, s))) = (
  At (Mask n) line [],
  subst (λ (xs : List ℕ). Runs q start xs (At (Mask n) line [])) (sym s.text_is)
      (runs_on q start (line_text s.first) line (At (Mask n) [] []) (At (Mask n) line [])
      (length_line q [] s.first (Mask n) s.is_first.is_line (s.is_first.counted, s.is_first.some, s.is_first.within, refl)) (run_mask q n [] line s.begun)),
  refl,
)
run_partial q text body (inr (inr (missing, s))) =
    let (zs, e) = some_zeros missing in
    let b = s.whole zs e in
    let (p, a) = block_some q (body ++ zs) b.within in
    let (x, r, k) = runs_cut q start text zs (At p [] (body ++ zs)) (run_blocks q (text ++ zs) (body ++ zs) p b a) in
    (x, r, more x zs p (omega (arith, e, s.some)) k)
  where
    more : (x : M) (zs : List ℕ) (p : Place) → 1 ≤ length zs → Runs q x zs (At p [] (body ++ zs)) → says x ≡ told state.More []
    more x [] p some k = absurd (omega (arith, some))
    more x (z ∷ zs) p some k = alive q x z zs p (body ++ z ∷ zs) k

run_reads : (q : Asked) (s : State) (text body : List ℕ) → Reads q s text body → (x : M) × Runs q start text x × (says x ≡ reading_of s body)
run_reads q state.More text body r = run_partial q text body r
run_reads q state.Done text body r = (At Done [] body, run_answer q text body r, refl)
run_reads q (state.Refused n) text body r = let (b, k) = run_refusal q n text r in (At (Refused n) [] b, k, refl)
run_reads q state.Malformed text body r = let (b, k) = run_malformed q text r in (At Malformed [] b, k, refl)

behind : (q : Asked) (x y : M) (more : List ℕ) (s t : State) (k j : List ℕ) → says x ≡ told s k → IsEnd s → says y ≡ told t j → Runs q x more y → (more ≡ [])
    × (told t j ≡ told s k)
behind q x y [] s t k j e is f r = (refl, sym f ∙ ap says r ∙ e)
behind q x y (b ∷ bs) s t k j e is f (u, step, r) = search (rules, runs_beyond)

pub one_reading : OneReading
one_reading q s t text more body other is r1 r2 =
    let (x, k, e) = run_reads q s text body r1 in
    let (y, l, f) = run_reads q t (text ++ more) other r2 in
    let (z, m, n) = runs_cut q start text more y l in
    let same = det_runs q start text z x m k in
    behind q x y more s t (told_body s body) (told_body t other) e is f (subst (λ (v : M). Runs q v more y) same n)
