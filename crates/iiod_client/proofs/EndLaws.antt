-- The end to which the bytes of a link come.
use Rattle.std.proofs.Common.{◌≡◌, ◌⊎◌, inl, inr, ℕ, zero, suc, List, [], ◌∷◌, ◌++◌, Option, Some, None, IfSome, refl, sym, ap, subst, ◌∙◌, arith, append_assoc, append-nil, rules}
use Rattle.std.proofs.lemmas.Grind.{common_steps}
use Rattle.iiod_client.specs.declared.answer.State.{State}
use Rattle.iiod_client.specs.declared.answer.State.TheVariants as state
use Rattle.iiod_client.specs.declared.client_end.ClientEnd.{ClientEnd}
use Rattle.iiod_client.specs.declared.client_end.ClientEnd.TheVariants.{Done, Refused, LinkFault, WriteFault, Memory, Malformed, Cut}
use Rattle.iiod_client.specs.Line.{line_text, zero_line}
use Rattle.iiod_client.specs.Ask.{Wanted}
use Rattle.iiod_client.specs.Awaited.{Awaited, Plain, Scans, Nothing, IsAccepted, IsRefused, IsWrong, IsUnfinished}
use Rattle.iiod_client.specs.ClientEnd.{ComesTo, Ends, EndsAt, EndsBy, IsFailure}
use Rattle.iiod_client.specs.Point.{Point, Heard, point}
use Rattle.iiod_client.specs.Talk.{Read, Stage, Opening, Reading, Closing, Leaving, AreReads, IsStage, IsLeaving, heard_at, heard_of, awaits}
use Rattle.iiod_client.proofs.AwaitedLaws.{Tells, one_front, tells_one}

-- ---- from one stage to the next

-- the stage after these answers: that of a READBUF, or that of CLOSE
abbrev IsAfter : List Read → Stage → Type 0
IsAfter reads t = (t ≡ Reading reads) ⊎ (t ≡ Closing reads)

abbrev Next : Stage → (text body : List ℕ) → Stage → Type 0
Next Opening text body t = IsAfter [] t
Next (Reading reads) text body t = IsAfter (record { text = text; body = body } ∷ reads) t
Next (Closing reads) text body t = t ≡ Leaving reads
Next (Leaving reads) text body t = ⊥

record Steps (w : Wanted) (s : Stage) (text : List ℕ) (t : Stage) : Type 0 where
  body : List ℕ
  accepted : IsAccepted (awaits w s) text body
  next : Next s text body t
  is_stage : IsStage w t

one_next : (w : Wanted) (s : Stage) (text body : List ℕ) (t u : Stage) → Next s text body t → Next s text body u → IsStage w t → IsStage w u → t ≡ u
one_next w s text body t u e f a b = search rules

-- ---- a number of steps over the bytes

abbrev Walks : ℕ → Wanted → Stage → (bytes : List ℕ) → Stage → (rest : List ℕ) → Type 0
Walks zero w s bytes t rest = (t ≡ s) × (rest ≡ bytes)
Walks (suc n) w s bytes t rest = (u : Stage) × (text : List ℕ) × (more : List ℕ) × (bytes ≡ text ++ more) × Steps w s text u × Walks n w u more t rest

walks_on : (n : ℕ) (w : Wanted) (s : Stage) (bytes : List ℕ) (t : Stage) (rest : List ℕ) (text more : List ℕ) (u : Stage) → Walks n w s bytes t rest
    → rest ≡ text ++ more → Steps w t text u → Walks (suc n) w s bytes u more
walks_on zero w s bytes t rest text more u k e step = (u, text, more, sym k.1 ∙ e, subst (λ (x : Stage). Steps w x text u) k.0 step, (refl, refl))
walks_on (suc n) w s bytes t rest text more u (v, begin, other, e, first, k) f step = search (rules, walks_on n w v other t rest text more u k f step)

-- steps from the first stage lead to this stage
reach_reads : (w : Wanted) (reads : List Read) (t : Stage) (bytes rest : List ℕ) → IsAfter reads t → IsStage w t → AreReads w reads
    → bytes ≡ heard_of reads ++ rest → (n : ℕ) × Walks n w Opening bytes t rest
reach_reads w [] t bytes rest after is are e =
    (1, (t, line_text zero_line, rest, e, record { body = []; accepted = (refl, refl); next = after; is_stage = is }, (refl, refl)))
reach_reads w (a ∷ before) t bytes rest after is are e =
    let (n, k) =
    reach_reads w before (Reading before) bytes (a.text ++ rest) (inl refl) (are.0, are.1) are.0 (e ∙ append_assoc (heard_of before) a.text rest) in (
      suc n,
      walks_on n w Opening bytes (Reading before) (a.text ++ rest) a.text rest t k refl
          (record { body = a.body; accepted = are.2; next = after; is_stage = is }),
    )

reach : (w : Wanted) (t : Stage) (bytes rest : List ℕ) → IsStage w t → bytes ≡ heard_at t ++ rest → (n : ℕ) × Walks n w Opening bytes t rest
reach w Opening bytes rest is e = (0, (refl, sym e))
reach w (Reading reads) bytes rest is e = reach_reads w reads (Reading reads) bytes rest (inl refl) is is.0 e
reach w (Closing reads) bytes rest is e = reach_reads w reads (Closing reads) bytes rest (inr refl) is is.0 e
reach w (Leaving reads) bytes rest is e =
    let zero_text = line_text zero_line in
    let (n, k) = reach_reads w reads (Closing reads) bytes (zero_text ++ rest) (inr refl) is is.0 (e ∙ append_assoc (heard_of reads) zero_text rest) in (
      suc n,
      walks_on n w Opening bytes (Closing reads) (zero_text ++ rest) zero_text rest (Leaving reads) k refl
          (record { body = []; accepted = (refl, refl); next = refl; is_stage = is }),
    )

-- the bytes begin with the answer that is awaited at a stage
abbrev Passes : Wanted → Stage → List ℕ → Type 0
Passes w t rest = Tells (awaits w t) rest state.Done

-- if two stages are reached over the same bytes, one comes before the other, or they are the same
meet : (m n : ℕ) (w : Wanted) (s : Stage) (bytes : List ℕ) (t : Stage) (rest : List ℕ) (u : Stage) (other : List ℕ) → Walks m w s bytes t rest
    → Walks n w s bytes u other
    → ((t ≡ u) × (rest ≡ other)) ⊎ (Passes w t rest ⊎ Passes w u other)
meet zero zero w s bytes t rest u other a b = inl (a.0 ∙ sym b.0, a.1 ∙ sym b.1)
meet zero (suc n) w s bytes t rest u other a (v, text, more, e, step, k) = search rules
meet (suc m) zero w s bytes t rest u other (v, text, more, e, step, k) b = search rules
meet (suc m) (suc n) w s bytes t rest u other (v, text, more, e, step, k) (v', text', more', e', step', k') =
    let one = one_front (awaits w s) text text' more more' step.body step'.body step.accepted step'.accepted (sym e ∙ e') in
    let moved : Next s text step.body v' = subst (λ xs. Next s xs step.body v') (sym one.0) (subst (λ xs. Next s text' xs v') (sym one.1) step'.next) in
    let same : v ≡ v' = one_next w s text step.body v v' step.next moved step.is_stage step'.is_stage in
    meet m n w v more t rest u other k (subst (λ (x : Stage). Walks n w x more u other) (sym same) (subst (λ xs. Walks n w v' xs u other) (sym one.2) k'))

-- ---- one end

abbrev end_for : State → ClientEnd
end_for state.More = Cut
end_for state.Done = Done
end_for (state.Refused n) = Refused n
end_for state.Malformed = Malformed

-- what an end says about the bytes
abbrev Shows : Wanted → Stage → List ℕ → ClientEnd → Type 0
Shows w stage rest end = (IsLeaving stage × (end ≡ Done)) ⊎ ((s : State) × Tells (awaits w stage) rest s × (end ≡ end_for s) × (s ≡ state.Done → ⊥))

refused_tells : (w : Awaited) (n : ℕ) (rest text more : List ℕ) → rest ≡ text ++ more → IsRefused w n text → Tells w rest (state.Refused n)
refused_tells w n rest text more e r = search rules

wrong_tells : (w : Awaited) (rest text more : List ℕ) → rest ≡ text ++ more → IsWrong w text → Tells w rest state.Malformed
wrong_tells w rest text more e r = search rules

unfinished_tells : (w : Awaited) (rest : List ℕ) → IsUnfinished w rest → Tells w rest state.More
unfinished_tells Plain rest r = record { text = rest; more = []; body = []; reads = r; ended = inr (refl, refl); bytes_are = sym (append-nil rest) }
unfinished_tells (Scans q) rest r = record { text = rest; more = []; body = r.0; reads = r.1; ended = inr (refl, refl); bytes_are = sym (append-nil rest) }
unfinished_tells Nothing rest r = absurd r

shows : (w : Wanted) (stage : Stage) (rest : List ℕ) (end : ClientEnd) → EndsAt w stage rest end → Shows w stage rest end
shows w stage rest Done x = inl (x, refl)
shows w stage rest (Refused n) (text, more, e, r) = inr (state.Refused n, refused_tells (awaits w stage) n rest text more e r, refl, λ f. absurd cc)
shows w stage rest Malformed (text, more, e, r) = inr (state.Malformed, wrong_tells (awaits w stage) rest text more e r, refl, λ f. absurd cc)
shows w stage rest Cut r = inr (state.More, unfinished_tells (awaits w stage) rest r, refl, λ f. absurd cc)
shows w stage rest LinkFault x = absurd x
shows w stage rest WriteFault x = absurd x
shows w stage rest Memory x = absurd x

-- nothing is awaited after the last line
none_awaited : (w : Wanted) (stage : Stage) (rest : List ℕ) (s : State) → IsLeaving stage → Tells (awaits w stage) rest s → ⊥
none_awaited w stage rest s is x = search rules

no_pass : (w : Wanted) (stage : Stage) (rest : List ℕ) (end : ClientEnd) → Shows w stage rest end → Passes w stage rest → ⊥
no_pass w stage rest end (inl x) p = none_awaited w stage rest state.Done x.0 p
no_pass w stage rest end (inr (s, tells, is, other)) p = other (tells_one (awaits w stage) rest s state.Done tells p)

one_at : (w : Wanted) (stage : Stage) (rest : List ℕ) (d e : ClientEnd) → Shows w stage rest d → Shows w stage rest e → d ≡ e
one_at w stage rest d e (inl x) (inl y) = x.1 ∙ sym y.1
one_at w stage rest d e (inl x) (inr (t, tells, is, other)) = absurd (none_awaited w stage rest t x.0 tells)
one_at w stage rest d e (inr (s, tells, is, other)) (inl y) = absurd (none_awaited w stage rest s y.0 tells)
one_at w stage rest d e (inr (s, tells, is, other)) (inr (t, tells', is', other')) =
    is ∙ ap end_for (tells_one (awaits w stage) rest s t tells tells') ∙ sym is'

-- the bytes come to only one end
one_end : (w : Wanted) (bytes : List ℕ) (d e : ClientEnd) → ComesTo w bytes d → ComesTo w bytes e → d ≡ e
one_end w bytes d e a b =
    let (m, k) = reach w a.stage bytes a.following a.is_stage a.bytes_are in
    let (n, l) = reach w b.stage bytes b.following b.is_stage b.bytes_are in
    by (meet m n w Opening bytes a.stage a.following b.stage b.following k l)
  where
    left : Shows w a.stage a.following d
    left = shows w a.stage a.following d a.ends

    right : Shows w b.stage b.following e
    right = shows w b.stage b.following e b.ends

    by : ((a.stage ≡ b.stage) × (a.following ≡ b.following)) ⊎ (Passes w a.stage a.following ⊎ Passes w b.stage b.following) → d ≡ e
    by (inl same) =
        one_at w b.stage b.following d e (subst (λ xs. Shows w b.stage xs d) same.1 (subst (λ (x : Stage). Shows w x a.following d) same.0 left)) right
    by (inr (inl p)) = absurd (no_pass w a.stage a.following d left p)
    by (inr (inr p)) = absurd (no_pass w b.stage b.following e right p)

-- ---- the end of a reading

heard_rest : (bytes text : List ℕ) (s o : Option (List ℕ)) (b : Point) → Heard (point (Some bytes) [] s o) text b → (ys : List ℕ) × (b.left ≡ Some ys)
    × (bytes ≡ text ++ (b.pending ++ ys))
heard_rest bytes text s o b h = h

came_to : (w : Wanted) (end : ClientEnd) (bytes : List ℕ) (s o : Option (List ℕ)) (b : Point) → Ends w end (point (Some bytes) [] s o) b → ComesTo w bytes end
    ⊎ IsFailure end
came_to w Done bytes s o b r =
    let (ys, e, f) = heard_rest bytes (heard_at (Leaving r.reads)) s o b r.goes.hears in
    inl (record { stage = Leaving r.reads; is_stage = r.is_stage; following = b.pending ++ ys; bytes_are = f; ends = tt })
came_to w (Refused n) bytes s o b r = grind (arith, common_steps)
came_to w Malformed bytes s o b r = grind (arith, common_steps)
came_to w Cut bytes s o b r = search rules
came_to w LinkFault bytes s o b r = inr tt
came_to w WriteFault bytes s o b r = inr tt
came_to w Memory bytes s o b r = inr tt

ends_by : (w : Wanted) (end : ClientEnd) (left s o : Option (List ℕ)) (b : Point) → Ends w end (point left [] s o) b → IfSome left (λ bytes. EndsBy w bytes end)
ends_by w end None s o b r = tt
ends_by w end (Some bytes) s o b r = λ due comes. by due comes (came_to w end bytes s o b r)
  where
    by : (due : ClientEnd) → ComesTo w bytes due → ComesTo w bytes end ⊎ IsFailure end → (end ≡ due) ⊎ IsFailure end
    by due comes (inl came) = inl (one_end w bytes end due came comes)
    by due comes (inr failed) = inr failed

-- if nothing was received before
pub ends_from : (w : Wanted) (end : ClientEnd) (left : Option (List ℕ)) (p : List ℕ) (s o : Option (List ℕ)) (b : Point) → p ≡ []
    → Ends w end (point left p s o) b → IfSome left (λ bytes. EndsBy w bytes end)
ends_from w end left p s o b none ends = ends_by w end left s o b (subst (λ xs. Ends w end (point left xs s o) b) none ends)
