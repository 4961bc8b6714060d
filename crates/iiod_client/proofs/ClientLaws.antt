-- Talks of a client, each line followed by its answer.
use Rattle.std.proofs.Common.{◌≡◌, ◌⊎◌, inl, inr, ◌≤◌, ◌<◌, ◌+◌, ◌-◌, ◌*◌, ◌/◌, ℕ, List, [], ◌∷◌, ◌++◌, length, Option, Result, Ok, Err, refl, sym, ap, subst, ◌∙◌, arith, append-nil, rules}
use Rattle.std.proofs.lemmas.Grind.{common_steps}
use Rattle.std.specs.Prelude.{⊤, OnOk, OnErr, IfErr, min}
use Rattle.std.proofs.lemmas.Bool.{cases_lt}
use Rattle.iiod_client.specs.declared.client.TheConstants.{MOST_SCANS}
use Rattle.iiod_client.specs.declared.client_end.ClientEnd.{ClientEnd}
use Rattle.iiod_client.specs.declared.client_end.ClientEnd.TheVariants.{Done, Refused, LinkFault, WriteFault, Memory, Malformed, Cut}
use Rattle.iiod_client.specs.Answer.{IsAnswer}
use Rattle.iiod_client.specs.Ask.{Wanted, batch, question, size_for, open_line, readbuf_line, close_line, exit_line}
use Rattle.iiod_client.specs.Awaited.{Plain, Scans}
use Rattle.iiod_client.specs.ClientEnd.{EndsRefused, EndsEarly, Ends}
use Rattle.iiod_client.specs.Exchange.{Fails, Exchanges, Reads, Breaks, BreaksOf, Refuses}
use Rattle.iiod_client.specs.Point.{Point, Goes, Stops, Wrote, WroteFront, point}
use Rattle.iiod_client.specs.Printed.{scan_lines, refused_line}
use Rattle.iiod_client.specs.Talk.{Read, AreReads, Stage, Reading, Closing, Leaving, IsStage, heard_at, said_before, line_at, sent_at, printed_at, awaits, got_by, heard_of, sent_for, printed_for}
use Rattle.iiod_client.proofs.Heard.{heard_none, heard_front, wrote_none, front_on, all_of, goes_more, stops_more, wrote_more, wrote_front}

pub at_err : {A : Type 0} (P : Result A ClientEnd → Type 0) (r : Result A ClientEnd) (y e : ClientEnd) → r ≡ Err y → y ≡ e → P (Err e) → P r
at_err {A} P r y e p q h = subst P (sym (p ∙ ap (λ (x : ClientEnd). Err x) q)) h

-- ---- before anything was done

pub goes_none : (l : Option (List ℕ)) (p : List ℕ) (s o : Option (List ℕ)) → Goes (point l p s o) [] [] [] (point l p s o)
goes_none l p s o = record { hears = heard_none l p s o s o; sends = wrote_none s; prints = wrote_none o }

pub stops_none : (l : Option (List ℕ)) (p : List ℕ) (s o : Option (List ℕ)) (line : List ℕ) → Stops (point l p s o) [] line [] (point l p s o)
stops_none l p s o line = search rules

-- ---- a stage

pub early : (w : Wanted) (stage : Stage) (a b : Point) → IsStage w stage → Goes a (heard_at stage) (said_before w stage) (printed_at w stage) b
    → EndsEarly w a b
early w stage a b is g = search rules

-- the line of a stage was sent, but its answer didn't come
pub stage_fails : (w : Wanted) (stage : Stage) (line : List ℕ) (e : ClientEnd) (a b c : Point) → IsStage w stage
    → Goes a (heard_at stage) (said_before w stage) (printed_at w stage) b → line ≡ line_at w stage
    → Fails (awaits w stage) line e b c → Breaks w e a c
stage_fails w stage line e a b c is g same f = by e (subst (λ xs. Fails (awaits w stage) xs e b c) same f)
  where
    all : List ℕ
    all = line_at w stage

    goes : (text : List ℕ) → Goes b text all [] c → Goes a (heard_at stage ++ text) (sent_at w stage) (printed_at w stage) c
    goes text j = grind (arith, common_steps)

    stops : Stops b [] all [] c → EndsEarly w a c
    stops j = record {
      stage = stage;
      is_stage = is;
      goes = subst (λ xs. Stops a (heard_at stage) (sent_at w stage) xs c) (append-nil (printed_at w stage))
          (subst (λ xs. Stops a xs (sent_at w stage) (printed_at w stage ++ []) c) (append-nil (heard_at stage))
          (stops_more a b c (heard_at stage) [] (said_before w stage) all (printed_at w stage) [] g j));
    }

    by : (e : ClientEnd) → Fails (awaits w stage) all e b c → Breaks w e a c
    by Done f = absurd f
    by (Refused n) f = grind (arith, common_steps)
    by LinkFault f = stops f
    by WriteFault f = absurd f
    by Memory f = stops f
    by Malformed f = record { stage = stage; is_stage = is; text = f.0; wrong = f.1; goes = goes f.0 f.2 }
    by Cut f = record { stage = stage; is_stage = is; text = f.0; unfinished = f.1; goes = goes f.0 f.2; at_end = f.3 }

-- ---- the end

pub opened : (w : Wanted) (line : List ℕ) (a b : Point) → line ≡ open_line w → Exchanges {A = ⊤} Plain line [] (Ok tt) a b
    → Goes a (heard_of []) (open_line w) [] b
opened w line a b e x = search rules

pub closed : (w : Wanted) (reads : List Read) (line : List ℕ) (a b c : Point) → line ≡ close_line w
    → Goes a (heard_at (Closing reads)) (said_before w (Closing reads)) (printed_at w (Closing reads)) b
    → Exchanges {A = ⊤} Plain line [] (Ok tt) b c → Goes a (heard_at (Leaving reads)) (said_before w (Leaving reads)) (printed_at w (Leaving reads)) c
closed w reads line a b c e g x = grind (arith, common_steps)

pub left_all : (w : Wanted) (reads : List Read) (line : List ℕ) (r : Result ⊤ ClientEnd) (a : Point) (l m : Option (List ℕ)) (p : List ℕ)
    (s t o : Option (List ℕ)) → line ≡ exit_line → IsStage w (Leaving reads)
    → Goes a (heard_at (Leaving reads)) (said_before w (Leaving reads)) (printed_at w (Leaving reads)) (point l p s o)
    → m ≡ l → OnOk r (Wrote s line t) → OnErr r (WroteFront s line t) → IfErr r (λ e. e ≡ LinkFault) → BreaksOf w r a (point m p t o)
left_all w reads line (Ok x) a l m p s t o e is g same sent part fails = grind (arith, common_steps)
left_all w reads line (Err y) a l m p s t o e is g same sent part fails =
    let b = point l p s o in
    let c = point m p t o in
    let stop : Stops b [] exit_line [] c = search rules in
    subst (λ (x : ClientEnd). Breaks w x a c) (sym fails)
    (stage_fails w (Leaving reads) exit_line LinkFault a b c is g refl stop)

-- ---- reading

pub fails_reads : (w : Wanted) (got : ℕ) (line : List ℕ) (e : ClientEnd) (a b : Point) → line ≡ readbuf_line w (batch w got)
    → Fails (Scans (question w got)) line e a b → Reads w got (Err e) a b
fails_reads w got line e a b same f = search rules

-- the printing stopped
pub print_fails : (w : Wanted) (got : ℕ) (line body : List ℕ) (e : ClientEnd) (a : Point) (l : Option (List ℕ)) (p : List ℕ) (s o t : Option (List ℕ))
    → line ≡ readbuf_line w (batch w got)
    → Exchanges {A = ⊤} (Scans (question w got)) line body (Ok tt) a (point l p s o) → WroteFront o (scan_lines w.shape w.mask body) t → (e ≡ WriteFault)
    ⊎ (e ≡ Memory) → Reads w got (Err e) a (point l p s t)
print_fails w got line body e a l p s o t same x part which = grind (arith, common_steps, heard_front, all_of)

pub print_ends : (w : Wanted) (got more : ℕ) (line body : List ℕ) (a : Point) (l : Option (List ℕ)) (p : List ℕ) (s o t : Option (List ℕ))
    → line ≡ readbuf_line w (batch w got)
    → Exchanges {A = ⊤} (Scans (question w got)) line body (Ok tt) a (point l p s o) → Wrote o (scan_lines w.shape w.mask body) t
    → more ≡ length body / size_for w → Reads w got (Ok more) a (point l p s t)
print_ends w got more line body a l p s o t same x shown count = grind (arith, common_steps)

-- the stage after these answers
pub after_reads : (w : Wanted) (reads : List Read) (a b : Point) → AreReads w reads → got_by w reads ≤ w.scans
    → Stops a (heard_of reads) (sent_for w reads) (printed_for w reads) b → EndsEarly w a b
after_reads w reads a b are few g =
    elim (cases_lt (got_by w reads) w.scans) [
      | inl less ↦ record {
        stage = Reading reads;
        is_stage = (are, less);
        goes = record { hears = g.hears; sends = front_on a.sent b.sent (sent_for w reads) (line_at w (Reading reads)) g.sends; prints = g.prints };
      }
      | inr all ↦
          let same : got_by w reads ≡ w.scans = omega (arith, few, all) in
          record {
            stage = Closing reads;
            is_stage = (are, same);
            goes = record { hears = g.hears; sends = front_on a.sent b.sent (sent_for w reads) (line_at w (Closing reads)) g.sends; prints = g.prints };
          }
    ]

-- one more batch
reads_more : (w : Wanted) (reads : List Read) (text body : List ℕ) (got : ℕ) → AreReads w reads → got_by w reads ≡ got → got < w.scans
    → IsAnswer (question w got) text body → AreReads w (record { text = text; body = body } ∷ reads)
reads_more w reads text body got are e less ans = (are, omega (arith, e, less), subst (λ n. IsAnswer (question w n) text body) (sym e) ans)

asked_same : (w : Wanted) (reads : List Read) (got : ℕ) → got_by w reads ≡ got → readbuf_line w (batch w got) ≡ readbuf_line w (batch w (got_by w reads))
asked_same w reads got e = ap (λ n. readbuf_line w (batch w n)) (sym e)

pub batch_more : (w : Wanted) (reads : List Read) (got more : ℕ) (a b c : Point) → AreReads w reads → got_by w reads ≡ got → got < w.scans
    → Goes a (heard_of reads) (sent_for w reads) (printed_for w reads) b
    → Reads w got (Ok more) b c
    → (next : List Read) × AreReads w next × (got_by w next ≡ got + more) × Goes a (heard_of next) (sent_for w next) (printed_for w next) c
batch_more w reads got more a b c are e less g (text, body, ans, count, j) = (
  record { text = text; body = body } ∷ reads,
  reads_more w reads text body got are e less ans,
  omega (arith, e, count),
  goes_more a b c (heard_of reads) text (sent_for w reads) (readbuf_line w (batch w (got_by w reads))) (printed_for w reads) (scan_lines w.shape w.mask body) g
      (subst (λ xs. Goes b text xs (scan_lines w.shape w.mask body) c) (asked_same w reads got e) j),
)

div_few : (s m n : ℕ) → 1 ≤ n → n ≤ s * m → n / s ≤ m
div_few s m n some f = search rules

-- an answer has no more scans than were asked for, and at least one
pub answer_few : (w : Wanted) (got : ℕ) (text body : List ℕ) → IsAnswer (question w got) text body → length body / size_for w ≤ min MOST_SCANS (w.scans - got)
answer_few w got text body ans = search (rules, div_few)

pub answer_some : (w : Wanted) (got : ℕ) (text body : List ℕ) → 1 ≤ size_for w → IsAnswer (question w got) text body → 1 ≤ length body / size_for w
answer_some w got text body size ans = grind (arith, common_steps)

pub batch_fails : (w : Wanted) (reads : List Read) (got : ℕ) (e : ClientEnd) (a b c : Point) → AreReads w reads → got_by w reads ≡ got → got < w.scans
    → Goes a (heard_of reads) (sent_for w reads) (printed_for w reads) b → Reads w got (Err e) b c → Breaks w e a c
batch_fails w reads got e a b c are same less g r = by e r
  where
    line : List ℕ
    line = readbuf_line w (batch w got)

    is : IsStage w (Reading reads)
    is = (are, omega (arith, same, less))

    plain : (e : ClientEnd) → Fails (Scans (question w got)) line e b c → Breaks w e a c
    plain e f =
        stage_fails w (Reading reads) line e a b c is g (asked_same w reads got same) (subst (λ n. Fails (Scans (question w n)) line e b c) (sym same) f)

    printing : (text body : List ℕ) → IsAnswer (question w got) text body → Stops b text line (scan_lines w.shape w.mask body) c → EndsEarly w a c
    printing text body ans j =
        let next : List Read = record { text = text; body = body } ∷ reads in
        let few : got_by w next ≤ w.scans = omega (arith, same, less, answer_few w got text body ans) in
        after_reads w next a c (reads_more w reads text body got are same less ans) few
        (stops_more a b c (heard_of reads) text (sent_for w reads) (readbuf_line w (batch w (got_by w reads))) (printed_for w reads)
        (scan_lines w.shape w.mask body) g
        (subst (λ xs. Stops b text xs (scan_lines w.shape w.mask body) c) (asked_same w reads got same) j))

    by : (e : ClientEnd) → Reads w got (Err e) b c → Breaks w e a c
    by Done f = absurd f
    by (Refused n) f = plain (Refused n) f
    by LinkFault f = plain LinkFault f
    by WriteFault (text, body, ans, j) = printing text body ans j
    by Memory (inl f) = plain Memory f
    by Memory (inr (text, body, ans, j)) = printing text body ans j
    by Malformed f = plain Malformed f
    by Cut f = plain Cut f

-- ---- the printing of a refusal

pub refusal_ends : (w : Wanted) (n : ℕ) (end : ClientEnd) (a : Point) (l : Option (List ℕ)) (p : List ℕ) (s o t : Option (List ℕ))
    → EndsRefused w n [] a (point l p s o) → Refuses end n
    → (end ≡ Refused n → Wrote o (refused_line n) t) → WroteFront o (refused_line n) t → Ends w end a (point l p s t)
refusal_ends w n end a l p s o t r is whole part = search (rules, all_of, wrote_front, wrote_more)
