-- Feeds one after another.
use Rattle.std.proofs.Common.{◌≡◌, ℕ, zero, suc, ◌<◌, ◌≤◌, ◌-◌, List, [], ◌∷◌, ◌++◌, length, take, drop, Option, Some, None, IfSome, Result, Ok, Err, refl, sym, ap, subst, ◌∙◌, arith, append_assoc, rules}
use Rattle.std.proofs.lemmas.Grind.{common_steps}
use Rattle.std.specs.Prelude.{true, false, ⊤, is_err, OnErr, OnOk}
use Rattle.std.proofs.Math.Seq.{take-add}
use Rattle.iiod_grammar.specs.Scans.{scan_on}
use Rattle.iiod_grammar.specs.Stream.{Item}
use Rattle.iiod_session.specs.declared.going.Going.{Going}
use Rattle.iiod_session.specs.declared.going.Going.TheVariants.{On}
use Rattle.iiod_session.specs.declared.going.Going.TheVariants as going
use Rattle.iiod_commands.specs.declared.manner.Manner.{Manner}
use Rattle.iiod_commands.specs.declared.manner.Manner.TheVariants.{Server}
use Rattle.iiod_commands.specs.Performs.{IsReadOf}
use Rattle.iiod_session.specs.Run.{Feeds, feeding}
use Rattle.iio_core.specs.Front.{Front, find_device}
use Rattle.iio_io.specs.Bytes.{WritesPart}
use Rattle.iiod_connection.specs.declared.session_end.SessionEnd.{SessionEnd}
use Rattle.iiod_connection.specs.declared.session_end.SessionEnd.TheVariants.{Eof, Ended, LinkFault, Memory}
use Rattle.iiod_connection.specs.Place.{Place}
use Rattle.iiod_connection.specs.Talks.{FeedsOnce, SendsAll, SendsOnce, StandsBy, Talk, Talks, Turns, Wrote, WrotePart}

pub append_nil : {A : Type 0} (xs : List A) → xs ++ [] ≡ xs
append_nil [] = refl
append_nil {A} (x ∷ xs) = ap (λ (ys : List A). x ∷ ys) (append_nil xs)

pub talk_none : (front : Front) (a : Place) → Talks front a [] [] a
talk_none front a = record { feeds = 0; talk = (refl, refl, refl) }

pub talk_more : (front : Front) (a b : Place) (h x bytes text : List ℕ) (going : Going) (c : Place) → Talks front a h x b → FeedsOnce front b bytes text going c
    → Talks front a (h ++ bytes) (x ++ text) c
talk_more front a b h x bytes text going c t f = record { feeds = suc t.feeds; talk = (b, h, x, bytes, text, going, t.talk, refl, refl, f) }

-- what was written, followed by more
pub wrote_more : (old mid new : Option (List ℕ)) (x text : List ℕ) → Wrote old x mid → Wrote mid text new → Wrote old (x ++ text) new
wrote_more old mid new x text w v = grind (arith, common_steps)

pub wrote_part : (old mid new : Option (List ℕ)) (x text : List ℕ) → Wrote old x mid → WrotePart mid text new → WrotePart old (x ++ text) new
wrote_part old mid new x text w v = grind (arith, common_steps)

pub wrote_none : (old : Option (List ℕ)) → Wrote old [] old
wrote_none old = search rules

pub take_drop : (n : ℕ) (xs : List ℕ) → xs ≡ take n xs ++ drop n xs
take_drop zero xs = refl
take_drop (suc n) [] = refl
take_drop (suc n) (x ∷ xs) = ap (λ (ys : List ℕ). x ∷ ys) (take_drop n xs)

pub part_of : (old new : Option (List ℕ)) (text : List ℕ) → IfSome old (λ ys. WritesPart ys text new) → WrotePart old text new
part_of None new text w = tt
part_of (Some ys) new text w = record { sent = take w.count text; rest = drop w.count text; whole = take_drop w.count text; appended = w.appended }

-- ---- one feed

pub feeds_once : (front : Front) (m : Manner) (a b : Place) (bytes before after text : List ℕ) (going : Going) → m ≡ Server → before ≡ [] → after ≡ text
    → Feeds m front (feeding a.state (scan_on a.stream bytes) before) (feeding b.state b.stream after) going → FeedsOnce front a bytes text going b
feeds_once front m a b bytes before after text going e d f fed = search rules

read_within : (front : Front) (dev : ℕ) (item : Item) → IsReadOf front dev item → dev < length front.devices
unfolding find_device
read_within front dev item r = search rules

pub stands_by : (front : Front) (a b : Place) (bytes text : List ℕ) (going : Going) → FeedsOnce front a bytes text going b → (going ≡ On → b.stream.items ≡ [])
    → StandsBy front going b
stands_by front a b bytes text going f all = search (rules, read_within)

pub on_err : {A E : Type 0} (r : Result A E) (P : Type 0) → is_err r ≡ true → OnErr r P → P
on_err r P e p = search rules

pub on_ok : {A E : Type 0} (r : Result A E) (P : Type 0) → is_err r ≡ false → OnOk r P → P
on_ok r P e p = search rules

-- ---- talks one after another

talks_by : (front : Front) (n : ℕ) (a b c : Place) (h x h2 x2 : List ℕ) → Talks front a h x b → Talk n front b h2 x2 c → Talks front a (h ++ h2) (x ++ x2) c
talks_by front zero a b c h x h2 x2 t u = search rules
talks_by front (suc n) a b c h x h2 x2 t (mid, h3, x3, bytes, text, going, u, eh, ex, f) =
    let before = talks_by front n a b mid h x h3 x3 t u in
    let whole = talk_more front a mid (h ++ h3) (x ++ x3) bytes text going c before f in
    subst (λ (ys : List ℕ). Talks front a (h ++ h2) ys c) (append_assoc x x3 text ∙ ap (λ ys. x ++ ys) (sym ex))
    (subst (λ (ys : List ℕ). Talks front a ys ((x ++ x3) ++ text) c) (append_assoc h h3 bytes ∙ ap (λ ys. h ++ ys) (sym eh)) whole)

pub talks_on : (front : Front) (a b c : Place) (h x h2 x2 : List ℕ) → Talks front a h x b → Talks front b h2 x2 c → Talks front a (h ++ h2) (x ++ x2) c
talks_on front a b c h x h2 x2 t u = talks_by front u.feeds a b c h x h2 x2 t u.talk

pub talks_one : (front : Front) (a b : Place) (bytes text : List ℕ) (going : Going) → FeedsOnce front a bytes text going b → Talks front a bytes text b
talks_one front a b bytes text going f = talk_more front a a [] [] bytes text going b (talk_none front a) f

-- ---- feeds whose answers were sent

pub sends_none : (front : Front) (a : Place) (old : Option (List ℕ)) → SendsAll front a [] old a old
sends_none front a old = record { said = []; talks = talk_none front a; wrote = wrote_none old }

pub sends_once : (front : Front) (a b : Place) (bytes : List ℕ) (old new : Option (List ℕ)) (g : Going) → SendsOnce front a bytes old b new (Ok g)
    → SendsAll front a bytes old b new
sends_once front a b bytes old new g s = record { said = s.0; talks = talks_one front a b bytes s.0 g s.1; wrote = s.2 }

pub sends_on : (front : Front) (a m b : Place) (h part : List ℕ) (old mid new : Option (List ℕ)) → SendsAll front a h old m mid
    → SendsAll front m part mid b new → SendsAll front a (h ++ part) old b new
sends_on front a m b h part old mid new s t = record {
  said = s.said ++ t.said;
  talks = talks_on front a m b h s.said part t.said s.talks t.talks;
  wrote = wrote_more old mid new s.said t.said s.wrote t.wrote;
}

-- ---- how far bytes were fed

-- one feed that failed
pub once_err : (front : Front) (a b : Place) (bytes : List ℕ) (old new : Option (List ℕ)) (e : SessionEnd) → SendsOnce front a bytes old b new (Err e)
    → Turns front a bytes old b new (Err e)
once_err front a b bytes old new LinkFault s = (bytes, [], s.0, sym (append_nil bytes), talks_one front a b bytes s.0 s.1 s.2, s.3)
once_err front a b bytes old new Memory s =
    ([], bytes, a, refl, record { said = []; talks = talk_none front a; wrote = subst (λ (o : Option (List ℕ)). Wrote old [] o) (sym s) (wrote_none old) })
once_err front a b bytes old new Eof s = absurd s
once_err front a b bytes old new Ended s = absurd s

pub cut_more : (bytes h part more p q : List ℕ) → bytes ≡ (h ++ part) ++ more → part ≡ p ++ q → bytes ≡ (h ++ p) ++ (q ++ more)
cut_more bytes h part more p q e f = grind (arith, common_steps)

-- some bytes were fed, and of the next ones not all
pub turns_cut : (front : Front) (a m b : Place) (bytes h part more : List ℕ) (old mid new : Option (List ℕ)) (e : SessionEnd) → bytes ≡ (h ++ part) ++ more
    → SendsAll front a h old m mid → Turns front m part mid b new (Err e) → Turns front a bytes old b new (Err e)
turns_cut front a m b bytes h part more old mid new Ended e t (p, q, f, u, ended) =
    (h ++ p, q ++ more, cut_more bytes h part more p q e f, sends_on front a m b h p old mid new t u, ended)
turns_cut front a m b bytes h part more old mid new LinkFault e t (p, q, x, f, talks, w) = (
  h ++ p,
  q ++ more,
  t.said
      ++ x,
  cut_more bytes h part more p q e f,
  talks_on front a m b h t.said p x t.talks talks,
  wrote_part old mid new t.said x t.wrote w,
)
turns_cut front a m b bytes h part more old mid new Memory e t (p, q, c, f, u) =
    (h ++ p, q ++ more, c, cut_more bytes h part more p q e f, sends_on front a m c h p old mid new t u)
turns_cut front a m b bytes h part more old mid new Eof e t u = absurd u

-- after some bytes nothing more was fed, but what waited was settled
pub turns_on : (front front2 : Front) (a m b : Place) (bytes : List ℕ) (old mid new : Option (List ℕ)) (r : Result ⊤ SessionEnd) → front2 ≡ front
    → SendsAll front a bytes old m mid → Turns front2 m [] mid b new r → Turns front a bytes old b new r
turns_on front front2 a m b bytes old mid new (Ok done) same t v =
    let u = subst (λ (f : Front). Turns f m [] mid b new (Ok done)) same v in
    (subst (λ (ys : List ℕ). SendsAll front a ys old b new) (append_nil bytes) (sends_on front a m b bytes [] old mid new t u.0), u.1)
turns_on front front2 a m b bytes old mid new (Err e) same t v =
    let u = subst (λ (f : Front). Turns f m [] mid b new (Err e)) same v in
    turns_cut front a m b bytes bytes [] [] old mid new e (sym (append_nil (bytes ++ []) ∙ append_nil bytes)) t u

-- the bytes up to `end` are those up to `done` and those between
up_to : (bytes : List ℕ) (done end : ℕ) → done ≤ end → take end bytes ≡ take done bytes ++ take (end - done) (drop done bytes)
up_to bytes done end few = ap (λ n. take n bytes) (omega arith) ∙ take-add done (end - done) bytes

-- one more part
pub part_more : (front front2 : Front) (a m b : Place) (bytes : List ℕ) (done until : ℕ) (old mid new : Option (List ℕ)) (once : ⊤) → front2 ≡ front
    → done ≤ until
    → SendsAll front a (take done bytes) old m mid → Turns front2 m (take (until - done) (drop done bytes)) mid b new (Ok once)
    → SendsAll front a (take until bytes) old b new
part_more front front2 a m b bytes done until old mid new once same few t v =
    let part = take (until - done) (drop done bytes) in
    let u = subst (λ (f : Front). Turns f m part mid b new (Ok once)) same v in
    subst (λ (ys : List ℕ). SendsAll front a ys old b new) (sym (up_to bytes done until few)) (sends_on front a m b (take done bytes) part old mid new t u.0)

-- a part that wasn't fed whole
pub part_err : (front front2 : Front) (a m b : Place) (bytes : List ℕ) (done until : ℕ) (old mid new : Option (List ℕ)) (e : SessionEnd) → front2 ≡ front
    → done ≤ until
    → SendsAll front a (take done bytes) old m mid → Turns front2 m (take (until - done) (drop done bytes)) mid b new (Err e)
    → Turns front a bytes old b new (Err e)
part_err front front2 a m b bytes done until old mid new e same few t v =
    let part = take (until - done) (drop done bytes) in
    let whole : bytes ≡ (take done bytes ++ part) ++ drop until bytes = search (rules, take_drop, up_to) in
    turns_cut front a m b bytes (take done bytes) part (drop until bytes) old mid new e whole t (subst (λ (f : Front). Turns f m part mid b new (Err e)) same v)
