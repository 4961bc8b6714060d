-- What was heard over a link so far, and at its end.
use Rattle.std.proofs.Common.{◌≡◌, ℕ, List, [], ◌++◌, take, Option, IfSome, Err, Ok, sym, subst, arith, rules}
use Rattle.std.proofs.lemmas.Grind.{common_steps}
use Rattle.std.specs.Prelude.{⊤}
use Rattle.iio_io.specs.Bytes.{Takes}
use Rattle.iio_core.specs.Front.{Front}
use Rattle.iiod_connection.specs.declared.session_end.SessionEnd.{SessionEnd}
use Rattle.iiod_connection.specs.Place.{Place}
use Rattle.iiod_connection.specs.SessionEnd.{Ends}
use Rattle.iiod_connection.specs.Talks.{IsCut, IsLast, SendsAll, SoFar, Talks, Turns}
use Rattle.iiod_connection.proofs.TalkLaws.{append_nil, sends_none, sends_on, turns_cut}

cut_none : (left : Option (List ℕ)) → IsCut left [] left
cut_none left = search rules

pub so_none : (front : Front) (a : Place) (left written : Option (List ℕ)) → SoFar front a left written a left written
so_none front a left written = record { heard = []; sends = sends_none front a written; cut = cut_none left }

-- one more recv
cut_more_of : (left mid right : Option (List ℕ)) (heard piece : List ℕ) (n : ℕ) → IsCut left heard mid → IfSome mid (λ xs. Takes xs piece n right)
    → IsCut left (heard ++ take n piece) right
cut_more_of left mid right heard piece n c t = grind (arith, common_steps)

pub so_more : (front front2 : Front) (a m b : Place) (left written mid mid2 right right2 new new2 : Option (List ℕ)) (piece : List ℕ) (n : ℕ) (once : ⊤)
    → front2 ≡ front
    → SoFar front a left written m mid mid2 → IfSome mid (λ xs. Takes xs piece n right) → right2 ≡ mid2 → Turns front2 m (take n piece) right2 b new2 (Ok once)
    → new ≡ right
    → SoFar front a left written b new new2
so_more front front2 a m b left written mid mid2 right right2 new new2 piece n once same s t e v f =
    let u = subst (λ (r : Front). SendsAll r m (take n piece) right2 b new2) same v.0 in
    let w = subst (λ (o : Option (List ℕ)). SendsAll front m (take n piece) o b new2) e u in
    record {
      heard = s.heard ++ take n piece;
      sends = sends_on front a m b s.heard (take n piece) written mid2 new2 s.sends w;
      cut = subst (λ (o : Option (List ℕ)). IsCut left (s.heard ++ take n piece) o) (sym f) (cut_more_of left mid right s.heard piece n s.cut t);
    }

-- a turn that ended
ends_so : (front : Front) (a b : Place) (bytes : List ℕ) (left written right new new2 : Option (List ℕ)) (end : SessionEnd) → IsCut left bytes right
    → Turns front a bytes written b new2 (Err end)
    → (c : Place) × Ends (Talks front a) end left written new new2 c × IsLast end c b
ends_so front a b bytes left written right new new2 end cut u = grind (arith, common_steps)

pub so_end : (front front2 : Front) (a m b : Place) (left written mid mid2 right right2 new new2 : Option (List ℕ)) (piece : List ℕ) (n : ℕ) (end : SessionEnd)
    → front2 ≡ front
    → SoFar front a left written m mid mid2 → IfSome mid (λ xs. Takes xs piece n right) → right2 ≡ mid2 → Turns front2 m (take n piece) right2 b new2 (Err end)
    → (c : Place) × Ends (Talks front a) end left written new new2 c × IsLast end c b
so_end front front2 a m b left written mid mid2 right right2 new new2 piece n end same s t e v =
    let part = take n piece in
    let u = subst (λ (r : Front). Turns r m part mid2 b new2 (Err end)) same (subst (λ (o : Option (List ℕ)). Turns front2 m part o b new2 (Err end)) e v) in
    ends_so front a b (s.heard ++ part) left written right new new2 end (cut_more_of left mid right s.heard piece n s.cut t)
    (turns_cut front a m b (s.heard ++ part) s.heard part [] written mid2 new2 end (sym (append_nil (s.heard ++ part))) s.sends u)
