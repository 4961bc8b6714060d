-- The answers to feeds in whatever parts are the answers to the items of the whole.
use Rattle.std.proofs.Common.{◌≡◌, Option, Some, IfSome, ℕ, zero, suc, List, [], ◌++◌, sym, ap, subst, ◌∙◌, arith, rules}
use Rattle.std.proofs.lemmas.Grind.{common_steps}
use Rattle.iiod_grammar.specs.Stream.{Item, ItemsCutAnywhere, ScannerCutAnywhere, items_from, scanner_after}
use Rattle.iiod_session.specs.declared.going.Going.{Going}
use Rattle.iiod_session.specs.declared.going.Going.TheVariants as going
use Rattle.iiod_commands.specs.declared.manner.Manner.TheVariants.{Server}
use Rattle.iio_core.specs.Front.{Front}
use Rattle.iiod_commands.specs.Acts.{left_machine}
use Rattle.iio_core.specs.Machine.{Machine}
use Rattle.iiod_commands.specs.Seat.{SeatRecord}
use Rattle.iiod_session.specs.Session.{IsFresh, SessionRecord}
use Rattle.iiod_connection.specs.Answers.{Answers}
use Rattle.iiod_connection.specs.Place.{Place, first_place, place_of}
use Rattle.iiod_connection.specs.SessionEnd.{Ends, Hears, IsClosed, Sends}
use Rattle.iiod_connection.specs.Talks.{FeedsOnce, IsLast, Talk, Talks}
use Rattle.iiod_connection.specs.declared.session_end.SessionEnd.{SessionEnd}
use Rattle.iiod_connection.specs.declared.session_end.SessionEnd.TheVariants.{Memory}

answered_none : (front : Front) (a : Place) → Answers front a [] [] a
answered_none front a = search rules

answered_more : ItemsCutAnywhere → ScannerCutAnywhere → (front : Front) (a m b : Place) (h x bytes text : List ℕ) (g : Going) → Answers front a h x m
    → FeedsOnce front m bytes text g b → Answers front a (h ++ bytes) (x ++ text) b
answered_more cut cut2 front a m b h x bytes text g s f =
    let fed = f.feeds.carried.fed in
    let more : List Item = items_from m.stream.next bytes in
    record {
      runs = suc s.runs;
      items = s.items ++ fed.items;
      replies = s.replies ++ fed.replies;
      run = search rules;
      whole = grind (arith, common_steps);
      next = fed.next ∙ ap (λ n. scanner_after n bytes) s.next ∙ sym (cut2 a.stream.next h bytes);
      text = grind (arith, common_steps);
    }

answered_by : ItemsCutAnywhere → ScannerCutAnywhere → (front : Front) (n : ℕ) (a b : Place) (h x : List ℕ) → Talk n front a h x b → Answers front a h x b
answered_by cut cut2 front zero a b h x t = search rules
answered_by cut cut2 front (suc n) a b h x (mid, h2, x2, bytes, text, g, t, eh, ex, f) =
    subst (λ (ys : List ℕ). Answers front a ys x b) (sym eh)
    (subst (λ (ys : List ℕ). Answers front a (h2 ++ bytes) ys b) (sym ex)
    (answered_more cut cut2 front a mid b h2 x2 bytes text g (answered_by cut cut2 front n a mid h2 x2 t) f))

pub answered : ItemsCutAnywhere → ScannerCutAnywhere → (front : Front) (a b : Place) (h x : List ℕ) → Talks front a h x b → Answers front a h x b
answered cut cut2 front a b h x t = answered_by cut cut2 front t.feeds a b h x t.talk

whole_ends : ItemsCutAnywhere → ScannerCutAnywhere → (front : Front) (a b : Place) (end : SessionEnd) (left written new new2 : Option (List ℕ))
    → Ends (Talks front a) end left written new new2 b
    → Ends (Answers front a) end left written new new2 b
whole_ends cut cut2 front a b end left written new new2 e = search (rules, answered)

hears_nothing : (left : Option (List ℕ)) → Hears Memory left [] left
hears_nothing left = search rules

sends_nothing : (written : Option (List ℕ)) → Sends Memory written [] written
sends_nothing written = search rules

-- if memory ran out before anything was heard
pub nothing_heard : (front : Front) (a : Place) (left written : Option (List ℕ)) → Ends (Answers front a) Memory left written left written a
nothing_heard front a left written = record {
  heard = [];
  said = [];
  says = answered_none front a;
  hears = hears_nothing left;
  sends = sends_nothing written;
  leaves = tt;
}

pub closed_by : (front : Front) (end : SessionEnd) (c b : Place) (told : Option Machine) → IsLast end c b
    → IfSome b.state.told (λ m. told ≡ Some (left_machine front m b.state.client)) → IsClosed front end c told
closed_by front end c b told last s = search rules

-- a new session stands where nothing has been heard
pub is_first_place : {S : Type 0} (seen : S → SeatRecord) (told : Option Machine) (who : ℕ) (s : SessionRecord S) → IsFresh who Server s
    → place_of seen told s ≡ first_place who told
is_first_place seen told who s f = cc

pub served_all : ItemsCutAnywhere → ScannerCutAnywhere → (front : Front) (a a2 b : Place) (end : SessionEnd) (left written new new2 : Option (List ℕ)) → a2 ≡ a
    → Ends (Talks front a2) end left written new new2 b
    → Ends (Answers front a) end left written new new2 b
served_all cut cut2 front a a2 b end left written new new2 same s = search (rules, whole_ends)
