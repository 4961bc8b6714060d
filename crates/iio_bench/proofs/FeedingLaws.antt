-- What a session heard, as the lines of a feed.
use Rattle.std.proofs.Common.{◌≡◌, ◌↔◌, ℕ, Bool, cond, List, [], ◌∷◌, ◌++◌, Option, Some, None, sym, ap, ◌∙◌, subst, IsTrue, rules, arith}
use Rattle.std.proofs.lemmas.Grind.{common_steps}
use Rattle.iio_text.specs.Escape.{quoted}
use Rattle.iiod_grammar.specs.Stream.{AtEnd, Scanned, Scanner, items_from, no_item, scanner_after}
use Rattle.iiod_commands.specs.Seat.{SeatRecord}
use Rattle.iiod_session.specs.Session.{SessionRecord}
use Rattle.iio_history.specs.Registry.{Setup}
use Rattle.iio_history.specs.Told.{Told}
use Rattle.iio_history.specs.Played.{texts}
use Rattle.iio_history.specs.Transcript.{closed_line, printed}
use Rattle.iio_history.specs.BenchLaw.{heard}
use Rattle.iio_bench.specs.Connection.{HasHeard, IsHearing, arrival}
use Rattle.iio_bench.specs.Feeding.{FeedState, Feeds, is_at_end}

-- a session says that it has ended exactly if its stream is at its end
ended_is : (e : Bool) (stream : Scanned) (next : Scanner) → (IsTrue e ↔ (stream ≡ no_item AtEnd)) → stream ≡ no_item next → e ≡ is_at_end next
ended_is e stream next iff is = search rules

-- a state of a feed with another session
abbrev pub state_with : {S : Type 0} → FeedState S → Option (SessionRecord S) → FeedState S
state_with x session = record x { connection = record { name = x.connection.name; session = session } }

module _ {S : Type 0} (seen : S → SeatRecord) where
  pub has_fed : (x y : FeedState S) (bytes mid a0 a1 : List ℕ) (session session' : SessionRecord S) (e : Bool) → a0 ≡ []
      → ((s : Setup) (n : Told) (name : List ℕ) (begun : Scanner) → IsHearing seen s n x.front x.told (arrival name begun bytes) session
      → (a1 ≡ a0 ++ texts s n (heard name (items_from begun bytes))) × HasHeard seen s n y.told (arrival name begun bytes) session')
      → (IsTrue e ↔ (session'.stream ≡ no_item AtEnd))
      → mid ≡ x.printed ++ printed (x.connection.name ∷ quoted a1 ∷ []) → y.printed ≡ mid ++ cond e (closed_line x.connection.name) []
      → x.connection.session ≡ Some session → y.connection.session ≡ cond e None (Some session')
      → Feeds seen bytes x y
  has_fed x y bytes mid a0 a1 session session' e cleared said iff line more was left =
      let name : List ℕ = x.connection.name in
      subst (λ (o : Option (SessionRecord S)). Feeds seen bytes (state_with x o) y) (sym was) (λ s n begun h.
      let r = said s n name begun h in
      let text : a1 ≡ texts s n (heard name (items_from begun bytes)) = cc in
      let same : e ≡ is_at_end (scanner_after begun bytes) = ended_is e session'.stream (scanner_after begun bytes) iff r.1.session.stream in
      record {
        spoken = session';
        heard_by = r.1;
        left = left ∙ ap (λ (b : Bool). cond b None (Some session')) same;
        lines = grind (arith, common_steps);
      })
