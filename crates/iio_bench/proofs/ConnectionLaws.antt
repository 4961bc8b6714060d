-- What a session heard, as the history says it.
use Rattle.std.proofs.Common.{◌≡◌, ℕ, List, [], ◌++◌, Option, ◌∙◌, rules}
use Rattle.iiod_grammar.specs.Scans.{scan_on}
use Rattle.iiod_grammar.specs.Stream.{Scanner, items_from, no_item}
use Rattle.iiod_session.specs.declared.going.Going.{Going}
use Rattle.iiod_session.specs.declared.going.Going.TheVariants.{On}
use Rattle.iiod_commands.specs.declared.manner.Manner.TheVariants.{Script}
use Rattle.iio_core.specs.Front.{Front}
use Rattle.iio_core.specs.Machine.{Machine}
use Rattle.iiod_commands.specs.Client.{State, state_of}
use Rattle.iiod_session.specs.Run.{FeedTells, Feeding, Feeds, feeding}
use Rattle.iiod_commands.specs.Seat.{SeatRecord}
use Rattle.iiod_session.specs.Session.{SessionRecord}
use Rattle.iio_history.specs.Registry.{Setup}
use Rattle.iio_history.specs.Told.{Told}
use Rattle.iio_history.specs.Played.{texts}
use Rattle.iio_history.specs.Bench.{front_of}
use Rattle.iio_history.specs.BenchLaw.{heard}
use Rattle.iio_history.proofs.BenchFeeds.{script_feeds_tell}
use Rattle.iio_bench.specs.Connection.{HasHeard, IsHearing, arrival}

-- after a feed in a script there is nothing whole left
left_is : (front : Front) (x y : Feeding State) (going : Going) → (going ≡ On → y.stream.items ≡ []) → Feeds Script front x y going
    → y.stream ≡ no_item x.stream.next
left_is front x y going whole f = search rules

module _ {S : Type 0} (seen : S → SeatRecord) where
  pub has_heard : (front : Front) (told told' : Option Machine) (x x' : SessionRecord S) (bytes before after : List ℕ) (going : Going)
      → Feeds x.manner front (feeding (state_of seen told x.client) (scan_on x.stream bytes) before) (feeding (state_of seen told' x'.client) x'.stream after)
      going
      → (going ≡ On → x'.stream.items ≡ []) → x'.manner ≡ x.manner
      → FeedTells x.manner front (state_of seen told x.client) (scan_on x.stream bytes).items before after (state_of seen told' x'.client)
      → (s : Setup) (m : Told) (name : List ℕ) (begun : Scanner) → IsHearing seen s m front told (arrival name begun bytes) x
      → (after ≡ before ++ texts s m (heard name (items_from begun bytes))) × HasHeard seen s m told' (arrival name begun bytes) x'
  has_heard front told told' x x' bytes before after going feeds whole manner tells s m name begun h =
      let f : Feeds Script front (feeding (state_of seen told x.client) (scan_on (no_item begun) bytes) before)
      (feeding (state_of seen told' x'.client) x'.stream after) going = search rules in
      let t : FeedTells Script (front_of s) (state_of seen told x.client) (items_from begun bytes) before after (state_of seen told' x'.client) =
      rw (h.session.manner, h.session.stream, h.front_is) at tells in
      let r =
      script_feeds_tell s m name (items_from begun bytes) (state_of seen told x.client) (state_of seen told' x'.client) before after h.bench h.there
      h.session.client
      h.room h.told_is t in (
        r.0,
        record {
          told_is = r.1;
          bench = r.3;
          session = record {
            manner = manner ∙ h.session.manner;
            stream = left_is front _ _ going whole f;
            client = r.2;
          };
        },
      )
