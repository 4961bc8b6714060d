-- What a watch is told of a feed in a script.
use Rattle.std.proofs.Common.{◌≡◌, ℕ, false, List, [], ◌∷◌, Option, Some, refl, ap, rules}
use Rattle.iiod_grammar.specs.Scans.{scan_on}
use Rattle.iiod_grammar.specs.Stream.{Item, Scanned, Scanner, items_from, no_item}
use Rattle.iiod_reply.specs.Reply.{Reply}
use Rattle.iiod_session.specs.declared.going.Going.{Going}
use Rattle.iiod_session.specs.declared.going.Going.TheVariants.{On, Waits, Ended}
use Rattle.iiod_commands.specs.declared.manner.Manner.TheVariants.{Script, Server}
use Rattle.iio_core.specs.Front.{Front}
use Rattle.iio_core.specs.Machine.{Machine}
use Rattle.iiod_session.specs.Run.{Feeding, RunBy, feeding}
use Rattle.iiod_commands.specs.Seat.{SeatRecord}
use Rattle.iiod_session.specs.Session.{SessionRecord}
use Rattle.iiod_session.specs.Watch.{Hears, IsHeard, Scene, scene_of, waits_in}
use Rattle.iio_history.specs.Registry.{Setup}
use Rattle.iio_history.specs.Told.{Told}
use Rattle.iio_bench.specs.Connection.{IsHearing, arrival}
use Rattle.iio_bench.specs.Feeding.{FeedState}
use Rattle.iio_bench.specs.Guard.{TellsAll, Watches}

module _ {W : Type 0} (makes : Front → Option Machine → ℕ → Item → W → W → Type 0) (front : Front) where
  tells_run : (a b : Scene W) (items : List Item) (replies : List Reply) → a.told ≡ false → RunBy (IsHeard makes Script front) a items replies b
      → TellsAll makes front items a.watch b.watch
  tells_run a b [] [] first r = ap (λ (x : Scene W). x.watch) r
  tells_run a b (item ∷ items) (reply ∷ replies) first r = search (rules, tells_run r.0 b items replies r.1.next r.2)
  tells_run a b [] (reply ∷ replies) first r = absurd r
  tells_run a b (item ∷ items) [] first r = absurd r

  all_told : (x y : Feeding (Scene W)) (going : Going) → y.stream.items ≡ [] → x.state.told ≡ false
      → (h : Hears makes Script front x y going) → y.state ≡ h.mid → TellsAll makes front x.stream.items x.state.watch y.state.watch
  all_told x y going none first h same = search (rules, tells_run)

  tells_all : (x y : Feeding (Scene W)) (going : Going) → (going ≡ On → y.stream.items ≡ []) → x.state.told ≡ false
      → Hears makes Script front x y going → TellsAll makes front x.stream.items x.state.watch y.state.watch
  tells_all x y On whole first h = all_told x y On (whole refl) first h h.stands.0
  tells_all x y (Waits dev) whole first h = let never : Script ≡ Server = h.stands.server in cc
  tells_all x y Ended whole first h = all_told x y Ended (ap (λ (s : Scanned). s.items) h.stands.1) first h h.stands.0

module _ {S : Type 0} (seen : S → SeatRecord) {W : Type 0} (makes : Front → Option Machine → ℕ → Item → W → W → Type 0) where
  pub watches : (front : Front) (told told' : Option Machine) (x x' : SessionRecord S) (w v : W) (bytes before after : List ℕ) (going : Going)
      → Hears makes x.manner front (feeding (scene_of seen told x.client w (waits_in x.stream.items)) (scan_on x.stream bytes) before)
      (feeding (scene_of seen told' x'.client v (waits_in x'.stream.items)) x'.stream after) going
      → (going ≡ On → x'.stream.items ≡ [])
      → (s : Setup) (m : Told) (name : List ℕ) (begun : Scanner) → IsHearing seen s m front told (arrival name begun bytes) x
      → TellsAll makes front (items_from begun bytes) w v
  watches front told told' x x' w v bytes before after going hears whole s m name begun h =
      let script : Hears makes Script front (feeding (scene_of seen told x.client w false) (scan_on (no_item begun) bytes) before)
      (feeding (scene_of seen told' x'.client v (waits_in x'.stream.items)) x'.stream after) going = search rules in
      tells_all makes front _ _ going whole refl script

  pub watches_as : (x : FeedState S) (bytes : List ℕ) (session : SessionRecord S) (w v : W) → x.connection.session ≡ Some session
      → ((s : Setup) (m : Told) (name : List ℕ) (begun : Scanner) → IsHearing seen s m x.front x.told (arrival name begun bytes) session
      → TellsAll makes x.front (items_from begun bytes) w v)
      → Watches seen makes bytes x w v
  watches_as x bytes session w v is told = search rules
