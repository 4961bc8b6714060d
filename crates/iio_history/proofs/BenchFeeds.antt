-- Items of a connection one after another, in both views.
use Rattle.std.proofs.Common.{◌≡◌, ℕ, true, false, List, [], ◌∷◌, ◌++◌, length, Option, Some, IfSome, refl, sym, ap, ◌∙◌, subst}
use Rattle.std.specs.Str.{bytes_eq}
use Rattle.iiod_grammar.specs.Stream.{Item}
use Rattle.iiod_reply.specs.Reply.{Reply, text_of}
use Rattle.iiod_commands.specs.declared.manner.Manner.TheVariants.{Script}
use Rattle.iiod_commands.specs.Acts.{act}
use Rattle.iiod_commands.specs.Client.{ClientRecord, State}
use Rattle.iio_core.specs.Machine.{Machine}
use Rattle.iiod_session.specs.Run.{FeedTells, Tells, client_after, machine_after, texts_of}
use Rattle.iio_history.specs.Event.{Heard}
use Rattle.iio_history.specs.Registry.{Setup}
use Rattle.iio_history.specs.Told.{Told}
use Rattle.iio_history.specs.Machine.{step}
use Rattle.iio_history.specs.Played.{steps, texts}
use Rattle.iio_history.specs.Reply.{reply}
use Rattle.iio_history.specs.Bench.{Every, IsBench, IsClientOf, front_of, is_in, machine_of, names_of}
use Rattle.iio_history.specs.BenchLaw.{CanJoinMore, IsFed, heard}
use Rattle.iio_history.proofs.BenchSteps.{names_kept}
use Rattle.iio_history.proofs.BenchKept.{bench_kept, room_after, room_now}
use Rattle.iio_history.proofs.BenchItems.{items_are_acts}
use Rattle.iio_history.proofs.BenchOthers.{clients_are_kept}

pub feeds_are_acts : (s : Setup) (m : Told) (name : List ℕ) (client : ClientRecord) (items : List Item) → IsBench s m → is_in (names_of m) name ≡ true
    → IsClientOf m name client
    → Every (CanJoinMore (length items)) m.stations → IsFed s m name client items
feeds_are_acts s m name client [] bench there d room = record { printed = refl; state = refl; client_then = d; bench = bench }
feeds_are_acts s m name client (item ∷ items) bench there d room =
    let o = act (front_of s) (machine_of m) client item in
    let one = items_are_acts s m name client item bench there d (room_now (length items) m.stations room) in
    let m' = step s m (Heard name item) in
    let names : names_of m' ≡ names_of m = names_kept s m (Heard name item) refl in
    let rest =
    feeds_are_acts s m' name o.client items (bench_kept s m (Heard name item) there bench) (ap (λ (ns : List (List ℕ)). is_in ns name) names ∙ there) one.client
    (room_after s m (Heard name item) (length items) room) in
    record {
      printed =
          ap (λ (n : Machine). text_of o.reply ++ texts_of (front_of s) n o.client items) one.state
          ∙ ap (λ (r : Reply). text_of r ++ texts_of (front_of s) (machine_of m') o.client items) one.answer
          ∙ ap (λ (t : List ℕ). text_of (reply s m name item) ++ t) rest.printed;
      state = ap (λ (n : Machine). machine_after (front_of s) n o.client items) one.state ∙ rest.state;
      client_then =
          subst (λ (n : Machine). IsClientOf (steps s m' (heard name items)) name (client_after (front_of s) n o.client items)) (sym one.state)
          rest.client_then;
      bench = rest.bench;
    }

pub script_feeds_tell : (s : Setup) (m : Told) (name : List ℕ) (items : List Item) (a b : State) (before after : List ℕ) → IsBench s m
    → is_in (names_of m) name ≡ true → IsClientOf m name a.client
    → Every (CanJoinMore (length items)) m.stations → a.told ≡ Some (machine_of m) → FeedTells Script (front_of s) a items before after b
    → (after ≡ before ++ texts s m (heard name items)) × (b.told ≡ Some (machine_of (steps s m (heard name items))))
    × IsClientOf (steps s m (heard name items)) name b.client × IsBench s (steps s m (heard name items))
script_feeds_tell s m name items a b before after bench there d room told tells =
    let fed = feeds_are_acts s m name a.client items bench there d room in
    let said =
    subst (λ (o : Option Machine). IfSome o (λ n. (text : List ℕ) × (after ≡ before ++ text) × Tells (front_of s) n a.client items text b)) told tells in (
      said.1 ∙ ap (λ (t : List ℕ). before ++ t) (said.2.said ∙ fed.printed),
      said.2.machine ∙ ap (λ (n : Machine). Some n) fed.state,
      subst (λ (k : ClientRecord). IsClientOf (steps s m (heard name items)) name k) (sym said.2.after) fed.client_then,
      fed.bench,
    )

pub feeds_keep_clients : (s : Setup) (m : Told) (name : List ℕ) (items : List Item) (other : List ℕ) (client : ClientRecord) → bytes_eq name other ≡ false
    → is_in (names_of m) other ≡ true → IsClientOf m other client
    → IsClientOf (steps s m (heard name items)) other client
feeds_keep_clients s m name [] other client apart there d = d
feeds_keep_clients s m name (item ∷ items) other client apart there d =
    feeds_keep_clients s (step s m (Heard name item)) name items other client apart
    (ap (λ (ns : List (List ℕ)). is_in ns other) (names_kept s m (Heard name item) refl) ∙ there)
    (clients_are_kept s m (Heard name item) other client apart there d)
