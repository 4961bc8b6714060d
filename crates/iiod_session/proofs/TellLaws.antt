-- In a script, over devices that tell their state, what a feed answers is determined.
use Rattle.std.proofs.Common.{◌≡◌, ℕ, List, [], ◌∷◌, ◌++◌, refl, ap, ◌∙◌, append-nil, Option, Some, None, Result, IfOk, rules}
use Rattle.std.specs.List.{flat_map}
use Rattle.iio_base.specs.declared.Mem.{Mem}
use Rattle.iiod_grammar.specs.Stream.{Item, Scanned}
use Rattle.iiod_reply.specs.Reply.{Reply, text_of}
use Rattle.iiod_session.specs.declared.going.Going.{Going}
use Rattle.iiod_session.specs.declared.going.Going.TheVariants.{On, Waits, Ended}
use Rattle.iiod_commands.specs.declared.manner.Manner.{Manner}
use Rattle.iiod_commands.specs.declared.manner.Manner.TheVariants.{Script, Server}
use Rattle.iiod_commands.specs.Acts.{act}
use Rattle.iio_core.specs.Front.{Front}
use Rattle.iiod_commands.specs.Client.{State}
use Rattle.iio_core.specs.Machine.{Machine}
use Rattle.iiod_session.specs.Run.{Carries, FeedTells, Feeding, IsAnswered, Run, Tells}

-- what one item made
record Acting (front : Front) (a mid : State) (m : Machine) (item : Item) (reply : Reply) : Type 0 where
  machine : mid.told ≡ Some (act front m a.client item).machine
  client : mid.client ≡ (act front m a.client item).client
  answer : reply ≡ (act front m a.client item).reply

step_tells : (front : Front) (a mid : State) (m : Machine) (item : Item) (reply : Reply) → IsAnswered Script front a item reply mid → a.told ≡ Some m
    → Acting front a mid m item reply
step_tells front a mid m item reply one told = search rules

run_tells : (front : Front) (a b : State) (m : Machine) (items : List Item) (replies : List Reply)
    → Run Script front a items replies b → a.told ≡ Some m → Tells front m a.client items (flat_map text_of replies) b
run_tells front a b m [] [] r told = record { said = refl; machine = ap (λ (s : State). s.told) r ∙ told; after = ap (λ (s : State). s.client) r }
run_tells front a b m [] (y ∷ ys) r told = absurd r
run_tells front a b m (x ∷ xs) [] r told = absurd r
run_tells front a b m (x ∷ xs) (y ∷ ys) r told =
    let step = step_tells front a r.0 m x y r.1 told in
    let rest : Tells front (act front m a.client x).machine (act front m a.client x).client xs (flat_map text_of ys) b =
    rw step.client at (run_tells front r.0 b (act front m a.client x).machine xs ys r.2 step.machine) in
    record {
      said = ap (λ (z : Reply). text_of z ++ flat_map text_of ys) step.answer ∙ ap (λ (zs : List ℕ). text_of (act front m a.client x).reply ++ zs) rest.said;
      machine = rest.machine;
      after = rest.after;
    }

-- all items that were whole are answered
all_tell : (front : Front) (x y : Feeding State) (going : Going) (told : Option Machine) → x.state.told ≡ told → y.stream.items ≡ []
    → (f : Carries Script front x y going) → y.state ≡ f.mid → FeedTells Script front x.state x.stream.items x.out y.out y.state
all_tell front x y going None is none f same = rw is tt
all_tell front x y going (Some m) is none f same =
    let items : x.stream.items ≡ f.fed.items = f.fed.heard ∙ ap (λ (xs : List Item). f.fed.items ++ xs) none ∙ append-nil f.fed.items in
    rw (is, items, same) (flat_map text_of f.fed.replies, f.fed.text, run_tells front x.state f.mid m f.fed.items f.fed.replies f.fed.run is)

feeds_tell : (front : Front) (x y : Feeding State) (going : Going) → (going ≡ On → y.stream.items ≡ [])
    → Carries Script front x y going → FeedTells Script front x.state x.stream.items x.out y.out y.state
feeds_tell front x y On none f = all_tell front x y On x.state.told refl (none refl) f f.stands.0
feeds_tell front x y Ended none f = all_tell front x y Ended x.state.told refl (ap (λ (s : Scanned). s.items) f.stands.1) f f.stands.0
feeds_tell front x y (Waits dev) none f = let never : Script ≡ Server = f.stands.server in cc

pub feed_tells : (manner : Manner) (front : Front) (x y : Feeding State) (r : Result Going Mem)
    → IfOk r (λ going. going ≡ On → y.stream.items ≡ []) → IfOk r (Carries manner front x y)
    → IfOk r (λ going. FeedTells manner front x.state x.stream.items x.out y.out y.state)
feed_tells manner front x y r none f = search (rules, feeds_tell)
