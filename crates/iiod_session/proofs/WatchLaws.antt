-- What a watch is told, and what is left without the watch.
use Rattle.std.proofs.Common.{ℕ, Bool, List, [], ◌∷◌, ap, Option, rules}
use Rattle.iiod_grammar.specs.Stream.{Item}
use Rattle.iiod_reply.specs.Reply.{Reply}
use Rattle.iiod_session.specs.declared.going.Going.{Going}
use Rattle.iiod_commands.specs.declared.manner.Manner.{Manner}
use Rattle.iio_core.specs.Front.{Front}
use Rattle.iiod_commands.specs.Client.{State}
use Rattle.iio_core.specs.Machine.{Machine}
use Rattle.iiod_session.specs.Run.{Carries, Feeding, Run, RunBy}
use Rattle.iiod_session.specs.Watch.{Hears, IsHeard, Scene}

abbrev pub scene : {W : Type 0} → State → W → Bool → Scene W
scene a w told = record { state = a; watch = w; told = told }

-- a feed with the watch left out
abbrev pub unwatched : {W : Type 0} → Feeding (Scene W) → Feeding State
unwatched x = record { state = x.state.state; stream = x.stream; out = x.out }

module _ {W : Type 0} (makes : Front → Option Machine → ℕ → Item → W → W → Type 0) where
  run_of : (manner : Manner) (front : Front) (a b : Scene W) (items : List Item) (replies : List Reply)
      → RunBy (IsHeard makes manner front) a items replies b → Run manner front a.state items replies b.state
  run_of manner front a b [] [] r = ap (λ (x : Scene W). x.state) r
  run_of manner front a b (item ∷ items) (reply ∷ replies) r = (r.0.state, r.1.answered, run_of manner front r.0 b items replies r.2)
  run_of manner front a b [] (reply ∷ replies) r = r
  run_of manner front a b (item ∷ items) [] r = r

module _ {W : Type 0} {makes : Front → Option Machine → ℕ → Item → W → W → Type 0} where
  pub carries_of : (manner : Manner) (front : Front) (x y : Feeding (Scene W)) (going : Going)
      → Hears makes manner front x y going → Carries manner front (unwatched x) (unwatched y) going
  carries_of manner front x y going c = search (rules, run_of)
