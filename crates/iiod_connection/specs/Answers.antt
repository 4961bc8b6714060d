-- All that a connection is answered, however its bytes were cut: each item of its stream once, in order. (This project's own,
-- over what a session answers an item.)
use Rattle.std.specs.Prelude.{◌≡◌, ◌⊎◌, ℕ, zero, suc, ◌++◌, List, []}
use Rattle.std.specs.List.{flat_map}
use Rattle.iio_text.specs.declared.errors.Errno.TheVariants.{EAGAIN}
use Rattle.iiod_grammar.specs.Scans.{scan_on}
use Rattle.iiod_grammar.specs.Stream.{Item}
use Rattle.iiod_reply.specs.Reply.{Reply, Refusal, text_of}
use Rattle.iiod_commands.specs.declared.manner.Manner.TheVariants.{Server}
use Rattle.iio_core.specs.Front.{Front}
use Rattle.iiod_commands.specs.Moves.{Serves}
use Rattle.iiod_commands.specs.Performs.{IsReadOf}
use Rattle.iiod_session.specs.Run.{Run}
use Rattle.iiod_commands.specs.Client.{State}
use Rattle.iiod_connection.specs.Place.{Place}

-- a READBUF that waits was tried, and found nothing
pub record FindsNothing (front : Front) (a b : State) : Type 0 where
  pub dev : ℕ
  pub item : Item
  pub read : IsReadOf front dev item
  pub served : Serves front a item (Refusal EAGAIN) b

-- these items, each with its answer, in n runs; between two of them a READBUF may have been tried
abbrev pub Runs : ℕ → Front → State → List Item → List Reply → State → Type 0
Runs zero front a items replies b = (items ≡ []) × (replies ≡ []) × (b ≡ a)
Runs (suc n) front a items replies b =
    (mid : State) × (i : List Item) × (r : List Reply) × (next : State) × (j : List Item) × (s : List Reply)
    × Runs n front a i r mid × Run Server front mid j s next × ((b ≡ next) ⊎ FindsNothing front next b) × (items ≡ i ++ j) × (replies ≡ r ++ s)

-- of all that was heard: the whole items, except those that are left, were answered, and `said` is the bytes of their answers
pub record Answers (front : Front) (a : Place) (heard said : List ℕ) (b : Place) : Type 0 where
  pub runs : ℕ
  pub items : List Item
  pub replies : List Reply
  pub run : Runs runs front a.state items replies b.state
  pub whole : (scan_on a.stream heard).items ≡ items ++ b.stream.items
  pub next : b.stream.next ≡ (scan_on a.stream heard).next
  pub text : said ≡ flat_map text_of replies
