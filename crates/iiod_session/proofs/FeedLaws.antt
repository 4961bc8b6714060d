-- Items and answers one after another.
use Rattle.std.proofs.Common.{◌≡◌, ◌≢◌, ℕ, List, [], ◌∷◌, ◌++◌, refl, sym, ap, ◌∙◌, append-nil, arith, rules}
use Rattle.std.proofs.lemmas.Grind.{common_steps}
use Rattle.iiod_grammar.specs.Scans.{scan_on}
use Rattle.iiod_grammar.specs.Stream.{Item, Scanned, AtEnd}
use Rattle.iiod_reply.specs.Reply.{Reply, text_of}
use Rattle.iiod_session.specs.declared.going.Going.{Going}
use Rattle.iiod_session.specs.declared.going.Going.TheVariants.{On}
use Rattle.iiod_commands.specs.declared.manner.Manner.{Manner}
use Rattle.iiod_commands.specs.Client.{State}
use Rattle.iio_core.specs.Front.{Front}
use Rattle.iiod_session.specs.Given.{GivenIs}
use Rattle.iiod_session.specs.Run.{Carries, CarriesBy, FedBy, Feeding, Feeds, RunBy, Stands, StandsBy}
use Rattle.iiod_session.proofs.GivenLaws.{AreSeated, gives, run_gives, waiting_gives}
use Rattle.iiod_session.proofs.StreamLaws.{scan_end}

-- a feed to which further bytes come
abbrev pub with_bytes : {S : Type 0} → List ℕ → Feeding S → Feeding S
with_bytes bytes x = record x { stream = scan_on x.stream bytes }

module _ {S : Type 0} (Answered : S → Item → Reply → S → Type 0) where
  run_then : (a b c : S) (items more : List Item) (replies further : List Reply)
      → RunBy Answered a items replies b → RunBy Answered b more further c → RunBy Answered a (items ++ more) (replies ++ further) c
  run_then a b c [] more [] further r s = rw r at s
  run_then a b c (x ∷ xs) more (y ∷ ys) further r s = (r.0, r.1, run_then r.0 b c xs more ys further r.2 s)
  run_then a b c [] more (y ∷ ys) further r s = absurd r
  run_then a b c (x ∷ xs) more [] further r s = absurd r

module _ {S : Type 0} {Answered : S → Item → Reply → S → Type 0} where
  pub fed_none : (x : Feeding S) → FedBy Answered x x
  fed_none x = record { items = []; replies = []; heard = refl; next = refl; text = sym (append-nil x.out); run = refl }

  pub fed_then : (x y z : Feeding S) → FedBy Answered x y → FedBy Answered y z → FedBy Answered x z
  fed_then x y z f g = grind (arith, common_steps, run_then)

  -- ... with further bytes that aren't looked at
  pub fed_more : (x y : Feeding S) (bytes : List ℕ) → FedBy Answered x y → FedBy Answered (with_bytes bytes x) (with_bytes bytes y)
  fed_more x y bytes f = grind (arith, common_steps)

  -- one item
  pub fed_one : (x y : Feeding S) (item : Item) (reply : Reply)
      → x.stream.items ≡ item ∷ y.stream.items → y.stream.next ≡ x.stream.next → y.out ≡ x.out ++ text_of reply → Answered x.state item reply y.state
      → FedBy Answered x y
  fed_one x y item reply heard next text one = record {
    items = item ∷ [];
    replies = reply ∷ [];
    heard = heard;
    next = next;
    text = text ∙ ap (λ (xs : List ℕ). x.out ++ xs) (sym (append-nil (text_of reply)));
    run = (y.state, one, refl);
  }

-- the scans that the seats gave follow from the answers
given_then : (manner : Manner) (front : Front) (items : List Item) (replies : List Reply) (o a b : State) (left : Scanned) (going : Going)
    → Stands manner front a left b going → AreSeated a.client.seats a.traces → GivenIs front items replies o a → GivenIs front items replies o b
given_then manner front items replies o a b left going s seated g = search (rules, waiting_gives)

-- a feed, with what its seats gave
pub feeds_given : (manner : Manner) (front : Front) (x y : Feeding State) (going : Going) → AreSeated x.state.client.seats x.state.traces
    → Carries manner front x y going → Feeds manner front x y going
feeds_given manner front x y going seated c = record {
  carried = c;
  given = search (rules, given_then, run_gives, gives);
}

module _ {S : Type 0} {Answered : S → Item → Reply → S → Type 0} {Unanswered : S → Item → S → Type 0} where
  pub feeds_of : (manner : Manner) (front : Front) (x : Feeding S) (mid : S) (y : Feeding S) (going : Going)
      → FedBy Answered x (record y { state = mid }) → StandsBy Unanswered manner front mid y.stream y.state going
      → CarriesBy Answered Unanswered manner front x y going
  feeds_of manner front x mid y going f s = record { mid = mid; fed = f; stands = s }

  pub feeds_then : (manner : Manner) (front : Front) (x y z : Feeding S) (going : Going)
      → FedBy Answered x y → CarriesBy Answered Unanswered manner front y z going → CarriesBy Answered Unanswered manner front x z going
  feeds_then manner front x y z going f g = feeds_of manner front x g.mid z going (fed_then x y (record z { state = g.mid }) f g.fed) g.stands

  -- if the connection doesn't go on, further bytes are left over
  pub feeds_more : (manner : Manner) (front : Front) (x y : Feeding S) (bytes : List ℕ) (going : Going) → going ≢ On
      → CarriesBy Answered Unanswered manner front x y going
      → CarriesBy Answered Unanswered manner front (with_bytes bytes x) (with_bytes bytes y) going
  feeds_more manner front x y bytes going stops f = grind (arith, common_steps, scan_end)

  -- if it goes on, nothing else happened
  pub feeds_on : (manner : Manner) (front : Front) (x y : Feeding S) → CarriesBy Answered Unanswered manner front x y On → FedBy Answered x y
  feeds_on manner front x y f = rw (sym f.stands.0) at f.fed

  pub goes_on : (manner : Manner) (front : Front) (x y : Feeding S) → y.stream.next ≢ AtEnd → FedBy Answered x y
      → CarriesBy Answered Unanswered manner front x y On
  goes_on manner front x y on f = feeds_of manner front x y.state y On f (refl, on)
