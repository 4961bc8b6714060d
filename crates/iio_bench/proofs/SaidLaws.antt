-- What a guard is told, as the items that it decides on.
use Rattle.std.proofs.Common.{◌≡◌, ℕ, ◌&&◌, Bool, true, List, [], ◌∷◌, Option, Some, None, Ok, sym, ap, ◌∙◌, rules}
use Rattle.std.specs.Str.{bytes_eq}
use Rattle.iiod_grammar.specs.declared.command.Command.{Command as CodeCommand}
use Rattle.iiod_grammar.specs.Stream.{Item, Said, items_from}
use Rattle.iiod_grammar.specs.View.{command_view}
use Rattle.iiod_session.specs.declared.watch.Seen.TheVariants.{Command, Refused, TooLong}
use Rattle.iio_core.specs.Front.{Front}
use Rattle.iio_core.specs.Machine.{Machine}
use Rattle.iiod_session.specs.Session.{SessionRecord}
use Rattle.iiod_session.specs.Watch.{IsSeen}
use Rattle.iio_worlds.specs.Bystanders.{may_say}
use Rattle.iio_worlds.specs.Stance.{Opens, items_meet, may_part, opens_by}
use Rattle.iio_bench.specs.declared.connection.Connection.{Connection}
use Rattle.iio_bench.specs.declared.guard.Guard.{Guard}
use Rattle.iio_kinds.specs.declared.seat.Seat.{Seat}
use Rattle.iio_bench.specs.Guard.{MeetsBeside, TellsAll, Watches, connections_of, client_by, client_named, clients_besides, guards, item_by, opens_at}
use Rattle.iio_bench.specs.Seat.{seen_of}

-- ---- of another connection

pub refused_said : (f : List ℕ → Bool) (x : Item) → IsSeen x Refused → true ≡ may_say f x
refused_said f x told = search rules

pub long_said : (f : List ℕ → Bool) (x : Item) → IsSeen x TooLong → true ≡ may_say f x
long_said f x told = search rules

pub command_said : (f : List ℕ → Bool) (x : Item) (command : CodeCommand) → IsSeen x (Command command)
    → may_say f (Said (Ok (command_view command))) ≡ may_say f x
command_said f x command told = search rules

-- ---- of the watched connection itself

pub refused_parts : (o : Opens) (x : Item) → IsSeen x Refused → true ≡ may_part o x
refused_parts o x told = search rules

pub long_parts : (o : Opens) (x : Item) → IsSeen x TooLong → o.none ≡ may_part o x
long_parts o x told = search rules

pub command_parts : (o : Opens) (x : Item) (command : CodeCommand) → IsSeen x (Command command) → may_part o (item_by (command_view command)) ≡ may_part o x
command_parts o x command told = search rules

-- ---- one item after another

and_true : (b : Bool) → (b && true) ≡ b
and_true b = search rules

and_more : (a b c : Bool) → ((a && b) && c) ≡ (a && (b && c))
and_more a b c = search rules

abbrev meeting : Guard → Bool → Guard
meeting x b = record x { meets = b }

told_all : (front : Front) (items : List Item) (x y : Guard) → TellsAll guards front items x y
    → y ≡ meeting x (x.meets && items_meet (opens_at front x) x.mine items)
told_all front [] x y told = told ∙ ap (λ (b : Bool). meeting x b) (sym (and_true x.meets))
told_all front (item ∷ items) x y told = search (rules, opens_at, and_more, told_all front items told.0 y told.4)

-- a guard that was told of a feed says whether it keeps to the rules
pub beside_meets : (name bytes : List ℕ) (front : Front) (machine : Option Machine) (session : Option (SessionRecord Seat))
    (text watched : List ℕ) (others : List (Connection Seat)) (x y : Guard)
    → x.meets ≡ true → x.mine ≡ bytes_eq name watched → x.watched.now ≡ watched → client_by seen_of x.own ≡ client_named seen_of watched others
    → connections_of x.others ≡ others
    → Watches seen_of guards bytes (record { front = front; told = machine; connection = record { name = name; session = session }; printed = text }) x y
    → MeetsBeside seen_of watched bytes (record { front = front; told = machine; connection = record { name = name; session = session }; printed = text })
    others y.meets
beside_meets name bytes front machine None text watched others x y first mine named own beside told = ap (λ (g : Guard). g.meets) told ∙ first
beside_meets name bytes front machine (Some spoken) text watched others x y first mine named own beside told = λ s n begun hearing.
    let items : List Item = items_from begun bytes in
    ap (λ (g : Guard). g.meets) (told_all front items x y (told s n begun hearing))
    ∙ ap (λ (b : Bool). b && items_meet (opens_at front x) x.mine items) first
    ∙ ap (λ (b : Bool). items_meet (opens_at front x) b items) mine
    ∙ ap (λ client. items_meet (opens_by front client (clients_besides seen_of x.watched.now (connections_of x.others))) (bytes_eq name watched) items) own
    ∙ ap (λ (w : List ℕ). items_meet (opens_by front (client_named seen_of watched others) (clients_besides seen_of w (connections_of x.others)))
    (bytes_eq name watched) items) named
    ∙ ap (λ (cs : List (Connection Seat)). items_meet (opens_by front (client_named seen_of watched others) (clients_besides seen_of watched cs))
    (bytes_eq name watched) items) beside
