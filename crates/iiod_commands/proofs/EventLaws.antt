-- EVOPEN, EVREAD and EVCLOSE: by the kind of the device, and by the call of an input device.
use Rattle.std.proofs.Common.{◌≡◌, ℕ, Bool, true, false, Option, Some, None, IfSome, rules}
use Rattle.iio_desc.specs.Kind.{is_input}
use Rattle.iiod_reply.specs.Reply.{Reply}
use Rattle.iiod_commands.specs.Acts.{Acted, altered, ev_close_at, ev_open_at, ev_read_at, event_reply, if_plugged, where_known}
use Rattle.iiod_commands.specs.Client.{ClientRecord, with_holding, without_holding}
use Rattle.iiod_commands.specs.Performs.{Comes}
use Rattle.iio_core.specs.Calls.{ev_close_of, ev_open_of, ev_read_of}
use Rattle.iio_core.specs.Front.{Front, kind_at}
use Rattle.iio_core.specs.Machine.{Machine, is_plugged}
use Rattle.iiod_commands.proofs.ServeLaws.{known, not_known}

-- ---- what the calls make

abbrev pub opened : Machine → ClientRecord → ℕ → Acted
opened m client dev = let o = ev_open_of m dev client.who in altered (with_holding dev) client o.machine o.answer

abbrev pub read : Machine → ClientRecord → ℕ → Acted
read m client dev = let o = ev_read_of m dev client.who in record { reply = event_reply o.answer; machine = o.machine; client = client }

abbrev pub closed : Machine → ClientRecord → ℕ → Acted
closed m client dev = if_plugged m client dev (let o = ev_close_of m dev client.who in altered (without_holding dev) client o.machine o.answer)

pub opened_is : (front : Front) (m : Machine) (client : ClientRecord) (dev : ℕ)
    → ev_open_at front m client dev ≡ where_known (is_input (kind_at front dev)) m client dev (opened m client dev)
unfolding ev_open_of is_plugged
opened_is front m client dev = search rules

pub read_is : (front : Front) (m : Machine) (client : ClientRecord) (dev : ℕ)
    → ev_read_at front m client dev ≡ where_known (is_input (kind_at front dev)) m client dev (read m client dev)
unfolding ev_read_of is_plugged
read_is front m client dev = search rules

pub closed_is : (front : Front) (m : Machine) (client : ClientRecord) (dev : ℕ)
    → ev_close_at front m client dev ≡ where_known (is_input (kind_at front dev)) m client dev (closed m client dev)
unfolding ev_close_of is_plugged
closed_is front m client dev = search rules

-- ---- at an input device, and at another one

module _ (on : Front → Machine → ClientRecord → ℕ → Acted) (called : Machine → ClientRecord → ℕ → Acted)
    (by : (front : Front) (m : Machine) (client : ClientRecord) (dev : ℕ)
    → on front m client dev ≡ where_known (is_input (kind_at front dev)) m client dev (called m client dev))
    (front : Front) (told : Option Machine) (client : ClientRecord) (dev : ℕ) (reply : Reply) where
  pub at_input : (told' : Option Machine) (client' : ClientRecord) → is_input (kind_at front dev) ≡ true
      → IfSome told (λ m. Comes m client (called m client dev) reply told' client')
      → IfSome told (λ m. Comes m client (on front m client dev) reply told' client')
  at_input told' client' e c = search (rules, by, known)

  pub at_other : is_input (kind_at front dev) ≡ false
      → ((d : ClientRecord) (a : Acted) → IfSome told (λ m. Comes m d (where_known false m d dev a) reply told d))
      → IfSome told (λ m. Comes m client (on front m client dev) reply told client)
  at_other e u = of told u
    where
      of : (o : Option Machine) → ((d : ClientRecord) (a : Acted) → IfSome o (λ m. Comes m d (where_known false m d dev a) reply o d))
          → IfSome o (λ m. Comes m client (on front m client dev) reply o client)
      of None u = tt
      of (Some m) u = rw (by front m client dev, e) (u client (called m client dev))
