use Rattle.std.proofs.Common.{arith}
use Rattle.iio_trigger.specs.Trigger.{place_dev}
use Rattle.iio_trigger.proofs.Ranks.{stands, would_stand}
use Rattle.iio_trigger.proofs.places.find_place.Goals as goal
use Rattle.iio_trigger.proofs.places.find_place.Goals.{else-at-places-via-then-at-places+else-places-at, else-at-places-via-else-at-places}

pub returns-then-places-at : goal.returns-then-places-at
returns-then-places-at c = stands place_dev _ _ _ _ c.place_index-at.ensures c.if-at-places.true c.if-places-at.true

pub returns-else-at-places : goal.returns-else-at-places
returns-else-at-places c =
    elim c.else-at-places.branch [
      | else-at-places-via-then-at-places+else-places-at w ↦ would_stand place_dev _ _ _ _ 0 c.requires c.place_index-at.ensures (λ _. w.if-places-at.false)
      | else-at-places-via-else-at-places w ↦
          would_stand place_dev _ _ _ (record { dev = 0; attachment = 0 }) 0 c.requires c.place_index-at.ensures
          (λ within. absurd (omega (arith, within, w.if-at-places.false)))
    ]
