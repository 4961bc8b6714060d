use Rattle.std.proofs.Common.{pos, false, arith}
use Rattle.iio_trigger.specs.Trigger.{entry_dev}
use Rattle.iio_trigger.proofs.Ranks.{stands, would_stand}
use Rattle.iio_trigger.proofs.places.find_entry.Goals as goal
use Rattle.iio_trigger.proofs.places.find_entry.Goals.{else-at-entries-via-then-at-entries+else-entries-at, else-at-entries-via-else-at-entries}

pub returns-then-entries-at : goal.returns-then-entries-at
returns-then-entries-at c = stands entry_dev _ _ _ _ c.entry_index-at.ensures c.if-at-entries.true c.if-entries-at.true

pub returns-else-at-entries : goal.returns-else-at-entries
returns-else-at-entries c =
    elim c.else-at-entries.branch [
      | else-at-entries-via-then-at-entries+else-entries-at w ↦
          (would_stand entry_dev _ _ _ _ 0 c.requires c.entry_index-at.ensures (λ _. w.if-entries-at.false)).others
      | else-at-entries-via-else-at-entries w ↦
          (would_stand entry_dev _ _ _ (record { dev = 0; attachment = 0; t = pos 0; in_hand = false }) 0 c.requires c.entry_index-at.ensures
          (λ within. absurd (omega (arith, within, w.if-at-entries.false)))).others
    ]
