use Rattle.std.proofs.Common.{arith, ◌∙◌}
use Rattle.iio_demux.proofs.EntryLemmas.{table_sound}
use Rattle.iio_demux.proofs.ScanLemmas.{table_scans}
use Rattle.iio_demux.proofs.table.Table.remake.Goals as goal

pub invariant_of-self : goal.invariant_of-self
invariant_of-self c =
    let within = c.within-holds.ensures.places.0 (c.within-holds.ensures.value ∙ c.requires.within) in (
      rw (c.push_entries-self-inside.ensures.items, c.requires.size, c.push_entries-self-inside.ensures.size)
          (table_sound c.args.shape.now c.args.active.bits c.args.buffer.bits within),
      omega (arith, c.self.invariant.1, c.clear.ensures.capacity, c.push_entries-self-inside.ensures.capacity),
    )

pub returns-clause-scans : goal.returns-clause-scans
returns-clause-scans c = λ values t wide.
    let within = c.within-holds.ensures.places.0 (c.within-holds.ensures.value ∙ c.requires.within) in
    rw (c.push_entries-self-inside.ensures.items, c.push_entries-self-inside.ensures.size)
    (table_scans c.args.shape.now c.args.active.bits c.args.buffer.bits values t within wide)
