use Rattle.std.proofs.Common.{◌≡◌, ℕ, ◌≤◌, length, drop, slice_index}
use Rattle.iio_demux.specs.Table.{AreInOrder, byte_at}
use Rattle.iio_demux.proofs.CopyLemmas.{so_far}
use Rattle.iio_demux.proofs.table.copy_entries.Given as goal

abbrev pub invariant-loop-entry : goal.invariant-loop-entry
invariant-loop-entry l = record {
  ordered : AreInOrder (length l.scan) (length l.fn.out) l.end (drop l.entry-index l.entries);
  bytes : (j : ℕ) → byte_at l.entries l.scan j ≡ so_far l.out l.end (drop l.entry-index l.entries) l.scan j;
  zero : (j : ℕ) → l.end ≤ j → slice_index l.out j ≡ 0;
}
