use Rattle.std.proofs.Common.{◌-◌, arith, sym, ◌∙◌}
use Rattle.iio_demux.proofs.MergeLemmas.{pushed_alone, pushed_apart, pushed_joined}
use Rattle.iio_demux.proofs.table.push_merged.Goals as goal
use Rattle.iio_demux.proofs.table.push_merged.Goals.{else-count-gt0-via-then-count-gt0+else-is_continued_by, else-count-gt0-via-else-count-gt0}

pub returns-then-is_continued_by-clause-items : goal.returns-then-is_continued_by-clause-items
returns-then-is_continued_by-clause-items c = λ before is_merged.
    pushed_joined before c.args.entries.now.items (c.len-count.result - 1) c.index.result.now c.index_mut.result.now c.args.entry is_merged
    (omega arith) c.index.ensures c.index_mut.ensures.value (sym c.is_continued_by.ensures ∙ c.if-is_continued_by.true)

pub returns-clause-items : goal.returns-clause-items
returns-clause-items c = λ before is_merged.
    c.push_reserved.ensures.items
    ∙ elim c.else-count-gt0.branch [
      | else-count-gt0-via-then-count-gt0+else-is_continued_by w ↦
          pushed_apart before c.args.entries.now.items (c.len-count.result - 1) w.index.result.now c.args.entry is_merged (omega arith) w.index.ensures
          (sym w.is_continued_by.ensures ∙ w.if-is_continued_by.false)
      | else-count-gt0-via-else-count-gt0 w ↦ pushed_alone before c.args.entries.now.items c.args.entry is_merged (omega arith)
    ]
