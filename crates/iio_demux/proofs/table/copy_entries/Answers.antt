use Rattle.std.proofs.Common.{◌+◌, length, drop, slice_index_or, sym, ap, ◌∙◌, arith}
use Rattle.std.proofs.lemmas.List.{drop_all, drop_more}
use Rattle.std.proofs.lemmas.List.FromFn.{fill_by_all}
use Rattle.iio_demux.specs.declared.table.Entry.{Entry}
use Rattle.iio_demux.specs.Table.{byte_at}
use Rattle.iio_demux.proofs.CopyLemmas.{copied_all, copied_more, order_within, so_far}
use Rattle.iio_demux.proofs.table.copy_entries.Goals as goal

-- there is no entry after the last one
abbrev no_entry : Entry
no_entry = record { from = 0; to = 0; length = 0 }

pub copy-end-requires-clause-to : goal.copy-end-requires-clause-to
copy-end-requires-clause-to c =
    let more = drop_more c.args.entries.now c.loop-entry.entry-index no_entry c.loop-entry-test.true in
    let order = rw more at c.loop-entry.invariant.ordered in
    omega (arith, order_within (length c.args.scan.now) (length c.args.out.now) _ (drop (c.loop-entry.entry-index + 1) c.args.entries.now) order.2)

pub loop-entry-preserved : goal.loop-entry-preserved
loop-entry-preserved c =
    let entries = c.args.entries.now in
    let at = c.loop-entry.entry-index in
    let entry = slice_index_or entries at no_entry in
    let later = drop (at + 1) entries in
    let more = drop_more entries at no_entry c.loop-entry-test.true in
    let order = rw more at c.loop-entry.invariant.ordered in
    record {
      ordered = rw c.copy-end.ensures.end order.2;
      bytes = λ j.
          c.loop-entry.invariant.bytes j ∙ ap (λ es. so_far c.loop-entry.out c.loop-entry.end es c.args.scan.now j) more
          ∙ copied_more (length c.args.scan.now) (length c.args.out.now) c.loop-entry.end c.copy-end.result entry later c.args.scan.now c.loop-entry.out
          c.copy-end.new.out j order c.copy-end.ensures.end (c.copy-end.ensures.kept j)
          (c.copy-end.ensures.gap j) (c.copy-end.ensures.bytes j);
      zero = λ j past. c.copy-end.ensures.later j (omega (arith, past, c.copy-end.ensures.end));
    }

pub returns : goal.returns
returns c =
    let none = drop_all c.loop-entry.entry-index c.args.entries.now c.loop-entry-test.false in
    fill_by_all (byte_at c.args.entries.now c.args.scan.now) c.loop-entry.out (length c.args.out.now) 0 (omega arith)
    (λ j below. copied_all c.loop-entry.end c.args.scan.now c.loop-entry.out j (c.loop-entry.invariant.zero j)
    ∙ sym (c.loop-entry.invariant.bytes j ∙ ap (λ es. so_far c.loop-entry.out c.loop-entry.end es c.args.scan.now j) none))
