use Rattle.std.proofs.Common.{◌≡◌, ◌-◌, ◌*◌, length, take, rules, refl, ◌∙◌}
use Rattle.iio_text.proofs.PrintedLemmas.{take_grown, take_kept}
use Rattle.iio_text.proofs.escapes.chunk_escape_to.Goals as goal

pub returns-clause-ok : goal.returns-clause-ok
returns-clause-ok c =
    let start = c.len-start.result in
    let len = c.put_all_escaped-len.result in
    let grown = c.deref_mut.result.now in
    let kept : take start grown ≡ c.args.out.now.items =
    rw (c.deref_mut.ensures.value, c.in_ok-resize.ensures.items) (take_kept c.args.out.now.items _ start (4 * length c.args.bytes.now) (search rules)) in
    c.truncate.ensures.items
    ∙ take_grown start (length grown - start) len c.resize.new.self.len grown c.put_all_escaped-len.new.room _ (search rules) (search rules) (search rules)
    ∙ rw (kept, c.put_all_escaped-len.ensures.text) refl
