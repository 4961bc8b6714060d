use Rattle.std.proofs.Common.{◌≡◌, ◌+◌, ◌<◌, ◌≤◌, ◌++◌, length, take, refl, sym, ap, ◌∙◌, arith, None}
use Rattle.std.specs.List.{position_or_len}
use Rattle.std.proofs.lemmas.List.{length-take, take-take, take-append-le, take_all}
use Rattle.iiod_grammar.specs.Command.{without_returns}
use Rattle.iiod_grammar.specs.Lines.{is_lf, is_begun, WholeLine}
use Rattle.iiod_grammar.proofs.CutLemmas.{front_place, front_before, line_overlong, line_not_yet, line_whole}
use Rattle.iiod_grammar.proofs.lines.take_line.Goals as goal

pub returns-then-begun-end-gt-MAX_LINE-clause-takes :
    goal.returns-then-begun-end-gt-MAX_LINE-clause-takes
returns-then-begun-end-gt-MAX_LINE-clause-takes c =
    let kept = c.args.kept.now in
    let bytes = c.args.bytes.now in
    let n = c.min-looked_at.result in
    let end = c.keep_line-end.result in
    let before = front_before bytes n in
    let over : 1024 < length kept + position_or_len is_lf bytes =
    omega (arith, c.len-begun.ensures, c.keep_line-end.ensures.value, before, c.if-begun-end-gt-MAX_LINE.true) in
    let same = c.truncate.ensures ∙ ap (take c.len-begun.result) c.keep_line-end.ensures.kept
    ∙ take-append-le c.len-begun.result kept (take end (take n bytes)) (omega (arith, c.len-begun.ensures))
    ∙ take_all c.len-begun.result kept (omega (arith, c.len-begun.ensures)) in
    (line_overlong kept bytes c.requires.begun over, refl, same)

pub returns-then-end-bytes-clause-takes : goal.returns-then-end-bytes-clause-takes
returns-then-end-bytes-clause-takes c =
    let kept = c.args.kept.now in
    let bytes = c.args.bytes.now in
    let n = c.min-looked_at.result in
    let end = c.keep_line-end.result in
    let few : length kept + length bytes ≤ 1024 = omega (arith, c.len-begun.ensures, c.if-end-bytes.true, c.if-begun-end-gt-MAX_LINE.false) in
    let place = front_place bytes n end c.keep_line-end.ensures.value (λ past. omega (arith, past, c.if-end-bytes.true)) in
    let cut = line_not_yet kept bytes c.requires.begun few (place ∙ c.if-end-bytes.true) in
    let part : end ≤ n = omega (arith, c.keep_line-end.ensures.within, length-take n bytes) in
    let items =
    c.keep_line-end.ensures.kept ∙ ap (λ more. kept ++ more) (take-take end n bytes part ∙ take_all end bytes (omega (arith, c.if-end-bytes.true))) in
    (cut.0, c.if-end-bytes.true, items, ap (is_begun None) items ∙ cut.1)

pub returns-clause-takes : goal.returns-clause-takes
returns-clause-takes c =
    let kept = c.args.kept.now in
    let bytes = c.args.bytes.now in
    let n = c.min-looked_at.result in
    let end = c.keep_line-end.result in
    let within : length kept + end ≤ 1024 = omega (arith, c.len-begun.ensures, c.if-begun-end-gt-MAX_LINE.false) in
    let part : end ≤ n = omega (arith, c.keep_line-end.ensures.within, length-take n bytes) in
    let place = front_place bytes n end c.keep_line-end.ensures.value (λ past. omega (arith, past, within, c.len-begun.ensures, c.min-looked_at.ensures)) in
    let some : end < length bytes = omega (arith, c.keep_line-end.ensures.within, length-take n bytes, c.if-end-bytes.false) in
    let items = c.keep_line-end.ensures.kept ∙ ap (λ more. kept ++ more) (take-take end n bytes part) in
    let line = c.truncate-2.ensures ∙ ap (take c.len_without_returns-len.result) (sym c.bytes.ensures)
    ∙ c.len_without_returns-len.ensures.value ∙ ap without_returns (c.bytes.ensures ∙ items) in
    line_whole kept bytes end c.requires.begun (sym place) within some
    ∙ ap (λ l. WholeLine l (length kept + (end + 1))) (sym line)
