use Rattle.std.proofs.Common.{◌≡◌, ◌-◌, ◌≤◌, ◌++◌, length, take, sym, ap, ◌∙◌, arith, length-append}
use Rattle.std.proofs.lemmas.List.{length-take}
use Rattle.iiod_grammar.specs.Lines.{WholePayload}
use Rattle.iiod_grammar.proofs.CutLemmas.{payload_whole}
use Rattle.iiod_grammar.proofs.lines.take_payload.Goals as goal

pub returns-clause-takes : goal.returns-clause-takes
returns-clause-takes c =
    let kept = c.args.kept.now in
    let missing = c.args.count - length kept in
    let items : c.keep-2.new.self ≡ kept ++ take missing c.args.bytes.now =
    c.keep-2.ensures ∙ ap (λ n. kept ++ take (c.args.count - n) c.args.bytes.now) c.len.ensures in
    let enough : missing ≤ length c.args.bytes.now = omega (arith, c.len.ensures, c.if-bytes-missing.false) in (
      payload_whole c.args.count kept c.args.bytes.now c.requires.begun enough ∙ ap WholePayload (sym items),
      ap length items ∙ omega (arith, c.len.ensures, enough, length-append kept (take missing c.args.bytes.now), length-take missing c.args.bytes.now),
    )
