use Rattle.std.proofs.Common.{arith, length, ◌≡◌, ◌∷◌, rules, Err, sym, ap, ◌∙◌, List, ℕ}
use Rattle.iio_text.specs.Lines.{lines_of}
use Rattle.iio_desc.specs.DescReader.{Reader, read_lines}
use Rattle.iio_desc.proofs.ReaderLemmas.{located}
use Rattle.iio_desc.proofs.reader.read_desc.Goals as goal

pub returns-in_err-line-clause-err : goal.returns-in_err-line-clause-err
returns-in_err-line-clause-err c =
    let is : c.from_residual-in_err-line.result ≡ Err c.in_err-line.field-0.0 = search rules in
    let parted : lines_of c.loop-line.rest.now ≡ c.in-Some.line.now ∷ lines_of c.in-Some.more.now = c.in-Some.ensures.found in
    let told = c.loop-line.invariant.told ∙ ap (λ (ls : List (List ℕ)). read_lines c.loop-line.reader ls) parted in
    rw (is, told) (located c.in_err-line.field-0.0 c.loop-line.reader c.in-Some.line.now (lines_of c.in-Some.more.now) c.in_err-line.ensures.err)

pub loop-line-preserved : goal.loop-line-preserved
loop-line-preserved c =
    let parted : lines_of c.loop-line.rest.now ≡ c.in-Some.line.now ∷ lines_of c.in-Some.more.now = c.in-Some.ensures.found in
    let told = c.loop-line.invariant.told ∙ ap (λ (ls : List (List ℕ)). read_lines c.loop-line.reader ls) parted in
    record {
      told = told ∙ ap (λ (r : Reader). read_lines r (lines_of c.in-Some.more.now)) (sym c.in_ok-line.ensures.ok.0);
      room = omega (arith, c.in_ok-line.ensures.counted, ap length parted);
      drivers = c.in_ok-line.ensures.drivers ∙ c.loop-line.invariant.drivers;
    }
