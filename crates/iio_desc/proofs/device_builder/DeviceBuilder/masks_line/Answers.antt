use Rattle.std.proofs.lemmas.Grind.{common_steps}
use Rattle.std.proofs.Common.{◌≡◌, length, arith}
use Rattle.iio_text.specs.Words.{words_of, is_space}
use Rattle.iio_desc.proofs.MaskLemmas.{All-masks_of}
use Rattle.iio_desc.proofs.device_builder.DeviceBuilder.masks_line.Goals as goal

pub invariant_of-self : goal.invariant_of-self
invariant_of-self c =
    let inside = c.self.inside in
    let channels : c.len-channels.result ≡ length inside.channels.items = omega (arith, inside.channels.ok.0) in
    let listed = All-masks_of c.len-channels.result c.count.result (words_of is_space c.args.words.now) _ c.in_ok-listed.ensures.ok in
    record {
      width = c.self.invariant.width;
      narrow = c.self.invariant.narrow;
      few = c.self.invariant.few;
      distinct = c.self.invariant.distinct;
      listed = rw channels at listed;
      rises = c.self.invariant.rises;
      whole = c.self.invariant.whole;
      writes = c.self.invariant.writes;
    }

pub returns-in_err-ensure-3-clause-line : goal.returns-in_err-ensure-3-clause-line
returns-in_err-ensure-3-clause-line c = grind (arith, common_steps)

pub returns-clause-line : goal.returns-clause-line
returns-clause-line c = grind (arith, common_steps)
