use Rattle.std.proofs.Common.{◌≡◌, arith, string_bytes}
use Rattle.std.proofs.lemmas.Grind.{common_steps}
use Rattle.iio_text.specs.Fixed.{printed_fixed}
use Rattle.iio_text.proofs.FixedLemmas.{fixed_of-printed_fixed}
use Rattle.iio_text.proofs.decimals.print_fixed.Goals as goal

pub returns-clause-read_back : goal.returns-clause-read_back
returns-clause-read_back c sound =
    let text : string_bytes c.push_part.new.text ≡ printed_fixed c.args.v.now = grind (arith, common_steps) in
    rw text (fixed_of-printed_fixed c.args.v.now sound)
