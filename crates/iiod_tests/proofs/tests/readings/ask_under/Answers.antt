use Rattle.std.proofs.Common.{arith}
use Rattle.iiod_tests.proofs.tests.readings.ask_under.Goals as goal

pub returns : goal.returns
returns c = record {
  below = c.requires.below;
  channel = 0;
  is_channel = c.requires.channel;
  selected = c.requires.first;
  samples = omega arith;
  scans = c.requires.scans;
}
