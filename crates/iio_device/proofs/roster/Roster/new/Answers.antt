use Rattle.std.proofs.Common.{rules}
use Rattle.iio_device.proofs.SoundLemmas.{sound_empty}
use Rattle.iio_device.proofs.roster.Roster.new.Goals as goal

pub invariant_of-result : goal.invariant_of-result
invariant_of-result g c =
    let tail = g.Q.Tail in
    record {
      sound = rw (c.new.ensures.items, c.new-2.ensures.items) (sound_empty tail c.args.shape);
      sized = c.asked_size-size.ensures;
      roomy = search rules;
      placed = search rules;
      united = search rules;
    }
