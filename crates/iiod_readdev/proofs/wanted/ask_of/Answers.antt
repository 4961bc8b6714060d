use Rattle.iiod_readdev.proofs.WantedLaws.{is_ask}
use Rattle.iiod_readdev.proofs.wanted.ask_of.Goals as goal

pub returns-clause-sound : goal.returns-clause-sound
returns-clause-sound c = is_ask _ c.in-Some-read_mask.ensures.below c.in-Some-read_mask.ensures.data c.requires.samples c.requires.scans
