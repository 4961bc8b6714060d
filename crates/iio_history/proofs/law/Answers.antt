use Rattle.iio_history.proofs.ToldLaws.{step_is_told, machine_is_told}
use Rattle.iio_history.proofs.RegistryLaws.{members_are_apart, output_has_one}
use Rattle.iio_history.proofs.InnerLaws.{inner_is_there}
use Rattle.iio_history.proofs.EmptiedLaws.{inner_is_empty}
use Rattle.iio_history.proofs.GivenLaws.{given_is_written}
use Rattle.iio_history.proofs.KindLaws.{means_alone, plugged_is_bases}
use Rattle.iio_history.proofs.MeanLaws.{means_are}
use Rattle.iio_history.proofs.MoreLaws.{queues_are_private, others_are_absent}
use Rattle.iio_history.proofs.OutstandingLaws.{outstanding_is}
use Rattle.iio_history.proofs.TranscriptLaws.{transcript_is}
use Rattle.iio_history.proofs.ReadingLaws.{reading_is_one}
use Rattle.iio_history.proofs.NumberedLaws.{numbered_are_steps}
use Rattle.iio_history.proofs.law.Goals as goal

pub returns-clause-step : goal.returns-clause-step
returns-clause-step c = step_is_told

pub returns-clause-machine : goal.returns-clause-machine
returns-clause-machine c = machine_is_told

pub returns-clause-queues : goal.returns-clause-queues
returns-clause-queues c = queues_are_private

pub returns-clause-apart : goal.returns-clause-apart
returns-clause-apart c = members_are_apart

pub returns-clause-one : goal.returns-clause-one
returns-clause-one c = output_has_one

pub returns-clause-given : goal.returns-clause-given
returns-clause-given c = given_is_written

pub returns-clause-inner : goal.returns-clause-inner
returns-clause-inner c = inner_is_there

pub returns-clause-emptied : goal.returns-clause-emptied
returns-clause-emptied c = inner_is_empty

pub returns-clause-plugged : goal.returns-clause-plugged
returns-clause-plugged c = plugged_is_bases

pub returns-clause-means : goal.returns-clause-means
returns-clause-means c = means_are

pub returns-clause-alone : goal.returns-clause-alone
returns-clause-alone c = means_alone

pub returns-clause-others : goal.returns-clause-others
returns-clause-others c = others_are_absent

pub returns-clause-outstanding : goal.returns-clause-outstanding
returns-clause-outstanding c = outstanding_is

pub returns-clause-transcript : goal.returns-clause-transcript
returns-clause-transcript c = transcript_is

pub returns-clause-reading : goal.returns-clause-reading
returns-clause-reading c = reading_is_one

pub returns-clause-numbered : goal.returns-clause-numbered
returns-clause-numbered c = numbered_are_steps
