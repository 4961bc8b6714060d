use Rattle.iio_core.proofs.DeviceHandlings.{handlings_agree}
use Rattle.iio_core.proofs.DeviceLaws.{events_agree, holdings_agree, joins_agree, leaves_agree, looks_agree, places_agree, reads_agree, releases_agree, samples_agree, triggers_agree, unpluggings_agree, writes_agree}
use Rattle.iio_core.proofs.DeviceRemasks.{remasks_agree, remasks_stay}
use Rattle.iio_core.proofs.device_law.Goals as goal

pub returns-clause-joins : goal.returns-clause-joins
returns-clause-joins g c = joins_agree g.Q.Tail

pub returns-clause-leaves : goal.returns-clause-leaves
returns-clause-leaves g c = leaves_agree g.Q.Tail

pub returns-clause-remasks : goal.returns-clause-remasks
returns-clause-remasks g c = remasks_agree g.Q.Tail

pub returns-clause-stay : goal.returns-clause-stay
returns-clause-stay g c = remasks_stay g.Q.Tail

pub returns-clause-handlings : goal.returns-clause-handlings
returns-clause-handlings g c = handlings_agree g.Q.Tail

pub returns-clause-writes : goal.returns-clause-writes
returns-clause-writes g c = writes_agree g.Q.Tail

pub returns-clause-triggers : goal.returns-clause-triggers
returns-clause-triggers g c = triggers_agree g.Q.Tail

pub returns-clause-samples : goal.returns-clause-samples
returns-clause-samples g c = samples_agree g.Q.Tail

pub returns-clause-reads : goal.returns-clause-reads
returns-clause-reads g c = reads_agree g.Q.Tail

pub returns-clause-looks : goal.returns-clause-looks
returns-clause-looks g c = looks_agree g.Q.Tail

pub returns-clause-unpluggings : goal.returns-clause-unpluggings
returns-clause-unpluggings g c = unpluggings_agree g.Q.Tail

pub returns-clause-places : goal.returns-clause-places
returns-clause-places g c = places_agree g.Q.Tail

pub returns-clause-holdings : goal.returns-clause-holdings
returns-clause-holdings g c = holdings_agree g.Q.Tail

pub returns-clause-events : goal.returns-clause-events
returns-clause-events g c = events_agree g.Q.Tail

pub returns-clause-releases : goal.returns-clause-releases
returns-clause-releases g c = releases_agree g.Q.Tail
