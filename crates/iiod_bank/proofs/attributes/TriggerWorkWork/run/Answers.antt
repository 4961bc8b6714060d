use Rattle.iiod_bank.proofs.JobLemmas.{kept_retriggered}
use Rattle.iiod_bank.proofs.attributes.TriggerWorkWork.run.Goals as goal

pub returns-in-Err-clause-kept : goal.returns-in-Err-clause-kept
returns-in-Err-clause-kept g c = kept_retriggered c.args.self.trigger _ _ c.set_trigger.ensures.state
