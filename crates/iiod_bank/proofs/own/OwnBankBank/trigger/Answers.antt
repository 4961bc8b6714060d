use Rattle.std.proofs.Common.{◌<◌, length}
use Rattle.iiod_bank.proofs.OwnLaws.{reads, ran_at}
use Rattle.iiod_bank.proofs.own.OwnBankBank.trigger.Goals as goal

pub returns-clause-told : goal.returns-clause-told
returns-clause-told g c =
    let inside : c.args.trigger < length c.args.self.now.triggers.items = rw c.args.self.now.fits.sixteen c.requires in
    ran_at _ _ _ _ _ _ _ _ (reads _ _ _ inside c.index_mut.ensures.value) c.run.ensures
