use Rattle.std.proofs.Common.{rules, ◌∙◌, Some, None, refl, sym, ap}
use Rattle.iio_device.specs.Plug.{driver_of}
use Rattle.iiod_bank.proofs.OwnLaws.{within, same_device, below, reads, fits_after, may_at, ran_alone, ran_paired}
use Rattle.iiod_bank.proofs.own.OwnBankBank.device.Goals as goal

pub alone-requires-clause-may : goal.alone-requires-clause-may
alone-requires-clause-may g c =
    let inside = within _ _ _ _ c.args.self.now.fits c.requires.dev in
    may_at (g.J.DeviceJob.may c.args.job) _ _ _ _ _ c.args.self.now.fits (reads _ _ _ inside c.index_mut.ensures.value) c.requires.may

pub invariant_of-self : goal.invariant_of-self
invariant_of-self g c =
    let inside = within _ _ _ _ c.args.self.now.fits c.requires.dev in
    record {
      fits =
          fits_after (driver_of (λ p. (g.dyn-1.0.entry p.vtable).1.driver p.value)) _ _ _ _ _ _ _ c.args.self.now.fits refl
          (reads _ _ _ inside c.index_mut.ensures.value) c.alone.ensures.kept;
    }

pub index_mut-requires-in-Some-2 : goal.index_mut-requires-in-Some-2
index_mut-requires-in-Some-2 g c =
    let inside = within _ _ _ _ c.args.self.now.fits c.requires.dev in
    let h = below _ _ _ _ _ _ c.args.self.now.fits (reads _ _ _ inside c.index.ensures) (sym c.trigger.ensures ∙ c.in-Some.is) in
    search rules

pub paired-requires-clause-may : goal.paired-requires-clause-may
paired-requires-clause-may g c =
    let inside = within _ _ _ _ c.args.self.now.fits c.requires.dev in
    may_at (g.J.DeviceJob.may c.args.job) _ _ _ _ _ c.args.self.now.fits (reads _ _ _ inside c.index_mut-in-Some.ensures.value) c.requires.may

pub invariant_of-self-in-Some : goal.invariant_of-self-in-Some
invariant_of-self-in-Some g c =
    let inside = within _ _ _ _ c.args.self.now.fits c.requires.dev in
    record {
      fits =
          fits_after (driver_of (λ p. (g.dyn-1.0.entry p.vtable).1.driver p.value)) _ _ _ _ _ _ _ c.args.self.now.fits (search rules)
          (reads _ _ _ inside c.index_mut-in-Some.ensures.value) c.paired.ensures.kept;
    }

pub returns-in-None-clause-allowed : goal.returns-in-None-clause-allowed
returns-in-None-clause-allowed g c =
    let inside = within _ _ _ _ c.args.self.now.fits c.requires.dev in
    let at = reads _ _ _ inside c.index_mut.ensures.value in
    let fit = c.args.self.now.fits.each _ _ at in
    record {
      a = _;
      s = None;
      b = _;
      t = None;
      number = fit.number;
      fit =
          may_at (g.J.DeviceJob.may c.args.job) _ _ _ _ _ c.args.self.now.fits at c.requires.may;
      made = c.alone.ensures.makes;
    }

pub returns-in-None-clause-told : goal.returns-in-None-clause-told
returns-in-None-clause-told g c =
    let inside = within _ _ _ _ c.args.self.now.fits c.requires.dev in
    let at = reads _ _ _ inside c.index_mut.ensures.value in
    let none =
    ap (λ s. s.core.trigger) (same_device c.args.self.now.devices.items c.args.dev _ _ at (reads _ _ _ inside c.index.ensures)) ∙ sym c.trigger.ensures
    ∙ c.in-None.is in
    ran_alone _ _ _ _ _ _ _ _ _ at none c.alone.ensures.makes

pub returns-in-Some-clause-allowed : goal.returns-in-Some-clause-allowed
returns-in-Some-clause-allowed g c =
    let inside = within _ _ _ _ c.args.self.now.fits c.requires.dev in
    let at = reads _ _ _ inside c.index_mut-in-Some.ensures.value in
    let fit = c.args.self.now.fits.each _ _ at in
    record {
      a = _;
      s = Some _;
      b = _;
      t = Some _;
      number = fit.number;
      fit =
          may_at (g.J.DeviceJob.may c.args.job) _ _ _ _ _ c.args.self.now.fits at c.requires.may;
      made = c.paired.ensures.makes;
    }

pub returns-in-Some-clause-told : goal.returns-in-Some-clause-told
returns-in-Some-clause-told g c =
    let inside = within _ _ _ _ c.args.self.now.fits c.requires.dev in
    let at = reads _ _ _ inside c.index_mut-in-Some.ensures.value in
    let some =
    ap (λ s. s.core.trigger) (same_device c.args.self.now.devices.items c.args.dev _ _ at (reads _ _ _ inside c.index.ensures)) ∙ sym c.trigger.ensures
    ∙ c.in-Some.is in
    let trigger = reads _ _ _ (below _ _ _ _ _ _ c.args.self.now.fits at some) c.index_mut-in-Some-2.ensures.value in
    ran_paired _ _ _ _ _ _ _ _ _ _ _ _ at some trigger c.paired.ensures.makes
