use Rattle.std.proofs.Common.{◌≡◌, ◌++◌, ℕ, ◌<◌, All, List, get_or, length, sym, ap, subst, ◌∙◌}
use Rattle.std.proofs.lemmas.Option.{slice_get-get_or}
use Rattle.iio_device.specs.Plug.{driver_of}
use Rattle.iio_bench.specs.Together.{AreGathered, IsReady, scan_at}
use Rattle.iio_bench.proofs.SplitLemmas.{all_back, gathered_beside, refilled, scan_before}
use Rattle.iio_bench.proofs.together.gather_over.Goals as goal

pub gather_all-requires : goal.gather_all-requires
gather_all-requires g c =
    let drive = driver_of (λ b. (g.dyn-1.0.entry b.vtable).1.driver b.value) in
    let others = c.split_at_mut-others.result.0.now in
    let averages = c.split_at_mut-others.result.1.now in
    let parts = sym c.deref_mut.ensures.value ∙ c.split_at_mut-others.ensures.value in
    let base =
    slice_get-get_or others c.args.base c.index-others-base.result (subst (λ (n : ℕ). c.args.base < n) (sym c.split_at_mut-others.ensures.front_len)
    c.requires.before) in
    let scan =
    c.full_scan.ensures
    ∙ scan_before c.args.base others averages c.args.devices.now.items (get_or others c.args.base c.index-others-base.result) parts base in
    all_back (IsReady drive c.args.base c.full_scan.result.now) others averages
    (subst (All (IsReady drive c.args.base c.full_scan.result.now)) parts
    (subst (λ (s : List ℕ). All (IsReady drive c.args.base s) c.args.devices.now.items) (sym scan) c.requires.ready))

pub returns : goal.returns
returns g c =
    let drive = driver_of (λ b. (g.dyn-1.0.entry b.vtable).1.driver b.value) in
    let others = c.split_at_mut-others.result.0.now in
    let averages = c.split_at_mut-others.result.1.now in
    let parts = sym c.deref_mut.ensures.value ∙ c.split_at_mut-others.ensures.value in
    let base =
    slice_get-get_or others c.args.base c.index-others-base.result (subst (λ (n : ℕ). c.args.base < n) (sym c.split_at_mut-others.ensures.front_len)
    c.requires.before) in
    let scan =
    c.full_scan.ensures
    ∙ scan_before c.args.base others averages c.args.devices.now.items (get_or others c.args.base c.index-others-base.result) parts base in
    let many = sym (ap (λ ds. length ds) c.deref_mut.ensures.value) ∙ c.deref_mut.ensures.len in
    let gathered =
    gathered_beside drive c.args.base c.full_scan.result.now c.args.first_average others averages c.gather_all.new.devices c.args.devices.now.items parts
    c.split_at_mut-others.ensures.front_len c.requires.bases c.gather_all.ensures in
    let whole = refilled c.args.devices.now.len (others ++ c.gather_all.new.devices) c.args.devices.now.items (gathered.same ∙ many) many in
    subst (λ ds. AreGathered drive c.args.base (scan_at c.args.base c.args.devices.now.items) c.args.devices.now.items ds) (sym whole)
    (subst (λ (s : List ℕ). AreGathered drive c.args.base s c.args.devices.now.items (others ++ c.gather_all.new.devices)) scan gathered)
