use Rattle.std.proofs.Common.{rules, ◌≡◌, refl, inl, inr, to_z, of_z, w64}
use Rattle.iio_attr.specs.declared.attributes.Attr.TheVariants as attr
use Rattle.iio_device.specs.Site.{with_value}
use Rattle.iio_device.proofs.StoredLemmas.{at_place_set, at_place_same}
use Rattle.iio_device.proofs.values.write_channel.Goals as goal

pub returns-in-Scale-clause-site : goal.returns-in-Scale-clause-site
returns-in-Scale-clause-site g c plugged trigger attachment =
    let at =
    at_place_set (with_value attr.Scale c.args.value) c.args.c c.args.stored.now.values.items c.index_mut.result.now c.requires c.index_mut.ensures.value in
    rw (c.in-Scale.is, at) refl

pub returns-in-Offset-clause-site : goal.returns-in-Offset-clause-site
returns-in-Offset-clause-site g c plugged trigger attachment =
    let at =
    at_place_set (with_value attr.Offset c.args.value) c.args.c c.args.stored.now.values.items c.index_mut-in-Offset.result.now c.requires
    c.index_mut-in-Offset.ensures.value in
    rw (c.in-Offset.is, at) refl

pub returns-in-Calibscale-clause-site : goal.returns-in-Calibscale-clause-site
returns-in-Calibscale-clause-site g c plugged trigger attachment =
    let at =
    at_place_set (with_value attr.Calibscale c.args.value) c.args.c c.args.stored.now.values.items c.index_mut-in-Calibscale.result.now c.requires
    c.index_mut-in-Calibscale.ensures.value in
    rw (c.in-Calibscale.is, at) refl

pub returns-in-ThreshRisingValue-clause-site : goal.returns-in-ThreshRisingValue-clause-site
returns-in-ThreshRisingValue-clause-site g c plugged trigger attachment =
    let whole : to_z w64 (of_z w64 c.int-in-ThreshRisingValue.result) ≡ c.int-in-ThreshRisingValue.result = search rules in
    rw (
      c.in-ThreshRisingValue.is,
      at_place_same (with_value attr.ThreshRisingValue c.args.value) c.args.c c.args.stored.now.values.items (λ x. refl),
      c.set_value.ensures,
      whole,
      c.int-in-ThreshRisingValue.ensures,
    ) refl

pub returns-in-ThreshFallingValue-clause-site : goal.returns-in-ThreshFallingValue-clause-site
returns-in-ThreshFallingValue-clause-site g c plugged trigger attachment =
    let whole : to_z w64 (of_z w64 c.int-in-ThreshFallingValue.result) ≡ c.int-in-ThreshFallingValue.result = search rules in
    rw (
      c.in-ThreshFallingValue.is,
      at_place_same (with_value attr.ThreshFallingValue c.args.value) c.args.c c.args.stored.now.values.items (λ x. refl),
      c.set_value-in-ThreshFallingValue.ensures,
      whole,
      c.int-in-ThreshFallingValue.ensures,
    ) refl

pub returns-in-ThreshRisingEn-clause-site : goal.returns-in-ThreshRisingEn-clause-site
returns-in-ThreshRisingEn-clause-site g c plugged trigger attachment =
    rw (
      c.in-ThreshRisingEn.is,
      at_place_same (with_value attr.ThreshRisingEn c.args.value) c.args.c c.args.stored.now.values.items (λ x. refl),
      c.set_on.ensures,
    ) refl

pub returns-in-ThreshFallingEn-clause-site : goal.returns-in-ThreshFallingEn-clause-site
returns-in-ThreshFallingEn-clause-site g c plugged trigger attachment =
    rw (
      c.in-ThreshFallingEn.is,
      at_place_same (with_value attr.ThreshFallingEn c.args.value) c.args.c c.args.stored.now.values.items (λ x. refl),
      c.set_on-in-ThreshFallingEn.ensures,
    ) refl

pub returns-in-Name-clause-site : goal.returns-in-Name-clause-site
returns-in-Name-clause-site g c plugged trigger attachment =
    elim c.in-Name.is [
      | inl e ↦ rw (e, at_place_same (with_value attr.Name c.args.value) c.args.c c.args.stored.now.values.items (λ x. refl)) refl
      | inr (inl e) ↦ rw (e, at_place_same (with_value attr.SamplingFrequency c.args.value) c.args.c c.args.stored.now.values.items (λ x. refl)) refl
      | inr (inr (inl e)) ↦ rw (e, at_place_same (with_value attr.Raw c.args.value) c.args.c c.args.stored.now.values.items (λ x. refl)) refl
      | inr (inr (inr (inl e))) ↦ rw (e, at_place_same (with_value attr.Overruns c.args.value) c.args.c c.args.stored.now.values.items (λ x. refl)) refl
      | inr (inr (inr (inr (inl e)))) ↦
          rw (e, at_place_same (with_value attr.DataAvailable c.args.value) c.args.c c.args.stored.now.values.items (λ x. refl)) refl
      | inr (inr (inr (inr (inr (inl e))))) ↦
          rw (e, at_place_same (with_value attr.Length c.args.value) c.args.c c.args.stored.now.values.items (λ x. refl)) refl
      | inr (inr (inr (inr (inr (inr (inl e)))))) ↦
          rw (e, at_place_same (with_value attr.Discarded c.args.value) c.args.c c.args.stored.now.values.items (λ x. refl)) refl
      | inr (inr (inr (inr (inr (inr (inr e)))))) ↦
          rw (e, at_place_same (with_value attr.Underruns c.args.value) c.args.c c.args.stored.now.values.items (λ x. refl)) refl
    ]
