use Rattle.std.proofs.Common.{rules, SFits, w64, refl, ◌∙◌}
use Rattle.std.proofs.lemmas.Int.{to_z-of_z}
use Rattle.iio_derive.proofs.ReadLemmas.{field_value}
use Rattle.iio_derive.proofs.reading.read_last.Goals as goal

pub returns : goal.returns
returns c =
    let shape = c.args.shape.now in
    let fits : SFits w64 c.get.result = search rules in
    let channel = c.inputs-c.ensures.value in
    let place = (c.requires.places c.inputs-c.result (rw channel c.requires.stamp)).is in
    to_z-of_z w64 c.get.result fits ∙ c.get.ensures.value
    ∙ field_value shape c.args.scan.now c.inputs-c.result _ _ c.scan_type-ty.result c.scan_type-ty.ensures.value c.size.ensures.value place 0
    ∙ rw channel refl
