use Rattle.std.proofs.Common.{◌≡◌, map, take}
use Rattle.iio_desc.specs.Description.{input_head}
use Rattle.iiod_bank.specs.FrontOf.{face_of}
use Rattle.iiod_bank.proofs.first.faces_of.Given as goal

abbrev pub invariant-loop-desc : goal.invariant-loop-desc
invariant-loop-desc l = map face_of l.faces.items ≡ map input_head (take l.desc-index l.descs)
