use Rattle.std.proofs.Common.{◌≡◌, ◌+◌, ◌++◌, None, Some, true, false, List, ℕ, length, take, drop, refl, sym, ap, ◌∙◌, arith, w64}
use Rattle.std.proofs.lemmas.Int.{to_z-of_z}
use Rattle.iio_mask.specs.Mask.{has}
use Rattle.iio_scan_type.specs.Bytes.{element_bytes}
use Rattle.iio_scan_type.specs.Format.{stamp_format}
use Rattle.iio_layout.specs.Layout.{scan_size}
use Rattle.iio_layout.specs.Scan.{scan_of, values_by}
use Rattle.iio_layout.specs.Shape.{ShapeRecord}
use Rattle.iio_sensor.specs.declared.held.Held.{Held}
use Rattle.iio_sensor.proofs.HeldLemmas.{scan_fits}
use Rattle.iio_sensor.proofs.StampLemmas.{restamped, same_unselected, same_without, stamp_fits}
use Rattle.iio_sensor.proofs.held.Held.give.Goals as goal

pub copy_front-requires : goal.copy_front-requires
copy_front-requires c =
    let (value, is) = c.requires.scan in
    let fits = scan_fits c.args.self.now c.args.shape.now value is in
    omega (arith, fits, c.requires.size)

pub put_moment-requires : goal.put_moment-requires
put_moment-requires c =
    let (value, is) = c.requires.scan in
    let h : Held = c.args.self.now in
    let shape : ShapeRecord = c.args.shape.now in
    let stamped : shape.stamp ≡ Some c.in-Some.endian = sym c.requires.shape.stamp ∙ c.in-Some.is in
    let selected : has h.mask.bits (length shape.channels) ≡ true = rw c.inputs.ensures.value at (sym c.contains.ensures ∙ c.if-contains.true) in
    let place = is.place ((rw stamped refl), selected) in
    let fits = stamp_fits shape h.mask.bits value c.in-Some.endian is.moment stamped selected in
    let copied : c.copy_front.new.out ≡ take (scan_size shape h.mask.bits) h.scan = c.copy_front.ensures ∙ ap (λ n. take n h.scan) c.requires.size in
    let long = ap (λ (xs : List ℕ). length xs) (copied ∙ is.bytes) in
    omega (arith, place, fits, long)

pub returns-then-contains : goal.returns-then-contains
returns-then-contains c = λ value is.
    let h : Held = c.args.self.now in
    let shape : ShapeRecord = c.args.shape.now in
    let stamped : shape.stamp ≡ Some c.in-Some.endian = sym c.requires.shape.stamp ∙ c.in-Some.is in
    let selected : has h.mask.bits (length shape.channels) ≡ true = rw c.inputs.ensures.value at (sym c.contains.ensures ∙ c.if-contains.true) in
    let place = is.place ((rw stamped refl), selected) in
    let copied : c.copy_front.new.out ≡ take (scan_size shape h.mask.bits) h.scan = c.copy_front.ensures ∙ ap (λ n. take n h.scan) c.requires.size in
    let with_moment = λ (at : ℕ) (scan : List ℕ). take at scan ++ (element_bytes (stamp_format c.in-Some.endian) c.args.t ++ drop (at + 8) scan) in
    rw (to_z-of_z w64 c.args.t c.ranges.t) at c.put_moment.ensures
    ∙ ap (with_moment h.place) (copied ∙ is.bytes)
    ∙ ap (λ (at : ℕ). with_moment at (scan_of shape h.mask.bits (values_by shape value) is.moment)) place
    ∙ sym (restamped shape h.mask.bits value c.in-Some.endian is.moment c.args.t stamped selected)

pub returns-else-contains : goal.returns-else-contains
returns-else-contains c = λ value is.
    let h : Held = c.args.self.now in
    let shape : ShapeRecord = c.args.shape.now in
    let stamped : shape.stamp ≡ Some c.in-Some.endian = sym c.requires.shape.stamp ∙ c.in-Some.is in
    let other : has h.mask.bits (length shape.channels) ≡ false = rw c.inputs.ensures.value at (sym c.contains.ensures ∙ c.if-contains.false) in
    let copied : c.copy_front.new.out ≡ take (scan_size shape h.mask.bits) h.scan = c.copy_front.ensures ∙ ap (λ n. take n h.scan) c.requires.size in
    copied ∙ is.bytes ∙ same_unselected shape h.mask.bits value c.in-Some.endian c.args.t is.moment stamped other

pub returns-in_default : goal.returns-in_default
returns-in_default c = λ value is.
    let h : Held = c.args.self.now in
    let shape : ShapeRecord = c.args.shape.now in
    let copied : c.copy_front.new.out ≡ take (scan_size shape h.mask.bits) h.scan = c.copy_front.ensures ∙ ap (λ n. take n h.scan) c.requires.size in
    let none : shape.stamp ≡ None = sym c.requires.shape.stamp ∙ c.in_default.is in
    copied ∙ is.bytes ∙ same_without shape h.mask.bits value c.args.t is.moment none
