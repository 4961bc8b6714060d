use Rattle.std.proofs.Common.{◌≡◌, ℤ, List, [], ◌∷◌, ◌++◌, ap, sym, ◌∙◌, vec_len, drop, Ok, rules, arith}
use Rattle.std.proofs.lemmas.Grind.{common_steps}
use Rattle.std.proofs.lemmas.Int.{to_z-of_z}
use Rattle.std.proofs.lemmas.List.{take-append-drop}
use mir.Val.{SFits}
use mir.Syntax.{w64}
use Rattle.iio_text.specs.Words.{words_of, is_space}
use Rattle.iio_desc.specs.PartialDevice.{row_width}
use Rattle.iio_desc.specs.DeviceLines.{counted_row}
use Rattle.iio_desc.specs.View.{partial_device}
use Rattle.iio_desc.proofs.RowLemmas.{rises_push, whole_push, reads_counted}
use Rattle.iio_desc.proofs.device_builder.DeviceBuilder.row_line.Goals as goal

pub invariant_of-self-2 : goal.invariant_of-self-2
invariant_of-self-2 c =
    let inside = c.self.inside in
    let moments : List ℤ = inside.moments.items in
    let old : List ℤ = inside.values.items in
    let new : List ℤ = c.push_row.new.values.items in
    let m : ℤ = c.in_ok-moment.moment in
    let vs : List ℤ = drop (vec_len inside.values) new in
    let kept : c.reserve.new.self.items ≡ moments = c.in_ok-reserve.ensures.items in
    let slice : c.as_slice.result.now ≡ moments = c.as_slice.ensures.value ∙ kept in
    let fits : SFits w64 m = search rules in
    let pushed : c.push_reserved.new.self.items ≡ c.reserve.new.self.items ++ m ∷ [] = simp to_z-of_z at c.push_reserved.ensures.items in
    let later = pushed ∙ ap (λ (ms : List ℤ). ms ++ m ∷ []) kept in
    let read : counted_row inside.width moments (words_of is_space c.args.words.now) ≡ Ok (m, vs) = rw slice at c.in_ok-moment.ensures.ok in
    let row = reads_counted inside.width moments (words_of is_space c.args.words.now) m vs read in
    let front : new ≡ old ++ vs = sym (take-append-drop (vec_len inside.values) new) ∙ ap (λ (xs : List ℤ). xs ++ vs) c.in_ok-moment.ensures.before in
    record {
      width = c.self.invariant.width;
      narrow = c.self.invariant.narrow;
      few = c.self.invariant.few;
      distinct = c.self.invariant.distinct;
      listed = c.self.invariant.listed;
      rises = rw later (rises_push moments m c.self.invariant.rises row.risen);
      whole = rw (front, later) (whole_push old vs moments m (row_width (partial_device inside)) c.self.invariant.whole (row.size ∙ c.self.invariant.width));
      writes = c.self.invariant.writes;
    }

pub returns-clause-line : goal.returns-clause-line
returns-clause-line c = grind (arith, common_steps)
