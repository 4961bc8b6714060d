use Rattle.std.proofs.Common.{rules, ◌≡◌, w64, SFits, ℕ, ℤ, pos, ◌<◌, ◌≤◌, ◌+◌, ◌∷◌, [], ◌++◌, if◌then◌else◌, List, length, slice_index_or, take, drop, ap, refl, sym, ◌∙◌, arith}
use Rattle.std.proofs.lemmas.List.{append-nil, drop_all, take_all, take_more, take_more_set, drop-set-lt}
use Rattle.std.proofs.lemmas.Int.{to_z-of_z}
use Rattle.std.proofs.Math.ListN.{set}
use Rattle.iio_mask.specs.Mask.{has}
use Rattle.iio_scan_type.specs.Bytes.{value_at}
use Rattle.iio_scan_type.specs.Format.{size_of}
use Rattle.iio_layout.specs.Layout.{format_at}
use Rattle.iio_layout.specs.Shape.{formats_of}
use Rattle.iio_output.specs.Last.{GivenScan, element_in, last_from}
use Rattle.iio_output.proofs.LastLemmas.{kept_more}
use Rattle.iio_output.proofs.last.keep_last.Goals.{then-contains, else-contains}
use Rattle.iio_output.proofs.last.keep_last.Goals as goal

pub loop-c-preserved : goal.loop-c-preserved
loop-c-preserved c =
    let x : GivenScan = record { mask = c.args.mask.bits; bytes = c.args.scan.now } in
    let less : c.loop-c.c < length c.loop-c.last = omega arith in
    elim c.if-contains.branch [
      | then-contains w ↦
          let selected = sym c.contains.ensures ∙ w.if-contains.true in
          let place = (c.requires.places c.loop-c.c (omega arith) selected).is in
          let ty = format_at (formats_of c.args.shape.now) c.loop-c.c in
          let value : w.element_at.result ≡ element_in c.args.shape.now x c.loop-c.c
          = w.element_at.ensures ∙ ap (λ (p : ℕ). value_at ty (take (size_of ty) (drop p c.args.scan.now)) 0) place in
          let choice : w.element_at.result
          ≡ (if has x.mask c.loop-c.c then element_in c.args.shape.now x c.loop-c.c else slice_index_or c.loop-c.last c.loop-c.c (pos 0))
          = rw selected value in
          let fits : SFits w64 w.element_at.result = search rules in
          let stored = w.last-is ∙ ap (λ (v : ℤ). set c.loop-c.last c.loop-c.c v) (to_z-of_z w64 w.element_at.result fits) in
          rw stored (kept_more c.args.shape.now x c.loop-c.c c.loop-c.last _ _ (pos 0) less
          (take_more_set c.loop-c.last c.loop-c.c w.element_at.result less ∙ ap (λ (v : ℤ). take c.loop-c.c c.loop-c.last ++ v ∷ []) choice)
          (drop-set-lt (c.loop-c.c + 1) c.loop-c.last c.loop-c.c w.element_at.result (omega arith)) c.loop-c.invariant)
      | else-contains w ↦
          let unselected = sym c.contains.ensures ∙ w.if-contains.false in
          let choice : slice_index_or c.loop-c.last c.loop-c.c (pos 0)
          ≡ (if has x.mask c.loop-c.c then element_in c.args.shape.now x c.loop-c.c else slice_index_or c.loop-c.last c.loop-c.c (pos 0))
          = rw unselected refl in
          rw w.last-is (kept_more c.args.shape.now x c.loop-c.c c.loop-c.last _ _ (pos 0) less
          (take_more c.loop-c.last c.loop-c.c (pos 0) less ∙ ap (λ (v : ℤ). take c.loop-c.c c.loop-c.last ++ v ∷ []) choice) refl c.loop-c.invariant)
    ]

pub returns : goal.returns
returns c =
    let all : length c.loop-c.last ≤ c.loop-c.c = omega arith in
    let x : GivenScan = record { mask = c.args.mask.bits; bytes = c.args.scan.now } in
    let none = ap (λ (vs : List ℤ). take c.loop-c.c c.loop-c.last ++ last_from c.args.shape.now x c.loop-c.c vs) (drop_all c.loop-c.c c.loop-c.last all) in
    let whole = ap (λ (vs : List ℤ). vs ++ []) (take_all c.loop-c.c c.loop-c.last all) ∙ append-nil c.loop-c.last in
    sym whole ∙ sym none ∙ c.loop-c.invariant
