use Rattle.std.proofs.Common.{◌≡◌, ◌+◌, ◌-◌, ℕ, List, [], length, max, refl, sym, ap, ◌∙◌, inl, inr, arith, rules}
use Rattle.std.specs.Int.{next_multiple_of}
use Rattle.std.proofs.lemmas.Bool.{false≢true}
use Rattle.iio_mask.specs.Mask.{channels_of}
use Rattle.iio_scan_type.specs.Format.{size_of}
use Rattle.iio_layout.specs.Layout.{size_at}
use Rattle.iio_layout.specs.Shape.{count_of, formats_of}
use Rattle.iio_layout.proofs.LayoutLemmas.{end-few, max-power}
use Rattle.iio_layout.proofs.ScanLemmas.{channels_few, channels_none, channels_of-within, end_over, end_over-all, has-below, largest_over, largest_over-all}
use Rattle.iio_layout.proofs.layout.extent_of.Goals as goal

pub loop-c-init : goal.loop-c-init
loop-c-init c =
    let formats = formats_of c.args.shape.now in
    let mask : ℕ = c.args.mask.bits in
    let count = count_of c.args.shape.now in
    let channels = channels_of-within mask count (omega arith) c.requires in
    record {
      below = c.requires;
      left = rw channels (channels_few mask count);
      end = ap (end_over formats 0) channels ∙ end_over-all formats mask count;
      largest = ap (largest_over formats 0) channels ∙ largest_over-all formats mask count;
      few = omega arith;
      small = omega arith;
      power = λ some. absurd (some refl);
      fits = λ some. absurd (some refl);
      some = inl refl;
    }

pub scan_type-requires : goal.scan_type-requires
scan_type-requires c = has-below c.loop-c.rest.bits (count_of c.args.shape.now) c.in-Some.c c.loop-c.invariant.below c.in-Some.ensures.member

pub loop-c-preserved : goal.loop-c-preserved
loop-c-preserved c =
    let formats = formats_of c.args.shape.now in
    let count = count_of c.args.shape.now in
    let so_far = c.loop-c.invariant in
    let left : List ℕ = channels_of c.pop_first.new.self.bits in
    let first = c.in-Some.ensures.some in
    let one = ap length first in
    let size = c.size-size.ensures in
    let is_size : c.size-size.result ≡ size_at formats c.in-Some.c = size.value ∙ ap size_of c.scan_type.ensures.value in
    let few =
    end-few c.loop-c.end c.size-size.result (count - length (channels_of c.loop-c.rest.bits)) size.power size.some size.few so_far.few in
    let most = c.scan_type.ensures.sound.few in
    record {
      below = omega (arith, c.in-Some.ensures.fewer, so_far.below);
      left = omega (arith, one, so_far.left);
      end =
          ap (λ (e : ℕ). end_over formats (e + c.size-size.result) left) c.aligned.ensures
          ∙ ap (λ (n : ℕ). end_over formats (next_multiple_of c.loop-c.end n + n) left) is_size ∙ ap (end_over formats c.loop-c.end) (sym first) ∙ so_far.end;
      largest =
          ap (λ (n : ℕ). largest_over formats n left) c.max-largest.ensures
          ∙ ap (λ (n : ℕ). largest_over formats (max c.loop-c.largest n) left) is_size ∙ ap (largest_over formats c.loop-c.largest) (sym first)
          ∙ so_far.largest;
      few = omega (arith, few, size.few, c.aligned.ensures, one, so_far.left);
      small = omega (arith, c.max-largest.ensures, size.few, so_far.small);
      power = rw c.max-largest.ensures (max-power c.loop-c.largest c.size-size.result so_far.power size.power);
      fits = λ some. omega (arith, most);
      some = inr (omega (arith, size.some));
    }

pub returns-clause-some : goal.returns-clause-some
returns-clause-some c = λ k below there. elim c.loop-c.invariant.some [
  | inl same ↦
      let mask : ℕ = c.args.mask.bits in
      let none : channels_of mask ≡ [] = ap channels_of (sym same) ∙ search rules in
      let channels = channels_of-within mask (count_of c.args.shape.now) (omega arith) c.requires in
      absurd (false≢true (sym (channels_none mask (count_of c.args.shape.now) k (sym channels ∙ none) below) ∙ there))
  | inr one ↦ one
]
