use Rattle.std.proofs.Common.{◌≡◌, ◌+◌, ℕ, List, [], length, max, sym, ap, refl, ◌∙◌, arith}
use Rattle.std.specs.Int.{next_multiple_of}
use Rattle.iio_mask.specs.Mask.{channels_of}
use Rattle.iio_scan_type.specs.Format.{size_of}
use Rattle.iio_layout.specs.Layout.{end_below, size_at}
use Rattle.iio_layout.specs.Shape.{count_of, formats_of}
use Rattle.iio_layout.proofs.LayoutLemmas.{max-power}
use Rattle.iio_layout.proofs.ScanLemmas.{channels_few, channels_of-within, end_over, end_over-all, has-below, largest_over, largest_over-all}
use Rattle.iio_demux.proofs.RestLemmas.{ended, entries_over, entries_over-all, entries_over-first, entries_over-none, made_more, made_whole, none_left, own, own-below, own-first}
use Rattle.iio_demux.proofs.table.push_entries.Goals as goal

pub loop-c-init : goal.loop-c-init
loop-c-init c =
    let shape = c.args.shape.now in
    let active : ℕ = c.args.active.bits in
    let buffer : ℕ = c.args.buffer.bits in
    let formats = formats_of shape in
    let count = count_of shape in
    let channels = channels_of-within active count (omega arith) c.requires.below in
    let few = channels_few active 64 in
    let bits = ap length (channels_of-within active 64 (omega arith) (omega arith)) in
    let mine = ap (own buffer) channels ∙ own-below active buffer count c.requires.within in
    record {
      fits = omega arith;
      below = c.requires.below;
      active_few = omega (arith, few, bits);
      buffer_few = omega (arith, few, bits);
      buffer_end = ap (end_over formats 0) mine ∙ end_over-all formats buffer count;
      buffer_largest = ap (largest_over formats 0) mine ∙ largest_over-all formats buffer count;
      buffer_most = omega arith;
      buffer_power = λ some. absurd (some refl);
      entries = record {
        before = [];
        so_far = c.requires.none;
        then = ap (entries_over formats buffer 0 0) channels ∙ entries_over-all shape active buffer count c.requires.within;
      };
      few = omega (arith, few, bits, ap length c.requires.none);
      capacity = refl;
    }

pub ends_before-requires : goal.ends_before-requires
ends_before-requires c = has-below c.loop-c.rest.bits 64 c.in-Some.c c.loop-c.invariant.fits c.in-Some.ensures.member

pub scan_type-requires : goal.scan_type-requires
scan_type-requires c = has-below c.loop-c.rest.bits (count_of c.args.shape.now) c.in-Some.c c.loop-c.invariant.below c.in-Some.ensures.member

pub loop-c-preserved-then-contains : goal.loop-c-preserved-then-contains
loop-c-preserved-then-contains c =
    let shape = c.args.shape.now in
    let buffer : ℕ = c.args.buffer.bits in
    let formats = formats_of shape in
    let so_far = c.loop-c.invariant in
    let rest : List ℕ = channels_of c.pop_first.new.self.bits in
    let first = c.in-Some.ensures.some in
    let one = ap length first in
    let size : c.size-length.result ≡ size_at formats c.in-Some.c = c.size-length.ensures.value ∙ ap size_of c.scan_type.ensures.value in
    let most = c.size-length.ensures.few in
    let is = sym c.contains.ensures ∙ c.if-contains.true in
    let mine = ap (own buffer) first ∙ own-first buffer c.in-Some.c rest is in
    let from = c.aligned-from.ensures in
    let to = c.aligned-to.ensures in
    record {
      fits = omega (arith, c.in-Some.ensures.fewer, so_far.fits);
      below = omega (arith, c.in-Some.ensures.fewer, so_far.below);
      active_few = omega (arith, one, most, so_far.active_few);
      buffer_few = omega (arith, one, most, so_far.buffer_few);
      buffer_end =
          ap (λ (e : ℕ). end_over formats (e + c.size-length.result) (own buffer rest)) to
          ∙ ap (λ (n : ℕ). end_over formats (next_multiple_of c.loop-c.buffer_end n + n) (own buffer rest)) size
          ∙ ap (end_over formats c.loop-c.buffer_end) (sym mine) ∙ so_far.buffer_end;
      buffer_largest =
          ap (λ (n : ℕ). largest_over formats n (own buffer rest)) c.max-buffer_largest.ensures
          ∙ ap (λ (n : ℕ). largest_over formats (max c.loop-c.buffer_largest n) (own buffer rest)) size
          ∙ ap (largest_over formats c.loop-c.buffer_largest) (sym mine) ∙ so_far.buffer_largest;
      buffer_most = omega (arith, c.max-buffer_largest.ensures, most, so_far.buffer_most);
      buffer_power = rw c.max-buffer_largest.ensures (max-power c.loop-c.buffer_largest c.size-length.result so_far.buffer_power c.size-length.ensures.power);
      entries =
          let coming =
          ap (entries_over formats buffer c.loop-c.active_end c.loop-c.buffer_end) first
          ∙ entries_over-first formats buffer c.loop-c.active_end c.loop-c.buffer_end c.in-Some.c rest c.aligned-from.result c.aligned-to.result
          c.size-length.result is size from to in
          made_more coming c.push_merged.ensures.items so_far.entries;
      few = omega (arith, one, c.push_merged.ensures.few, so_far.few);
      capacity = c.push_merged.ensures.capacity ∙ so_far.capacity;
    }

-- ---- past the last channel of the buffer's mask

pub returns-then-ends_before-clause-items : goal.returns-then-ends_before-clause-items
returns-then-ends_before-clause-items c =
    let none = ended c.args.buffer.bits c.in-Some.c c.ends_before.result c.ends_before.ensures c.if-ends_before.true in
    let left = none_left c.loop-c.rest.bits c.args.buffer.bits c.in-Some.c (channels_of c.pop_first.new.self.bits) c.in-Some.ensures.some none in
    made_whole
    (entries_over-none (formats_of c.args.shape.now) c.args.buffer.bits c.loop-c.active_end c.loop-c.buffer_end (channels_of c.loop-c.rest.bits) left)
    c.loop-c.invariant.entries

pub returns-then-ends_before-clause-size : goal.returns-then-ends_before-clause-size
returns-then-ends_before-clause-size c =
    let none = ended c.args.buffer.bits c.in-Some.c c.ends_before.result c.ends_before.ensures c.if-ends_before.true in
    let left = none_left c.loop-c.rest.bits c.args.buffer.bits c.in-Some.c (channels_of c.pop_first.new.self.bits) c.in-Some.ensures.some none in
    let formats = formats_of c.args.shape.now in
    let end = sym (ap (end_over formats c.loop-c.buffer_end) left) ∙ c.loop-c.invariant.buffer_end in
    let largest = sym (ap (largest_over formats c.loop-c.buffer_largest) left) ∙ c.loop-c.invariant.buffer_largest in
    c.padded_size.ensures ∙ ap (λ (e : ℕ). next_multiple_of e c.loop-c.buffer_largest) end
    ∙ ap (next_multiple_of (end_below formats c.args.buffer.bits (count_of c.args.shape.now))) largest
