use Rattle.std.proofs.Common.{sym, ◌∙◌, inl, inr, arith}
use Rattle.std.proofs.lemmas.Bool.{cases_order, false≢true}
use Rattle.iio_layout.proofs.ShapeLemmas.{repeats, differs}
use Rattle.iio_layout.proofs.shape.are_distinct.Goals as goal

pub returns-then-is_among : goal.returns-then-is_among
returns-then-is_among c = (
  λ h. absurd (false≢true h),
  λ distinct.
      absurd (repeats c.args.channels.now c.loop-c.c c.index-channels-c.result c.loop-c-test.true c.index-channels-c.is
      (sym c.is_among.ensures ∙ c.if-is_among.true) distinct),
)

pub loop-c-preserved : goal.loop-c-preserved
loop-c-preserved c = λ i j d less below.
    elim (cases_order j c.loop-c.c) [
      | inl same ↦
          rw same (differs c.args.channels.now c.loop-c.c c.index-channels-c.result c.loop-c-test.true c.index-channels-c.is
          (sym c.is_among.ensures ∙ c.if-is_among.false) i d (omega arith))
      | inr (inl earlier) ↦ c.loop-c.invariant i j d less earlier
      | inr (inr later) ↦ absurd (omega arith)
    ]
