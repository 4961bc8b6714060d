use Rattle.std.proofs.Common.{sym, ◌∙◌}
use Rattle.iio_mask.proofs.TextLemmas.{mask_of-text, text-mask_of}
use Rattle.iio_mask.proofs.Mask.read.Goals as goal

pub returns-in_err-bits-clause-only : goal.returns-in_err-bits-clause-only
returns-in_err-bits-clause-only c = λ bits is.
    let read = mask_of-text c.args.channels bits c.args.text.now c.requires.few is in
    let none = c.in_err-bits.ensures in
    cc

pub returns-clause-spelled : goal.returns-clause-spelled
returns-clause-spelled c = text-mask_of c.args.channels c.in_ok-bits.bits c.args.text.now (sym c.in_ok-bits.ensures)

pub returns-clause-only : goal.returns-clause-only
returns-clause-only c = λ bits is.
    c.in_ok-bits.ensures ∙ mask_of-text c.args.channels bits c.args.text.now c.requires.few is
