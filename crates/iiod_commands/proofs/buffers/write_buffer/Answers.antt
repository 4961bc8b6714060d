use Rattle.std.proofs.Common.{◌≡◌, ◌∙◌, Err, None, Ok, Some, arith, sym}
use Rattle.std.proofs.lemmas.Result.{err_from_is_err_and}
use Rattle.iio_text.specs.declared.errors.Errno.TheVariants.{ENODEV}
use Rattle.iiod_commands.proofs.AnswerLaws.{by_no, by_taken}
use Rattle.iiod_commands.proofs.ServeLaws.{serves_streamed, serves_unstreamed}
use Rattle.iiod_commands.proofs.buffers.write_buffer.Goals as goal

pub returns-in_err-dev-clause-served : goal.returns-in_err-dev-clause-served
returns-in_err-dev-clause-served g c =
    let p = err_from_is_err_and c.from_residual.result c.from_residual.ensures.1 in
    let none : c.find.result ≡ None = grind arith in
    let why : c.in_err-dev.field-0.0 ≡ ENODEV = grind arith in
    rw (p.1, p.2, why) (by_no _ _ _ _ _ (serves_unstreamed _ _ _ c.args.payload.now (sym none ∙ c.find.ensures.value)))

pub returns-in_err-taken-clause-served : goal.returns-in_err-taken-clause-served
returns-in_err-taken-clause-served g c =
    let p = err_from_is_err_and c.from_residual-in_err-taken.result c.from_residual-in_err-taken.ensures.1 in
    let found : c.find.result ≡ Some c.in_ok-dev.dev = grind arith in
    let no = c.in_err-taken.field-0.0 in
    rw (p.1, p.2)
    (by_no _ _ _ _ no
    (serves_streamed _ _ _ _ _ c.in_ok-dev.dev (Err no) (sym found ∙ c.find.ensures.value) c.in_err-taken.ensures.told c.in_err-taken.ensures.same
    c.in_err-taken.ensures.traces tt))

pub returns-clause-served : goal.returns-clause-served
returns-clause-served g c =
    let found : c.find.result ≡ Some c.in_ok-dev.dev = grind arith in
    by_taken _ _ _ _ c.in_ok-taken.taken
    (serves_streamed _ _ _ _ _ c.in_ok-dev.dev (Ok c.in_ok-taken.taken) (sym found ∙ c.find.ensures.value) c.in_ok-taken.ensures.told
    c.in_ok-taken.ensures.same c.in_ok-taken.ensures.traces c.in_ok-taken.ensures.within)
