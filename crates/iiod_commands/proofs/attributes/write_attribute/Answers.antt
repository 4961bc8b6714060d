use Rattle.std.proofs.Common.{◌≡◌, ◌∙◌, None, Some, arith, rules, sym}
use Rattle.std.proofs.lemmas.Result.{err_from_is_err_and}
use Rattle.iio_text.specs.declared.errors.Errno.TheVariants.{EINVAL, ENODEV}
use Rattle.iiod_commands.specs.Client.{client_of}
use Rattle.iiod_commands.proofs.AnswerLaws.{by_count, by_no}
use Rattle.iiod_commands.proofs.AttributeLaws.{serves_nameless, serves_unwritten, serves_write_attribute}
use Rattle.iiod_commands.proofs.attributes.write_attribute.Goals as goal

pub returns-in_err-place-clause-served : goal.returns-in_err-place-clause-served
returns-in_err-place-clause-served g c =
    let p = err_from_is_err_and c.from_residual.result c.from_residual.ensures.1 in
    let nameless : c.args.target ≡ None = grind arith in
    let why : c.in_err-place.field-0.0 ≡ EINVAL = grind arith in
    rw (p.1, p.2, why, nameless) (by_no _ _ _ _ _ (serves_nameless _ _ _ _))

pub returns-in_err-dev-clause-served : goal.returns-in_err-dev-clause-served
returns-in_err-dev-clause-served g c =
    let p = err_from_is_err_and c.from_residual-in_err-dev.result c.from_residual-in_err-dev.ensures.1 in
    let named : c.args.target ≡ Some (c.in_ok-place.place, c.in_ok-place.name) = grind arith in
    let none : c.find.result ≡ None = grind arith in
    let why : c.in_err-dev.field-0.0 ≡ ENODEV = grind arith in
    rw (p.1, p.2, why, named) (by_no _ _ _ _ _ (serves_unwritten _ _ _ _ _ _ (sym none ∙ c.find.ensures.value)))

pub returns-clause-served : goal.returns-clause-served
returns-clause-served g c =
    let told = c.write_attribute_at-written.ensures.told (client_of g.I.Iio.seen c.args.client.now) (search rules) in
    let named : c.args.target ≡ Some (c.in_ok-place.place, c.in_ok-place.name) = grind arith in
    let found : c.find.result ≡ Some c.in_ok-dev.dev = grind arith in
    rw (named, c.answered.ensures.value)
    (by_count _ _ _ _ _ c.write_attribute_at-written.result
    (serves_write_attribute _ _ _ _ _ _ _ _ c.write_attribute_at-written.result (sym found ∙ c.find.ensures.value) told))
