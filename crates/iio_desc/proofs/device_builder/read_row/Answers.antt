use Rattle.std.proofs.Common.{◌≡◌, ◌∷◌, Some, true, sym, ◌∙◌, rules, length, vec_len, arith}
use Rattle.std.proofs.lemmas.Grind.{common_steps}
use Rattle.std.proofs.lemmas.Int.{to_z-of_z}
use mir.Val.{SFits}
use mir.Syntax.{w64}
use Rattle.iio_text.specs.Numbers.{int_of}
use Rattle.iio_text.specs.Words.{words_of, is_space, IsFirstWord}
use Rattle.iio_desc.specs.DeviceLines.{rises}
use Rattle.iio_desc.proofs.RefusalLemmas.{ensured}
use Rattle.iio_desc.proofs.RowLemmas.{row_of-read}
use Rattle.iio_desc.proofs.device_builder.read_row.Goals as goal

pub returns-clause-ok : goal.returns-clause-ok
returns-clause-ok c =
    let m = c.in_ok-moment-2.moment in
    let read : int_of c.in_ok-moment.moment.now ≡ Some m = sym c.read_int.ensures.value ∙ c.in_ok-moment-2.ensures.ok_part in
    let fits : SFits w64 m = search rules in
    let told : c.rises.result ≡ rises c.args.moments.now m = simp to_z-of_z at c.rises.ensures in
    let risen : rises c.args.moments.now m ≡ true = sym told ∙ ensured c.rises.result _ _ _ c.ensure.ensures c.in_ok-ensure.was in
    let first : IsFirstWord is_space c.args.words.now c.in_ok-moment.moment.now c.in_ok-moment.rest.now =
    rw c.in_ok-moment.ensures.ok_part at c.next_word.ensures.found in
    let parted : words_of is_space c.args.words.now ≡ c.in_ok-moment.moment.now ∷ words_of is_space c.in_ok-moment.rest.now = first.words in
    let len : vec_len c.args.values.now ≡ length c.args.values.now.items = omega (arith, c.args.values.now.ok.0) in
    simp to_z-of_z (rw len (row_of-read c.args.moments.now _ _ _ m c.args.values.now.items _ parted read risen c.in_ok-push_ints.ensures.ok))

pub returns-in_err-moment-clause-before : goal.returns-in_err-moment-clause-before
returns-in_err-moment-clause-before c = grind (arith, common_steps)

pub returns-in_err-moment-2-clause-before : goal.returns-in_err-moment-2-clause-before
returns-in_err-moment-2-clause-before c = grind (arith, common_steps)

pub returns-in_err-ensure-clause-before : goal.returns-in_err-ensure-clause-before
returns-in_err-ensure-clause-before c = grind (arith, common_steps)
