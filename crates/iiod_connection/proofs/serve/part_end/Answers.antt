use Rattle.std.proofs.Common.{◌≡◌, ◌-◌, ◌<◌, ◌≤◌, ◌∙◌, ap, arith, drop, length, length-drop}
use Rattle.std.specs.List.{position_or_len}
use Rattle.std.proofs.lemmas.List.{take_rest}
use Rattle.iio_text.specs.Lines.{is_line_end}
use Rattle.iiod_connection.proofs.PartLaws.{part_by_line}
use Rattle.iiod_connection.proofs.serve.part_end.Goals as goal

pub returns-then-lf-bytes-clause-part : goal.returns-then-lf-bytes-clause-part
returns-then-lf-bytes-clause-part c =
    let rest = drop c.args.from c.args.bytes.now in
    let size : length rest ≡ length c.args.bytes.now - c.args.from = length-drop c.args.from c.args.bytes.now in
    let place : c.line_len.result ≡ position_or_len is_line_end rest =
    c.line_len.ensures.value ∙ ap (position_or_len is_line_end) (take_rest c.args.bytes.now c.args.from) in
    let some : position_or_len is_line_end rest < length rest = omega (arith, size, place, c.requires, c.if-lf-bytes.true) in
    omega (arith, place, (part_by_line rest).0 some)

pub returns-else-lf-bytes-clause-part : goal.returns-else-lf-bytes-clause-part
returns-else-lf-bytes-clause-part c =
    let rest = drop c.args.from c.args.bytes.now in
    let size : length rest ≡ length c.args.bytes.now - c.args.from = length-drop c.args.from c.args.bytes.now in
    let place : c.line_len.result ≡ position_or_len is_line_end rest =
    c.line_len.ensures.value ∙ ap (position_or_len is_line_end) (take_rest c.args.bytes.now c.args.from) in
    let within : c.line_len.result ≤ length rest = rw (take_rest c.args.bytes.now c.args.from) at c.line_len.ensures.within in
    let none : length rest ≤ position_or_len is_line_end rest = omega (arith, size, place, c.requires, c.if-lf-bytes.false) in
    omega (arith, place, within, none, (part_by_line rest).1 none)
