use Rattle.std.proofs.Common.{◌++◌, ◌∙◌, ap}
use Rattle.std.specs.Fmt.{decimal}
use Rattle.iio_scan_type.specs.Format.{size_of}
use Rattle.iio_scan_type.specs.Text.{type_text}
use Rattle.iiod_program.proofs.PlacingLaws.{line_parts}
use Rattle.iiod_program.proofs.placing.push_channel.Goals as goal

pub returns : goal.returns
returns c =
    let place = c.in_ok-push_digits.ensures.digits ∙ ap (λ n. c.push.new.self.items ++ decimal n) c.place.ensures.value in
    let size =
    c.in_ok-push_digits-2.ensures.digits ∙ ap (λ n. c.push-2.new.self.items ++ decimal n) (c.size.ensures.value ∙ ap size_of c.scan_type-ty.ensures.value) in
    let type = c.in_ok-extend_from_slice.ensures.items
    ∙ ap (λ bytes. c.push-3.new.self.items ++ bytes) (c.as_bytes.ensures.value ∙ c.in_ok-print_type.ensures ∙ ap type_text c.scan_type-ty.ensures.value) in
    line_parts c.args.out.now.items c.push_name.new.out.items c.push.new.self.items c.push_digits.new.out.items c.push-2.new.self.items
    c.push_digits-2.new.out.items
    c.push-3.new.self.items c.extend_from_slice.new.self.items c.push-4.new.self.items _ _ _ _
    c.in_ok-push_name.ensures c.in_ok-push.ensures.items place c.in_ok-push-2.ensures.items size c.in_ok-push-3.ensures.items type c.in_ok-push-4.ensures.items
