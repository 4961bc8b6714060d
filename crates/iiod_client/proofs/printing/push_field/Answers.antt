use Rattle.std.proofs.Common.{◌+◌, ◌-◌, arith}
use Rattle.iiod_client.proofs.PrintedLaws.{field_more}
use Rattle.iiod_client.proofs.printing.push_field.Goals as goal

pub returns : goal.returns
returns c =
    field_more c.args.shape.now c.args.mask.bits c.args.scan.now c.args.c c.scan_type-ty.result c.place-from.result
    (c.place-from.result + c.size.result - c.place-from.result) c.args.out.now.items
    c.push.new.self.items c.push_name.new.out.items c.push-2.new.self.items c.push_elements.new.out.items
    c.scan_type-ty.ensures.value c.place-from.ensures.value (omega (arith, c.size.ensures.value)) c.in_ok-push.ensures.items c.in_ok-push_name.ensures
    c.in_ok-push-2.ensures.items c.in_ok-push_elements.ensures
