use Rattle.std.proofs.Common.{arith}
use Rattle.iiod_client.proofs.PrintedLaws.{elements_more}
use Rattle.iiod_client.proofs.printing.push_elements.Goals as goal

pub loop-k-preserved : goal.loop-k-preserved
loop-k-preserved c =
    elements_more c.args.ty.now c.args.bytes.now c.loop-k.k (omega (arith, c.loop-k.auto.k)) c.args.out.now.items c.loop-k.out.items c.push.new.self.items
    c.push_element-in-loop-k.new.out.items
    c.loop-k.invariant c.in_ok-push.ensures.items c.in_ok-push_element-2.ensures
