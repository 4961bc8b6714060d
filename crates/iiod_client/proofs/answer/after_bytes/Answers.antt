use Rattle.std.proofs.Common.{arith}
use Rattle.iiod_client.proofs.Stands.{bytes_done}
use Rattle.iiod_client.proofs.answer.after_bytes.Goals as goal

pub returns : goal.returns
returns c = λ mask channels.
    bytes_done (record { bytes = c.args.asked; mask = mask; channels = channels; size = c.args.size }) c.args.left c.args.body.now c.after_block.result
    (omega (arith, c.if-left-gt0.false)) (c.after_block.ensures mask channels)
