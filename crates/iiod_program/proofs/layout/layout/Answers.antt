use Rattle.std.proofs.Common.{◌≡◌, ◌≤◌, ◌∙◌, ap, subst, None, IfNone}
use Rattle.iio_base.specs.Faults.{Rose}
use Rattle.iiod_serve.proofs.HeadLaws.{no_read_fault}
use Rattle.iiod_program.specs.Layout.{laid_out}
use Rattle.iiod_program.proofs.LayoutLaws.{PrintsLaid, lay_near, lay_status, lay_writes, no_usage, stops_near, stops_status, stops_words, stops_writes}
use Rattle.iiod_program.proofs.layout.layout.Goals as goal

pub returns-in-Ok-clause-lines : goal.returns-in-Ok-clause-lines
returns-in-Ok-clause-lines g c =
    lay_writes c.args.drivers c.in-Ok.desc c.args.device.now c.args.mask.now c.lay_device.result (g.S.Source.left c.args.input.now)
    (g.K.Sink.written c.args.output.now) (g.K.Sink.written c.lay_device.new.output) c.in-Ok.ensures.described
    (subst (λ o. PrintsLaid c.in-Ok.desc c.args.device.now c.args.mask.now c.lay_device.result (g.K.Sink.written o) (g.K.Sink.written c.lay_device.new.output))
    c.in-Ok.ensures.unwritten c.lay_device.ensures.prints)

pub returns-in-Ok-clause-status : goal.returns-in-Ok-clause-status
returns-in-Ok-clause-status g c =
    lay_status c.args.drivers c.in-Ok.desc c.args.device.now c.args.mask.now c.lay_device.result (g.S.Source.left c.args.input.now)
    (g.K.Sink.written c.read_description.new.output) (g.K.Sink.written c.lay_device.new.output)
    c.in-Ok.ensures.described c.lay_device.ensures.prints

pub returns-in-Ok-clause-near : goal.returns-in-Ok-clause-near
returns-in-Ok-clause-near g c =
    lay_near c.in-Ok.desc c.args.device.now c.args.mask.now c.lay_device.result (g.S.Source.left c.args.input.now)
    (g.S.Source.left c.read_description.new.input) (g.K.Sink.written c.read_description.new.output) (g.K.Sink.written c.lay_device.new.output)
    c.lay_device.ensures.prints

pub returns-in-Ok-clause-words : goal.returns-in-Ok-clause-words
returns-in-Ok-clause-words g c =
    λ is. let run = c.lay_device.ensures.prints in no_usage (laid_out c.in-Ok.desc c.args.device.now c.args.mask.now) c.lay_device.result run.0 run.2 is

pub returns-in-Ok-clause-nothing : goal.returns-in-Ok-clause-nothing
returns-in-Ok-clause-nothing g c =
    λ is. let run =
    c.lay_device.ensures.prints in absurd (no_read_fault (laid_out c.in-Ok.desc c.args.device.now c.args.mask.now) c.lay_device.result run.0 run.2 is)

pub returns-in-Ok-clause-faults : goal.returns-in-Ok-clause-faults
returns-in-Ok-clause-faults g c =
    let run = c.lay_device.ensures.prints in
    let same = c.in-Ok.ensures.unwritten in
    let new = c.lay_device.new.output in
    record {
      read_fault = λ is. absurd (no_read_fault (laid_out c.in-Ok.desc c.args.device.now c.args.mask.now) c.lay_device.result run.0 run.2 is);
      write_fault = λ is. subst (λ o. Rose (g.K.Sink.faults o) (g.K.Sink.faults new)) same (c.lay_device.ensures.write_fault is);
      memory = λ is. (c.in-Ok.ensures.steady, c.lay_device.ensures.memory is ∙ ap g.K.Sink.faults same);
      counted = (c.read_description.ensures.faults.counted.0, subst (λ o. g.K.Sink.faults o ≤ g.K.Sink.faults new) same c.lay_device.ensures.counted);
      silent =
          (c.read_description.ensures.faults.silent.0, subst (λ o. IfNone (g.K.Sink.written o) (g.K.Sink.written new ≡ None)) same c.lay_device.ensures.silent);
    }

pub returns-in-Err-clause-lines : goal.returns-in-Err-clause-lines
returns-in-Err-clause-lines g c =
    stops_writes c.args.drivers c.args.device.now c.args.mask.now c.in-Err.status (g.S.Source.left c.args.input.now) (g.K.Sink.written c.args.output.now)
    (g.K.Sink.written c.read_description.new.output) c.in-Err.ensures.stopped c.in-Err.ensures.lines

pub returns-in-Err-clause-status : goal.returns-in-Err-clause-status
returns-in-Err-clause-status g c =
    stops_status c.args.drivers c.args.device.now c.args.mask.now c.in-Err.status (g.S.Source.left c.args.input.now) c.in-Err.ensures.stopped
    c.in-Err.ensures.status

pub returns-in-Err-clause-near : goal.returns-in-Err-clause-near
returns-in-Err-clause-near g c =
    stops_near c.in-Err.status (g.S.Source.left c.args.input.now) (g.S.Source.left c.read_description.new.input) c.in-Err.ensures.near

pub returns-in-Err-clause-words : goal.returns-in-Err-clause-words
returns-in-Err-clause-words g c = stops_words c.in-Err.status c.in-Err.ensures.stopped
