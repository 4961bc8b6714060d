use Rattle.std.proofs.Common.{◌≡◌, ◌≤◌, ◌∙◌, ap, subst, None, IfNone, IfSome, inl}
use Rattle.iio_base.specs.Faults.{Rose}
use Rattle.iio_history.specs.Outcome.{only_ending}
use Rattle.iio_history.specs.Script.{Finished}
use Rattle.iio_script.specs.Ends.{HasStatus, ShowsFaults, views_of}
use Rattle.iio_script.specs.Plays.{TakesFor}
use Rattle.iiod_serve.specs.Reading.{served_of}
use Rattle.iiod_serve.specs.Served.{IsServed, ServesLines, as_run}
use Rattle.iiod_serve.proofs.ServeLaws.{as_ended, as_memory, as_write_fault, read_failed, read_lines, read_near, read_status, stops_door, stops_failed, stops_lines, stops_words}
use Rattle.iiod_serve.proofs.serving.serve_input.Goals as goal

pub returns-in-Ok-clause-lines : goal.returns-in-Ok-clause-lines
returns-in-Ok-clause-lines g c =
    read_lines c.args.count c.in-Ok.desc c.serve_description.result (g.S.Source.left c.args.input.now) (g.K.Sink.written c.args.output.now)
    (g.K.Sink.written c.serve_description.new.output) c.in-Ok.ensures.described
    (subst (λ o. IfSome (g.K.Sink.written o)
    (λ written. ServesLines (only_ending Finished) written c.serve_description.result (g.K.Sink.written c.serve_description.new.output)))
    c.in-Ok.ensures.unwritten c.serve_description.ensures.lines)

pub returns-in-Ok-clause-status : goal.returns-in-Ok-clause-status
returns-in-Ok-clause-status g c =
    read_status c.args.count c.in-Ok.desc c.serve_description.result (g.S.Source.left c.args.input.now) c.in-Ok.ensures.described
    c.serve_description.ensures.status

pub returns-in-Ok-clause-near : goal.returns-in-Ok-clause-near
returns-in-Ok-clause-near g c =
    read_near c.serve_description.result (g.S.Source.left c.args.input.now) (g.S.Source.left c.read_description.new.input) c.serve_description.ensures.status

pub returns-in-Ok-clause-nothing : goal.returns-in-Ok-clause-nothing
returns-in-Ok-clause-nothing g c = λ is. absurd (read_failed c.serve_description.result c.serve_description.ensures.status (ap as_run is))

pub returns-in-Ok-clause-words : goal.returns-in-Ok-clause-words
returns-in-Ok-clause-words g c = λ is. subst IsServed is c.serve_description.ensures.status

pub returns-in-Ok-clause-faults : goal.returns-in-Ok-clause-faults
returns-in-Ok-clause-faults g c =
    let same = c.in-Ok.ensures.unwritten in
    let st = c.serve_description.result in
    let new = c.serve_description.new.output in
    record {
      read_fault = λ is. absurd (read_failed st c.serve_description.ensures.status is);
      write_fault = λ is. subst (λ o. Rose (g.K.Sink.faults o) (g.K.Sink.faults new)) same (c.serve_description.ensures.write_fault (as_write_fault st is));
      memory = λ is. (c.in-Ok.ensures.steady, c.serve_description.ensures.memory (as_memory st is) ∙ ap g.K.Sink.faults same);
      counted = (c.read_description.ensures.faults.counted.0, subst (λ o. g.K.Sink.faults o ≤ g.K.Sink.faults new) same c.serve_description.ensures.counted);
      silent = (
        c.read_description.ensures.faults.silent.0,
        subst (λ o. IfNone (g.K.Sink.written o) (g.K.Sink.written new ≡ None)) same
            c.serve_description.ensures.silent,
      );
    }

pub returns-in-Err-clause-lines : goal.returns-in-Err-clause-lines
returns-in-Err-clause-lines g c =
    stops_lines (served_of c.args.count) (g.S.Source.left c.args.input.now) (g.K.Sink.written c.args.output.now) c.in-Err.status c.of_run.result
    (g.K.Sink.written c.read_description.new.output) c.of_run.ensures c.in-Err.ensures.stopped c.in-Err.ensures.lines

pub returns-in-Err-clause-status : goal.returns-in-Err-clause-status
returns-in-Err-clause-status g c =
    as_ended (λ st. IfSome (g.S.Source.left c.args.input.now) (λ left. HasStatus (served_of c.args.count left) st)) c.in-Err.status c.of_run.result
    c.of_run.ensures c.in-Err.ensures.status

pub returns-in-Err-clause-near : goal.returns-in-Err-clause-near
returns-in-Err-clause-near g c =
    as_ended (λ st. IfSome (g.S.Source.left c.args.input.now) (λ left. TakesFor st left (g.S.Source.left c.read_description.new.input))) c.in-Err.status
    c.of_run.result c.of_run.ensures c.in-Err.ensures.near

pub returns-in-Err-clause-nothing : goal.returns-in-Err-clause-nothing
returns-in-Err-clause-nothing g c = λ is. c.in-Err.ensures.nothing (stops_failed c.in-Err.status c.of_run.result c.of_run.ensures is)

pub returns-in-Err-clause-words : goal.returns-in-Err-clause-words
returns-in-Err-clause-words g c = stops_words c.in-Err.status c.of_run.result c.of_run.ensures c.in-Err.ensures.stopped

pub returns-in-Err-clause-faults : goal.returns-in-Err-clause-faults
returns-in-Err-clause-faults g c =
    as_ended (λ st. ShowsFaults (views_of g.S.Source.left g.S.Source.faults g.K.Sink.written g.K.Sink.faults) st c.args.input.now
    c.read_description.new.input c.args.output.now c.read_description.new.output)
    c.in-Err.status c.of_run.result c.of_run.ensures c.in-Err.ensures.faults

pub returns-in-Err-clause-door : goal.returns-in-Err-clause-door
returns-in-Err-clause-door g c =
    stops_door g.D.Door.left g.D.Door.faults c.in-Err.status c.of_run.result c.args.door.now c.of_run.ensures (inl c.in-Err.ensures.stopped)
