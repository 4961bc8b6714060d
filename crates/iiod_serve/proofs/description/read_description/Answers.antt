use Rattle.std.proofs.Common.{[]}
use Rattle.iiod_serve.specs.Reading.{ended, read_head, served_of}
use Rattle.iio_script.specs.Told.{told}
use Rattle.iiod_serve.proofs.HeadLaws.{head_near, head_says, head_status, head_writes, no_read_fault, taken_none, whatever, writes_failed, writes_none}
use Rattle.iiod_serve.proofs.description.read_description.Goals as goal

pub returns-in_default-clause-lines : goal.returns-in_default-clause-lines
returns-in_default-clause-lines g c = writes_none (served_of c.args.drivers) (g.S.Source.left c.args.input.now) (g.K.Sink.written c.args.output.now)

pub returns-in_default-clause-taken : goal.returns-in_default-clause-taken
returns-in_default-clause-taken g c = taken_none (g.S.Source.left c.args.input.now)

pub returns-in-Ok-open-clause-described : goal.returns-in-Ok-open-clause-described
returns-in-Ok-open-clause-described g c =
    head_says c.args.drivers c.in-Ok-open.opening c.described.result c.open.new.lines (g.S.Source.left c.args.input.now) (g.S.Source.left c.open.new.source)
    c.described.ensures.described c.in-Ok-open.ensures.opening

pub returns-in-Ok-open-clause-steady : goal.returns-in-Ok-open-clause-steady
returns-in-Ok-open-clause-steady g c = whatever _ c.described.result c.in-Ok-open.ensures.steady

pub returns-in-Ok-open-clause-lines : goal.returns-in-Ok-open-clause-lines
returns-in-Ok-open-clause-lines g c =
    head_writes c.args.drivers c.in-Ok-open.opening (ended c.described.result) c.open.new.lines (g.S.Source.left c.args.input.now)
    (g.S.Source.left c.open.new.source) (g.K.Sink.written c.args.output.now) (g.K.Sink.written c.described.new.output) c.described.ensures.prints
    c.in-Ok-open.ensures.opening

pub returns-in-Ok-open-clause-status : goal.returns-in-Ok-open-clause-status
returns-in-Ok-open-clause-status g c =
    head_status c.args.drivers c.in-Ok-open.opening (ended c.described.result) c.open.new.lines (g.S.Source.left c.args.input.now)
    (g.S.Source.left c.open.new.source) (g.K.Sink.written c.args.output.now) (g.K.Sink.written c.described.new.output) c.described.ensures.prints
    c.in-Ok-open.ensures.opening

pub returns-in-Ok-open-clause-near : goal.returns-in-Ok-open-clause-near
returns-in-Ok-open-clause-near g c =
    head_near c.args.drivers c.in-Ok-open.opening (ended c.described.result) c.open.new.lines (g.S.Source.left c.args.input.now)
    (g.S.Source.left c.open.new.source) (g.K.Sink.written c.args.output.now) (g.K.Sink.written c.described.new.output) c.described.ensures.prints
    c.in-Ok-open.ensures.opening

pub returns-in-Ok-open-clause-nothing : goal.returns-in-Ok-open-clause-nothing
returns-in-Ok-open-clause-nothing g c =
    λ is. let run =
    c.described.ensures.prints 0 [] in absurd (no_read_fault (read_head (told 0 [] c.in-Ok-open.opening)) (ended c.described.result) run.0 run.2 is)

pub returns-in-Ok-open-clause-faults : goal.returns-in-Ok-open-clause-faults
returns-in-Ok-open-clause-faults g c =
    let run = c.described.ensures.prints 0 [] in
    record {
      read_fault = λ is. absurd (no_read_fault (read_head (told 0 [] c.in-Ok-open.opening)) (ended c.described.result) run.0 run.2 is);
      write_fault = c.described.ensures.write_fault;
      memory = λ is. (c.in-Ok-open.ensures.steady, c.described.ensures.memory is);
      counted = (c.open.ensures.counted, c.described.ensures.counted);
      silent = (c.open.ensures.silent, c.described.ensures.silent);
    }

pub returns-in-Err-Failed-clause-lines : goal.returns-in-Err-Failed-clause-lines
returns-in-Err-Failed-clause-lines g c = writes_failed (served_of c.args.drivers) (g.S.Source.left c.args.input.now) (g.K.Sink.written c.args.output.now)

pub returns-clause-lines : goal.returns-clause-lines
returns-clause-lines g c = writes_none (served_of c.args.drivers) (g.S.Source.left c.args.input.now) (g.K.Sink.written c.args.output.now)
