use Rattle.std.proofs.Common.{[]}
use Rattle.iio_script.proofs.OutcomeLaws.{each_told, run_answers, run_lines, run_near, run_status, run_writes, runs_nothing}
use Rattle.iio_script.proofs.script.play.Goals as goal

pub returns-in_default-clause-transcript : goal.returns-in_default-clause-transcript
returns-in_default-clause-transcript g c =
    each_told _ _ (g.S.Source.left c.args.input.now)
    (λ input run. run_writes _ input _ (g.S.Source.left c.args.input.now) (g.K.Sink.written c.args.output.now) (g.K.Sink.written c.args.output.now) run)
    (runs_nothing _ (g.S.Source.left c.args.input.now) (g.K.Sink.written c.args.output.now))

pub returns-in_default-clause-taken : goal.returns-in_default-clause-taken
returns-in_default-clause-taken g c =
    each_told _ _ (g.S.Source.left c.args.input.now) (λ input run. run.takes)
    (runs_nothing [] (g.S.Source.left c.args.input.now) (g.K.Sink.written c.args.output.now))

pub returns-clause-transcript : goal.returns-clause-transcript
returns-clause-transcript g c =
    each_told _ _ (g.S.Source.left c.args.input.now)
    (λ input run. run_writes _ input c.play_input.result (g.S.Source.left c.play_input.new.input) (g.K.Sink.written c.args.output.now)
    (g.K.Sink.written c.play_input.new.output) run) c.play_input.ensures.runs

pub returns-clause-status : goal.returns-clause-status
returns-clause-status g c =
    each_told _ _ (g.S.Source.left c.args.input.now)
    (λ input run. run_status _ input c.play_input.result (g.S.Source.left c.play_input.new.input) (g.K.Sink.written c.args.output.now)
    (g.K.Sink.written c.play_input.new.output) run) c.play_input.ensures.runs

pub returns-clause-taken : goal.returns-clause-taken
returns-clause-taken g c =
    each_told _ _ (g.S.Source.left c.args.input.now) (λ input run. run.takes) c.play_input.ensures.runs

pub returns-clause-near : goal.returns-clause-near
returns-clause-near g c =
    each_told _ _ (g.S.Source.left c.args.input.now)
    (λ input run. run_near _ input c.play_input.result (g.S.Source.left c.play_input.new.input) (g.K.Sink.written c.args.output.now)
    (g.K.Sink.written c.play_input.new.output) run) c.play_input.ensures.runs

pub returns-clause-whole_lines : goal.returns-clause-whole_lines
returns-clause-whole_lines g c =
    λ is. each_told _ _ (g.S.Source.left c.args.input.now)
    (λ input run. run_lines _ input c.play_input.result (g.S.Source.left c.play_input.new.input) (g.K.Sink.written c.args.output.now)
    (g.K.Sink.written c.play_input.new.output) is run) c.play_input.ensures.runs

pub returns-in_default-clause-answered : goal.returns-in_default-clause-answered
returns-in_default-clause-answered g c =
    each_told _ _ (g.S.Source.left c.args.input.now)
    (λ input run. run_answers _ input _ (g.S.Source.left c.args.input.now) (g.K.Sink.written c.args.output.now) (g.K.Sink.written c.args.output.now) run)
    (runs_nothing _ (g.S.Source.left c.args.input.now) (g.K.Sink.written c.args.output.now))

pub returns-clause-answered : goal.returns-clause-answered
returns-clause-answered g c =
    each_told _ _ (g.S.Source.left c.args.input.now)
    (λ input run. run_answers _ input c.play_input.result (g.S.Source.left c.play_input.new.input) (g.K.Sink.written c.args.output.now)
    (g.K.Sink.written c.play_input.new.output) run) c.play_input.ensures.runs
