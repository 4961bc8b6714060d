use Rattle.iio_io.proofs.Told.{silent_more}
use Rattle.iio_worlds.specs.Solo.{between}
use Rattle.iio_solo.proofs.BothLaws.{all_sent, failed_part, first_part, last_part, last_whole, left_part, line_part, on_err, on_ok}
use Rattle.iio_solo.proofs.write_both.Goals as goal

pub returns-in_err-write_whole-clause-part : goal.returns-in_err-write_whole-clause-part
returns-in_err-write_whole-clause-part g c =
    failed_part c.from_residual.result c.args.text.now between (g.K.Sink.written c.args.output.now) (g.K.Sink.written c.write_whole.new.sink)
    (first_part c.args.text.now between (g.K.Sink.written c.args.output.now) (g.K.Sink.written c.write_whole.new.sink) c.in_err-write_whole.ensures.part)

pub returns-in_err-write_whole-2-clause-part : goal.returns-in_err-write_whole-2-clause-part
returns-in_err-write_whole-2-clause-part g c =
    failed_part c.from_residual-in_err-write_whole-2.result c.args.text.now between (g.K.Sink.written c.args.output.now)
    (g.K.Sink.written c.write_whole-2.new.sink)
    (line_part c.args.text.now between (g.K.Sink.written c.args.output.now) (g.K.Sink.written c.write_whole.new.sink)
    (g.K.Sink.written c.write_whole-2.new.sink)
    c.in_ok-write_whole.ensures.whole c.in_err-write_whole-2.ensures.part)

pub returns-clause-part : goal.returns-clause-part
returns-clause-part g c =
    on_err c.write_whole-3.result
    (λ failed. left_part c.args.text.now between (g.K.Sink.written c.args.output.now) (g.K.Sink.written c.write_whole-3.new.sink)
    (last_part c.args.text.now between (g.K.Sink.written c.args.output.now) (g.K.Sink.written c.write_whole.new.sink)
    (g.K.Sink.written c.write_whole-2.new.sink)
    (g.K.Sink.written c.write_whole-3.new.sink) c.in_ok-write_whole.ensures.whole c.in_ok-write_whole-2.ensures.whole failed)) c.write_whole-3.ensures.part

pub returns-clause-whole : goal.returns-clause-whole
returns-clause-whole g c =
    on_ok c.write_whole-3.result
    (λ sent. all_sent c.args.text.now between (g.K.Sink.written c.args.output.now) (g.K.Sink.written c.write_whole-3.new.sink)
    (last_whole c.args.text.now between (g.K.Sink.written c.args.output.now) (g.K.Sink.written c.write_whole.new.sink)
    (g.K.Sink.written c.write_whole-2.new.sink)
    (g.K.Sink.written c.write_whole-3.new.sink) c.in_ok-write_whole.ensures.whole c.in_ok-write_whole-2.ensures.whole sent)) c.write_whole-3.ensures.whole

pub returns-in_err-write_whole-2-clause-silent : goal.returns-in_err-write_whole-2-clause-silent
returns-in_err-write_whole-2-clause-silent g c =
    silent_more (g.K.Sink.written c.args.output.now) (g.K.Sink.written c.write_whole.new.sink) (g.K.Sink.written c.write_whole-2.new.sink)
    c.write_whole.ensures.silent c.write_whole-2.ensures.silent

pub returns-clause-silent : goal.returns-clause-silent
returns-clause-silent g c =
    silent_more (g.K.Sink.written c.args.output.now) (g.K.Sink.written c.write_whole-2.new.sink) (g.K.Sink.written c.write_whole-3.new.sink)
    (silent_more (g.K.Sink.written c.args.output.now) (g.K.Sink.written c.write_whole.new.sink) (g.K.Sink.written c.write_whole-2.new.sink)
    c.write_whole.ensures.silent c.write_whole-2.ensures.silent) c.write_whole-3.ensures.silent
