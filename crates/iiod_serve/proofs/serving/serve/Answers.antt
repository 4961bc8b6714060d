use Rattle.std.proofs.Common.{◌≡◌, ◌∙◌, ℕ, IfSome, inr, length, refl, subst}
use Rattle.iio_script.specs.Ends.{HasStatus}
use Rattle.iiod_serve.specs.Reading.{served_of}
use Rattle.iiod_serve.specs.Served.{ServesLines, as_run}
use Rattle.iiod_serve.specs.Usage.{IsUsage, PrintsUsage}
use Rattle.iiod_serve.proofs.ServeLaws.{as_ended, ends_told, stops_door, usage_faults}
use Rattle.iiod_serve.proofs.serving.serve.Goals as goal

pub returns-in_default-clause-lines : goal.returns-in_default-clause-lines
returns-in_default-clause-lines g c = λ address period words. absurd (c.in_default.ensures.none refl address period words)

pub returns-in_default-clause-status : goal.returns-in_default-clause-status
returns-in_default-clause-status g c = λ address period words. absurd (c.in_default.ensures.none refl address period words)

pub returns-in_default-clause-usage : goal.returns-in_default-clause-usage
returns-in_default-clause-usage g c = λ other. as_ended IsUsage c.print_usage.result c.of_run.result c.of_run.ensures c.print_usage.ensures.status

pub returns-in_default-clause-usage_line : goal.returns-in_default-clause-usage_line
returns-in_default-clause-usage_line g c = λ other.
    as_ended (λ st. IfSome (g.K.Sink.written c.args.output.now) (λ written. PrintsUsage written st (g.K.Sink.written c.print_usage.new.output)))
    c.print_usage.result c.of_run.result c.of_run.ensures c.print_usage.ensures.line

pub returns-in_default-clause-faults : goal.returns-in_default-clause-faults
returns-in_default-clause-faults g c =
    usage_faults _ c.print_usage.result c.of_run.result c.args.input.now c.args.output.now c.print_usage.new.output
    c.of_run.ensures c.print_usage.ensures.status c.print_usage.ensures.write_fault c.print_usage.ensures.counted c.print_usage.ensures.silent

pub returns-in_default-clause-door : goal.returns-in_default-clause-door
returns-in_default-clause-door g c =
    stops_door g.D.Door.left g.D.Door.faults c.print_usage.result c.of_run.result c.args.door.now c.of_run.ensures (inr c.print_usage.ensures.status)

pub returns-clause-lines : goal.returns-clause-lines
returns-clause-lines g c = λ address period words.
    let many : c.in-Ok.count ≡ length c.args.drivers.items = c.in-Ok.ensures.1 ∙ c.len.ensures ∙ c.args.drivers.ok.0 in
    subst (λ (n : ℕ). IfSome (g.S.Source.left c.args.input.now) (λ left. IfSome (g.K.Sink.written c.args.output.now)
    (λ written. ServesLines (served_of n left) written c.serve_input.result (g.K.Sink.written c.serve_input.new.output)))) many c.serve_input.ensures.lines

pub returns-clause-status : goal.returns-clause-status
returns-clause-status g c = λ address period words.
    let many : c.in-Ok.count ≡ length c.args.drivers.items = c.in-Ok.ensures.1 ∙ c.len.ensures ∙ c.args.drivers.ok.0 in
    subst (λ (n : ℕ). IfSome (g.S.Source.left c.args.input.now) (λ left. HasStatus (served_of n left) (as_run c.serve_input.result))) many
    c.serve_input.ensures.status

pub returns-clause-complete : goal.returns-clause-complete
returns-clause-complete g c = λ address period words reads writes doors.
    let many : c.in-Ok.count ≡ length c.args.drivers.items = c.in-Ok.ensures.1 ∙ c.len.ensures ∙ c.args.drivers.ok.0 in
    ends_told g.D.Door.left g.D.Door.faults (served_of (length c.args.drivers.items)) (g.S.Source.left c.args.input.now) c.serve_input.result
    (g.S.Source.faults c.args.input.now) (g.S.Source.faults c.serve_input.new.input) (g.K.Sink.faults c.args.output.now)
    (g.K.Sink.faults c.serve_input.new.output) c.args.door.now c.serve_input.new.door
    (subst (λ (n : ℕ). IfSome (g.S.Source.left c.args.input.now) (λ left. HasStatus (served_of n left) (as_run c.serve_input.result))) many
    c.serve_input.ensures.status)
    c.serve_input.ensures.words c.serve_input.ensures.faults.read_fault c.serve_input.ensures.faults.write_fault c.serve_input.ensures.door reads writes doors
