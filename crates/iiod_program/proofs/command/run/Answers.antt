use Rattle.std.proofs.Common.{◌≡◌, ℕ, length, refl, subst, sym, ◌∙◌}
use Rattle.std.proofs.lemmas.List.{length-map}
use Rattle.iio_history.specs.Outcome.{outcome_of}
use Rattle.iio_worlds.specs.Solo.{AreAlike, IsRefusedBeside, solo_outcome_of}
use Rattle.iio_gen.specs.Summary.{EndsGen, summarized}
use Rattle.iio_script.specs.Ends.{views_of}
use Rattle.iiod_program.specs.Does.{PrintsLayout, streams_of}
use Rattle.iiod_program.specs.Layout.{layout_of}
use Rattle.iiod_program.specs.Request.{Play, Solo, Layout, Gen, Asks}
use Rattle.iiod_program.specs.View.{request_view}
use Rattle.iiod_program.proofs.EndLaws.{completes_told, does_asked, each_input, gen_completes}
use Rattle.iiod_program.proofs.command.run.Goals as goal

pub returns-in-Play-clause-does : goal.returns-in-Play-clause-does
returns-in-Play-clause-does g c =
    does_asked (views_of g.S.Source.left g.S.Source.faults g.K.Sink.written g.K.Sink.faults) c.args.words.now Play _ c.play.result
    (streams_of c.args.input.now c.args.output.now) (streams_of c.play.new.input c.play.new.output)
    (subst (λ r. Asks c.args.words.now (request_view r)) c.in-Play.is c.request_of.ensures) (record {
      transcript = c.play.ensures.transcript;
      complete =
          λ reads writes. completes_told (outcome_of _) _ _ _ _ _ _ _ _ c.play.ensures.transcript c.play.ensures.faults.read_fault
          c.play.ensures.faults.write_fault reads writes;
      status = c.play.ensures.status;
      words = c.play.ensures.words;
      taken = c.play.ensures.taken;
      near = c.play.ensures.near;
      whole_lines = c.play.ensures.whole_lines;
      answered = c.play.ensures.answered;
    })

pub returns-in-Solo-clause-does : goal.returns-in-Solo-clause-does
returns-in-Solo-clause-does g c =
    does_asked (views_of g.S.Source.left g.S.Source.faults g.K.Sink.written g.K.Sink.faults) c.args.words.now (Solo c.in-Solo.name.now) _ c.solo.result
    (streams_of c.args.input.now c.args.output.now) (streams_of c.solo.new.input c.solo.new.output)
    (subst (λ r. Asks c.args.words.now (request_view r)) c.in-Solo.is c.request_of.ensures) (record {
      alike = each_input (λ xs. AreAlike c.in-Solo.name.now _ xs) (g.S.Source.left c.args.input.now) (λ xs. c.solo_law.ensures.alike c.in-Solo.name.now _ xs);
      beside =
          each_input (λ xs. IsRefusedBeside c.in-Solo.name.now _ xs) (g.S.Source.left c.args.input.now)
          (λ xs. c.solo_law.ensures.offender c.in-Solo.name.now _ xs);
      worlds = c.solo.ensures.worlds;
      complete =
          λ reads writes. completes_told (λ xs. solo_outcome_of c.in-Solo.name.now _ xs) _ _ _ _ _ _ _ _ c.solo.ensures.worlds c.solo.ensures.faults.read_fault
          c.solo.ensures.faults.write_fault reads writes;
      status = c.solo.ensures.status;
      words = c.solo.ensures.words;
      taken = c.solo.ensures.taken;
      nothing = c.solo.ensures.nothing;
    })

pub returns-in-Gen-clause-does : goal.returns-in-Gen-clause-does
returns-in-Gen-clause-does g c =
    does_asked (views_of g.S.Source.left g.S.Source.faults g.K.Sink.written g.K.Sink.faults) c.args.words.now (Gen c.in-Gen.n) _ c.gen_.result
    (streams_of c.args.input.now c.args.output.now) (streams_of c.args.input.now c.gen_.new.output)
    (subst (λ r. Asks c.args.words.now (request_view r)) c.in-Gen.is c.request_of.ensures) (record {
      lines = c.gen_.ensures.lines;
      complete =
          λ writes. gen_completes (summarized c.in-Gen.n) (g.K.Sink.written c.args.output.now) c.gen_.result (g.K.Sink.written c.gen_.new.output) _ _
          c.gen_.ensures.status c.gen_.ensures.lines c.gen_.ensures.write_fault writes;
      status = c.gen_.ensures.status;
      words = λ is. subst EndsGen is c.gen_.ensures.status;
      unread = refl;
    })

pub returns-in-Ok-clause-does : goal.returns-in-Ok-clause-does
returns-in-Ok-clause-does g c =
    let many : c.in-Ok.count ≡ length c.args.drivers.items = c.in-Ok.ensures.1 ∙ c.len.ensures ∙ c.args.drivers.ok.0 in
    does_asked (views_of g.S.Source.left g.S.Source.faults g.K.Sink.written g.K.Sink.faults) c.args.words.now
    (Layout c.in-Layout.device.now c.in-Layout.mask.now) _
    c.layout.result (streams_of c.args.input.now c.args.output.now) (streams_of c.layout.new.input c.layout.new.output)
    (subst (λ r. Asks c.args.words.now (request_view r)) c.in-Layout.is c.request_of.ensures)
    (subst (λ (n : ℕ). PrintsLayout (views_of g.S.Source.left g.S.Source.faults g.K.Sink.written g.K.Sink.faults) n c.in-Layout.device.now c.in-Layout.mask.now
    c.layout.result (streams_of c.args.input.now c.args.output.now) (streams_of c.layout.new.input c.layout.new.output))
    (many ∙ sym (length-map c.args.drivers.items _)) (record {
      lines = c.layout.ensures.lines;
      complete =
          λ reads writes. completes_told (λ left. layout_of c.in-Ok.count left c.in-Layout.device.now c.in-Layout.mask.now) _ _ _ _ _ _ _ _
          c.layout.ensures.lines c.layout.ensures.faults.read_fault c.layout.ensures.faults.write_fault reads writes;
      status = c.layout.ensures.status;
      words = c.layout.ensures.words;
      taken = c.layout.ensures.taken;
      near = c.layout.ensures.near;
      nothing = c.layout.ensures.nothing;
    }))
