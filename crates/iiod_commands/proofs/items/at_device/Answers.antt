use Rattle.std.proofs.Common.{inl, inr, refl, rules}
use Rattle.std.specs.Option.{option_copied}
use Rattle.iiod_grammar.specs.View.{command_view, place_view}
use Rattle.iiod_commands.specs.Client.{client_of}
use Rattle.iiod_commands.proofs.AnswerLaws.{by_event, by_no, by_text, by_zero, event_fits, event_formed, serves_short, text_fits, text_formed, trigger_fits, trigger_formed}
use Rattle.iiod_commands.proofs.AttributeLaws.{serves_read_attribute}
use Rattle.iiod_commands.proofs.ServeLaws.{serves_close, serves_ev_close, serves_ev_open, serves_ev_read, serves_get_trigger, serves_open, serves_remask, serves_set_buffers, serves_set_trigger, serves_unknown, short_at}
use Rattle.iiod_commands.proofs.items.at_device.Goals as goal

pub returns-in-None-clause-served : goal.returns-in-None-clause-served
returns-in-None-clause-served g c = by_no _ _ _ _ _ (serves_unknown _ _ (command_view c.args.command.now) (rw c.in-None.is at c.requires.at))

pub returns-in-Open-clause-served : goal.returns-in-Open-clause-served
returns-in-Open-clause-served g c =
    let here = rw (c.in-Some.is, c.in-Open.is) at c.requires.at in
    rw (c.in-Open.is, c.answered.ensures.value)
    (by_zero _ _ _ _ c.open_at.result
    (serves_open _ _ _ _ _ _ _ c.in-Some.dev c.open_at.result here c.open_at.ensures.told c.open_at.ensures.moves))

pub returns-in-Close-clause-served : goal.returns-in-Close-clause-served
returns-in-Close-clause-served g c =
    let here = rw (c.in-Some.is, c.in-Close.is) at c.requires.at in
    rw (c.in-Close.is, c.answered-in-Close.ensures.value)
    (by_zero _ _ _ _ c.close_at.result
    (serves_close _ _ _ _ c.in-Some.dev c.close_at.result here c.close_at.ensures.told c.close_at.ensures.none c.close_at.ensures.moves))

pub returns-in-Read-clause-served : goal.returns-in-Read-clause-served
returns-in-Read-clause-served g c =
    let here = rw (c.in-Some.is, c.in-Read.is) at c.requires.at in
    rw c.in-Read.is
    (by_text _ _ _ _ c.read_attribute_at.result c.read_attribute_at.ensures.text
    (serves_read_attribute _ _ _ _ _ _ c.in-Some.dev _ here c.read_attribute_at.ensures.told c.read_attribute_at.ensures.same
    c.read_attribute_at.ensures.traces
    (text_formed _ c.in-Read.dev.now (place_view c.in-Read.place) (option_copied c.in-Read.attr)
    c.read_attribute_at.result c.read_attribute_at.ensures.text)))

pub returns-in-Read-clause-fits : goal.returns-in-Read-clause-fits
returns-in-Read-clause-fits g c = text_fits c.read_attribute_at.result c.read_attribute_at.ensures.text

pub returns-in-GetTrig-clause-served : goal.returns-in-GetTrig-clause-served
returns-in-GetTrig-clause-served g c =
    let here = rw (c.in-Some.is, c.in-GetTrig.is) at c.requires.at in
    rw c.in-GetTrig.is (record {
      served = serves_get_trigger _ _ _ c.in-Some.dev _ here (c.get_trigger_at.ensures.told (client_of g.I.Iio.seen c.args.client.now))
          (trigger_formed _ c.in-GetTrig.dev.now c.get_trigger_at.result c.get_trigger_at.ensures.trigger);
      short = λ long. serves_short _ _ _ (short_at _) (refl, refl);
    })

pub returns-in-GetTrig-clause-fits : goal.returns-in-GetTrig-clause-fits
returns-in-GetTrig-clause-fits g c = trigger_fits c.get_trigger_at.result c.get_trigger_at.ensures.trigger

pub returns-in-SetTrig-clause-served : goal.returns-in-SetTrig-clause-served
returns-in-SetTrig-clause-served g c =
    let here = rw (c.in-Some.is, c.in-SetTrig.is) at c.requires.at in
    rw (c.in-SetTrig.is, c.answered-in-SetTrig.ensures.value)
    (by_zero _ _ _ _ c.set_trigger_at.result
    (serves_set_trigger _ _ _ _ _ c.in-Some.dev c.set_trigger_at.result here
    (c.set_trigger_at.ensures.told (client_of g.I.Iio.seen c.args.client.now))))

pub returns-in-SetBuffers-clause-served : goal.returns-in-SetBuffers-clause-served
returns-in-SetBuffers-clause-served g c =
    let here = rw (c.in-Some.is, c.in-SetBuffers.is) at c.requires.at in
    rw (c.in-SetBuffers.is, c.answered-in-SetBuffers.ensures.value)
    (by_zero _ _ _ _ c.set_buffers_at.result
    (serves_set_buffers _ _ _ _ _ _ c.in-Some.dev c.set_buffers_at.result here c.set_buffers_at.ensures.told c.set_buffers_at.ensures.alters
    (search rules)))

pub returns-in-Remask-clause-served : goal.returns-in-Remask-clause-served
returns-in-Remask-clause-served g c =
    let here = rw (c.in-Some.is, c.in-Remask.is) at c.requires.at in
    rw (c.in-Remask.is, c.answered-in-Remask.ensures.value)
    (by_zero _ _ _ _ c.remask_known.result
    (serves_remask _ _ _ _ _ c.in-Some.dev c.remask_known.result here c.remask_known.ensures.told c.remask_known.ensures.moves))

pub returns-in-EvOpen-clause-served : goal.returns-in-EvOpen-clause-served
returns-in-EvOpen-clause-served g c =
    let here = rw (c.in-Some.is, c.in-EvOpen.is) at c.requires.at in
    rw (c.in-EvOpen.is, c.answered-in-EvOpen.ensures.value)
    (by_zero _ _ _ _ c.ev_open_known.result
    (serves_ev_open _ _ _ _ c.in-Some.dev c.ev_open_known.result here c.ev_open_known.ensures.told c.ev_open_known.ensures.alters (search rules)))

pub returns-in-EvRead-clause-served : goal.returns-in-EvRead-clause-served
returns-in-EvRead-clause-served g c =
    let here = rw (c.in-Some.is, c.in-EvRead.is) at c.requires.at in
    rw c.in-EvRead.is
    (by_event _ _ _ _ c.ev_read_known.result c.ev_read_known.ensures.event
    (serves_ev_read _ _ _ _ c.in-Some.dev _ here c.ev_read_known.ensures.told
    (event_formed _ c.in-EvRead.dev.now c.ev_read_known.result c.ev_read_known.ensures.event)))

pub returns-in-EvRead-clause-fits : goal.returns-in-EvRead-clause-fits
returns-in-EvRead-clause-fits g c = event_fits c.ev_read_known.result c.ev_read_known.ensures.event

pub returns-in-EvClose-clause-served : goal.returns-in-EvClose-clause-served
returns-in-EvClose-clause-served g c =
    let here = rw (c.in-Some.is, c.in-EvClose.is) at c.requires.at in
    rw (c.in-EvClose.is, c.answered-in-EvClose.ensures.value)
    (by_zero _ _ _ _ c.ev_close_known.result
    (serves_ev_close _ _ _ _ c.in-Some.dev c.ev_close_known.result here c.ev_close_known.ensures.told c.ev_close_known.ensures.alters (search rules)))

pub returns-in-Help-clause-served : goal.returns-in-Help-clause-served
returns-in-Help-clause-served g c = elim c.in-Help.is [
  | inl help ↦ absurd (rw help at c.requires.at)
  | inr (inl exit) ↦ absurd (rw exit at c.requires.at)
  | inr (inr (inl version)) ↦ absurd (rw version at c.requires.at)
  | inr (inr (inr (inl print))) ↦ absurd (rw print at c.requires.at)
  | inr (inr (inr (inr (inl timeout)))) ↦ absurd (rw timeout.1 at c.requires.at)
  | inr (inr (inr (inr (inr (inl write))))) ↦ absurd (rw write.3 at c.requires.at)
  | inr (inr (inr (inr (inr (inr (inl scans)))))) ↦ absurd (rw scans.2 at c.requires.at)
  | inr (inr (inr (inr (inr (inr (inr read)))))) ↦ absurd (rw read.2 at c.requires.at)
]
