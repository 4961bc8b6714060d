use Rattle.std.proofs.Common.{refl, rules, ◌≤◌, sym, ap, ◌∙◌, drop, length, arith, length-drop}
use Rattle.std.proofs.lemmas.List.{take_rest}
use Rattle.iiod_grammar.specs.Scans.{scan_on}
use Rattle.iiod_session.specs.Session.{stream_by}
use Rattle.iiod_session.specs.declared.going.Going.TheVariants.{On}
use Rattle.iiod_session.specs.PendingWrite.{pending_of}
use Rattle.iiod_session.proofs.FeedLaws.{fed_none}
use Rattle.iiod_session.proofs.HearLaws.{all_taken, more_feeds, none_after, on_fed, piece_scans, rest_after, stop_feeds}
use Rattle.iiod_session.proofs.StreamLaws.{more_takes, more_waits}
use Rattle.iiod_session.proofs.feed.carry_on.Goals as goal

pub returns-in-More-clause-hears : goal.returns-in-More-clause-hears
returns-in-More-clause-hears g c =
    more_feeds _ _ _ _ _ _ _ c.loop-client.lines c.feed-taken.new.self (pending_of c.loop-client.pending) _ _ _
    (rw c.in-More.is at (c.feed-taken.ensures.items (pending_of c.loop-client.pending)))
    (take_rest c.args.bytes.now c.loop-client.at)
    (none_after c.loop-client.at c.feed-taken.result.0 c.args.bytes.now c.loop-client.invariant.within
    (c.feed-taken.ensures.taken ∙ more_takes c.loop-client.lines _ c.loop-client.invariant.ready (sym c.feed-taken.ensures.ready ∙ c.in-More.is)))
    c.loop-client.invariant.fed

pub returns-in-More-clause-all : goal.returns-in-More-clause-all
returns-in-More-clause-all g c on = (
  all_taken c.loop-client.at c.feed-taken.result.0 c.args.bytes.now c.loop-client.invariant.within
      (c.feed-taken.ensures.taken ∙ more_takes c.loop-client.lines _ c.loop-client.invariant.ready (sym c.feed-taken.ensures.ready ∙ c.in-More.is)),
  rw c.feed-taken.ensures.state
      (more_waits c.loop-client.lines _ (pending_of c.loop-client.pending) c.loop-client.invariant.ready (sym c.feed-taken.ensures.ready ∙ c.in-More.is)),
)

pub loop-client-init : goal.loop-client-init
loop-client-init g c = record {
  kept = refl;
  client = c.requires.client;
  within = search rules;
  ready = c.requires.ready;
  fed = fed_none _;
}

pub loop-client-preserved : goal.loop-client-preserved
loop-client-preserved g c = record {
  kept = search rules;
  client = rw (c.hear_piece.ensures.kept ∙ c.loop-client.invariant.kept) at c.hear_piece.ensures.client;
  within =
      let n : c.feed-taken.result.0 ≤ length (drop c.loop-client.at c.args.bytes.now) =
      rw (take_rest c.args.bytes.now c.loop-client.at) at c.feed-taken.ensures.within in
      omega (arith, length-drop c.loop-client.at c.args.bytes.now, c.loop-client.invariant.within);
  ready = rw c.in-On.is at c.in_ok-going.ensures.ready;
  fed = on_fed _ _ _ _ _ _ _ _ _ _ _ _ _ _
      (ap (λ bs. scan_on (stream_by On c.loop-client.lines c.loop-client.pending) bs) (sym (take_rest c.args.bytes.now c.loop-client.at))
      ∙ piece_scans c.cut_anywhere.ensures.items c.cut_anywhere.ensures.scanner c.loop-client.lines c.feed-taken.new.self c.loop-client.pending _
      c.feed-taken.result.0 c.feed-taken.result.1
      c.in_default.not-More c.loop-client.invariant.ready (c.feed-taken.ensures.items (pending_of c.loop-client.pending)))
      (rest_after c.loop-client.at c.feed-taken.result.0 c.args.bytes.now) c.loop-client.invariant.fed
      (rw (c.in-On.is, c.loop-client.invariant.kept) at c.in_ok-going.ensures.hears);
}

pub returns-in_default-2-clause-hears : goal.returns-in_default-2-clause-hears
returns-in_default-2-clause-hears g c =
    stop_feeds _ _ _ _ _ _ _ _ _ _ _ _ _ _ c.in_ok-going.going c.in_default-2.not-On
    (ap (λ bs. scan_on (stream_by On c.loop-client.lines c.loop-client.pending) bs) (sym (take_rest c.args.bytes.now c.loop-client.at))
    ∙ piece_scans c.cut_anywhere.ensures.items c.cut_anywhere.ensures.scanner c.loop-client.lines c.feed-taken.new.self c.loop-client.pending _
    c.feed-taken.result.0 c.feed-taken.result.1
    c.in_default.not-More c.loop-client.invariant.ready (c.feed-taken.ensures.items (pending_of c.loop-client.pending)))
    (rest_after c.loop-client.at c.feed-taken.result.0 c.args.bytes.now) c.loop-client.invariant.fed
    (rw c.loop-client.invariant.kept at c.in_ok-going.ensures.hears)
