use Rattle.std.proofs.Common.{◌∙◌, ◌==◌, rules, sym, tests}
use Rattle.std.proofs.lemmas.Iterator.{YieldsList-from_slice}
use Rattle.std.proofs.lemmas.Iterator.Search.{position_from_yields_List}
use Rattle.iiod_commands.specs.declared.client.OpenSeat.{OpenSeat}
use Rattle.iiod_commands.proofs.SeatsLaws.{place_is}
use Rattle.iiod_commands.proofs.seats.place.Goals as goal

pub returns-clause-place : goal.returns-clause-place
returns-clause-place g c seen =
    position_from_yields_List (λ (h : OpenSeat _). h.dev == c.args.dev) _ _ _ c.position.ensures.ran (YieldsList-from_slice c.args.held.now cc)
    (λ x b q k. search (rules, tests))
    ∙ sym (place_is seen c.args.dev c.args.held.now)
