use denote.Param.Send.{sendable}
use Rattle.iiod_server.specs.contracts.server.serve_all.dyn-1 as dyn-1'
use Rattle.iiod_server.proofs.HubCrossing.{hub_sync}
use Rattle.iiod_server.proofs.server.serve_all.Goals as goal

pub serve_host-requires-sync-H : goal.serve_host-requires-sync-H
serve_host-requires-sync-H g c κs within =
    let slots = dyn-1'.slots g.row.R g.row.D g.row.T g.row.G g.row.D-L in
    let hub = hub_sync slots g.dyn-1.0 g.dyn-1.1 g.dyn-1.2 in
    search (sendable, hub) depth 20
