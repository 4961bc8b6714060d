-- A hub may be shared by threads: field by field, with each library's own lemmas for what its types hold.
use mir.Syntax.{Dict, Slots}
use denote.Param.Object as Object
use denote.Param.Send.{IsSync, recorded_sync, sendable, struct_sync}
use denote.Param.Sent.{Sends}
use denote.Param.Table.{Lawful, Table}
use denote.Struct.Declared.{shape}
use denote.Struct.Struct.{Struct}
use Rattle.std.proofs.Crossing.{crosses, dyn_box_send}
use Rattle.atomic_table.proofs.send_lease.SendLease.TheSendSync as lease
use Rattle.atomic_table.proofs.shared.Seat.TheSendSync as seat
use Rattle.atomic_table.proofs.shared.Shared.TheSendSync as shared
use Rattle.circular_buffer.proofs.cells.Cells.TheSendSync as cells
use Rattle.circular_buffer.proofs.cells.Deed.TheSendSync as deed
use Rattle.iio_base.proofs.count.Beyond.TheSendSync as beyond
use Rattle.iio_sensor.specs.declared.sensor.Sensor.{Ghosts}
use Rattle.iiod_hub.specs.contracts.locks.Hub

module _ (slots : Dict → Slots) (T : Table Ghosts Dict) (lawful : Lawful T) (sends : Sends T) where
  pub hub_sync : IsSync (Hub.the_row (Object.Vt slots T) (Object.ghosts_of slots T lawful))
  hub_sync =
      let box = dyn_box_send (Object.Vt slots T) (Object.ghosts_of slots T lawful) sends in
      let H = Hub.the_type (Object.Vt slots T) (Object.ghosts_of slots T lawful) in
      recorded_sync (Struct (shape H)) H.D H.to H.to_one
      (struct_sync (shape H) (
        search (sendable, crosses) depth 100 fits 20000,
        (
          search (
            sendable,
            crosses,
            box,
            beyond.the_send,
            shared.the_send,
            shared.the_sync,
            seat.the_send,
            lease.the_send,
            lease.the_sync,
            cells.the_send,
            deed.the_send,
          ) depth 100 fits 20000,
          (
            search (sendable, crosses) depth 100 fits 20000,
            (search (sendable, crosses) depth 100 fits 20000, (search (sendable, crosses) depth 100 fits 20000, tt)),
          ),
        ),
      ))
