use Rattle.std.proofs.Common.{map, ◌∙◌}
use Rattle.iio_device.specs.declared.plug.Plug.TheVariants.{Given}
use Rattle.iio_device.specs.Plug.{driver_of}
use Rattle.iio_device.specs.Device.{view_of}
use Rattle.iio_kinds.specs.Station.{captures_by, number_by}
use Rattle.iio_bench.proofs.FirstLemmas.{captures_made, fronts_made, numbered_made, stations_made}
use Rattle.iio_bench.proofs.first.inputs_of.Goals as goal

pub returns-clause-stations : goal.returns-clause-stations
returns-clause-stations g c =
    let drive = driver_of (λ b. (g.dyn-1.0.entry b.vtable).1.driver b.value) in
    c.in_ok-devices.ensures.stations
    ∙ stations_made (view_of drive) (map (λ d. drive (Given d)) c.args.drivers.items) 0 c.in_ok-made.made.items c.args.descs.items c.in_ok-made.ensures

pub returns-clause-fronts : goal.returns-clause-fronts
returns-clause-fronts g c =
    let drive = driver_of (λ b. (g.dyn-1.0.entry b.vtable).1.driver b.value) in
    c.in_ok-devices.ensures.fronts
    ∙ fronts_made (view_of drive) (map (λ d. drive (Given d)) c.args.drivers.items) 0 c.in_ok-made.made.items c.args.descs.items c.in_ok-made.ensures

pub returns-clause-numbered : goal.returns-clause-numbered
returns-clause-numbered g c =
    let drive = driver_of (λ b. (g.dyn-1.0.entry b.vtable).1.driver b.value) in
    numbered_made (view_of drive) (map (λ d. drive (Given d)) c.args.drivers.items) number_by c.in_ok-devices.devices.items c.in_ok-made.made.items
    c.args.descs.items c.in_ok-devices.ensures.numbers c.in_ok-made.ensures

pub returns-clause-captures : goal.returns-clause-captures
returns-clause-captures g c =
    let drive = driver_of (λ b. (g.dyn-1.0.entry b.vtable).1.driver b.value) in
    captures_made (view_of drive) (map (λ d. drive (Given d)) c.args.drivers.items) captures_by 0 c.in_ok-devices.devices.items c.in_ok-made.made.items
    c.args.descs.items c.in_ok-devices.ensures.captures c.in_ok-made.ensures
