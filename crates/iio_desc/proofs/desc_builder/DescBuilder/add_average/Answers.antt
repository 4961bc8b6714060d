use Rattle.std.proofs.Common.{◌≡◌, ◌+◌, ◌<◌, List, [], ◌∷◌, ◌++◌, length, None, arith, ap, ◌∙◌, length-append}
use Rattle.iio_desc.specs.declared.limits.TheConstants.{MAX_DEVICES}
use Rattle.iio_desc.specs.Description.{AverageRecord, DeviceRecord, OutputRecord}
use Rattle.iio_desc.specs.PartialDesc.{devices_of, outputs_of}
use Rattle.iio_desc.specs.WellFormed.{IsWellFormedAverage}
use Rattle.std.proofs.lemmas.List.Elements.{All-push}
use Rattle.iio_desc.proofs.DeviceLemmas.{averages_with, ended}
use Rattle.iio_desc.proofs.desc_builder.DescBuilder.add_average.Goals as goal

pub invariant_of-self-2 : goal.invariant_of-self-2
invariant_of-self-2 c =
    let inside = c.self.inside in
    let inv = c.self.invariant in
    let e =
    ended inside c.replace-before.result _ c.put_before.new.devices.items _ c.put_before.new.outputs.items c.put_before.result inv
    c.replace-before.ensures.value c.in_ok-reserve.ensures.items c.in_ok-reserve-2.ensures.items (rw (← c.self.view_is) at c.requires.whole)
    c.put_before.ensures.devices c.put_before.ensures.outputs c.put_before.ensures.recording c.put_before.ensures.writes c.put_before.ensures.rows
    c.put_before.ensures.within in
    let ds : List DeviceRecord = inside.devices.items ++ devices_of inside.current in
    let os : List OutputRecord = inside.outputs.items ++ outputs_of inside.current in
    let none : c.replace-before.new.dest ≡ None = c.replace-before.ensures.after in
    let new : AverageRecord = record { name = c.args.name; base = c.args.base; window = c.args.window } in
    let pushed : c.push_reserved.new.self.items ≡ inside.averages.items ++ new ∷ [] =
    c.push_reserved.ensures.items ∙ ap (λ (xs : List AverageRecord). xs ++ new ∷ []) c.in_ok-reserve-3.ensures.items in
    let over : c.args.base < length ds = rw (← c.self.view_is) at c.requires.over in
    let one_more = length-append inside.averages.items (new ∷ []) in
    let few : length ds + length os + length inside.averages.items < MAX_DEVICES = rw (← c.self.view_is) at c.requires.few in
    let wider = averages_with inside.devices.items (devices_of inside.current) inside.averages.items inv.averages in
    let formed : IsWellFormedAverage (length ds) new = record { over = over; some = c.requires.some; bounded = c.requires.bounded } in
    record {
      triggers = inv.triggers;
      places = inv.places;
      devices = rw (e.devices, e.outputs, pushed, none) (omega (arith, few, length-append ds [], length-append os [], one_more));
      sound = e.sound;
      outputs = e.formed;
      averages = rw (e.devices, pushed) (All-push (IsWellFormedAverage (length ds)) inside.averages.items new wider formed);
      apart = e.apart;
      earlier = e.earlier;
      rows = e.rows;
      current = rw none tt;
    }
