use Rattle.std.proofs.Common.{rules, ◌≡◌, Some, ap, refl, sym, subst, ◌∙◌, length, map, FitsSigned, w64}
use Rattle.std.proofs.lemmas.List.{with_items_is}
use Rattle.iio_derive.specs.Window.{full_mask}
use Rattle.iio_device.specs.Plug.{driver_of}
use Rattle.iio_layout.specs.Layout.{scan_size}
use Rattle.iio_core.specs.declared.became.Became.TheVariants.{Asked}
use Rattle.iio_kinds.specs.Handling.{is_last}
use Rattle.iio_kinds.specs.Station.{member_of, station_by}
use Rattle.iio_kinds.specs.Taking.{IsTakenOf, all_taken, with_taken}
use Rattle.iio_kinds.proofs.InnerHandles.{captured_by, captured_members, idle_members, members_plain, offered_there, offered_whole, room_idle, room_whole, taken_by, taken_facts}
use Rattle.iio_kinds.proofs.InnerLemmas.{facts_same, idle_told, named}
use Rattle.iio_kinds.proofs.InnerTakes.{answer_named, capture_named, idle_named}
use Rattle.iio_kinds.proofs.KeepLemmas.{front_by, keeps_view}
use Rattle.iio_kinds.proofs.in_device.InDevice.handle.Goals as goal

pub take_all-requires-clause-once : goal.take_all-requires-clause-once
take_all-requires-clause-once g c = rw c.deref.ensures.value c.args.self.now.sound.once

pub take_all-requires-clause-there : goal.take_all-requires-clause-there
take_all-requires-clause-there g c =
    let drive = driver_of (λ b. (g.dyn-1.0.entry b.vtable).1.driver b.value) in
    let own = c.args.self.now in
    let st = station_by drive own.device in
    let v = c.handle_due-handled.new.device in
    let e = c.args.due.now in
    let shape = own.device.core.roster.shape in
    let ended = is_last own.device.core.roster.captures in
    let captured = captured_by shape e _ ended st (ap (λ r. Some (Asked r)) (sym c.in-Captured.is) ∙ c.handle_due-handled.ensures.answer) in
    rw c.deref.ensures.value
    (offered_there shape v.core.roster.shape own.inners.items own.room.items own.device.core.roster.members.items v.core.roster.members.items
    (taken_by shape e st) c.handle_due-handled.ensures.keeps.shape own.sound
    (captured_members shape e ended st (station_by drive v) captured c.handle_due-handled.ensures.station))

pub take_all-requires-clause-whole : goal.take_all-requires-clause-whole
take_all-requires-clause-whole g c =
    let drive = driver_of (λ b. (g.dyn-1.0.entry b.vtable).1.driver b.value) in
    let own = c.args.self.now in
    let st = station_by drive own.device in
    let v = c.handle_due-handled.new.device in
    let e = c.args.due.now in
    let shape = own.device.core.roster.shape in
    let ended = is_last own.device.core.roster.captures in
    let captured = captured_by shape e _ ended st (ap (λ r. Some (Asked r)) (sym c.in-Captured.is) ∙ c.handle_due-handled.ensures.answer) in
    rw c.deref.ensures.value
    (offered_whole shape v.core.roster.shape own.inners.items own.room.items own.device.core.roster.members.items v.core.roster.members.items
    (taken_by shape e st) c.handle_due-handled.ensures.keeps.shape own.sound
    (captured_members shape e ended st (station_by drive v) captured c.handle_due-handled.ensures.station))

pub take_all-requires-clause-room : goal.take_all-requires-clause-room
take_all-requires-clause-room g c =
    let own = c.args.self.now in
    rw c.deref.ensures.value
    (λ some. ap (λ xs. length xs) c.deref_mut.ensures.value ∙ own.sound.roomy some
    ∙ ap (λ s. scan_size s (full_mask s)) (sym c.handle_due-handled.ensures.keeps.shape))

pub invariant_of-self : goal.invariant_of-self
invariant_of-self g c =
    let drive = driver_of (λ b. (g.dyn-1.0.entry b.vtable).1.driver b.value) in
    let own = c.args.self.now in
    let st = station_by drive own.device in
    let v = c.handle_due-handled.new.device in
    let e = c.args.due.now in
    let shape = own.device.core.roster.shape in
    let ended = is_last own.device.core.roster.captures in
    let captured = captured_by shape e _ ended st (ap (λ r. Some (Asked r)) (sym c.in-Captured.is) ∙ c.handle_due-handled.ensures.answer) in
    let kept = with_items_is own.room c.take_all.new.room (c.take_all.auto.room ∙ c.deref_mut.ensures.len) in
    record {
      sound =
          taken_facts shape v.core.roster.shape own.inners.items own.room.items own.device.core.roster.members.items v.core.roster.members.items
          (taken_by shape e st) c.handle_due-handled.ensures.keeps.shape own.sound
          (captured_members shape e ended st (station_by drive v) captured c.handle_due-handled.ensures.station)
          c.take_all.new.device.core.roster.shape c.take_all.new.device.core.roster.members.items _
          (c.take_all.ensures.keeps.device.shape ∙ c.handle_due-handled.ensures.keeps.shape)
          (ap (λ x. x.members) c.take_all.ensures.station ∙ ap (λ is. map (with_taken is) (station_by drive v).members) c.deref.ensures.value)
          (ap (λ xs. length xs) kept ∙ c.take_all.ensures.same ∙ ap (λ xs. length xs) c.deref_mut.ensures.value);
    }

pub invariant_of-self-in_default : goal.invariant_of-self-in_default
invariant_of-self-in_default g c =
    let drive = driver_of (λ b. (g.dyn-1.0.entry b.vtable).1.driver b.value) in
    let own = c.args.self.now in
    let v = c.handle_due-handled.new.device in
    record {
      sound =
          facts_same own.device.core.roster.shape v.core.roster.shape own.inners.items own.room.items own.device.core.roster.members.items
          v.core.roster.members.items c.handle_due-handled.ensures.keeps.shape
          (idle_members own.device.core.roster.shape c.args.due.now c.handle_due-handled.result (is_last own.device.core.roster.captures)
          (station_by drive own.device) (station_by drive v) c.in_default.not-Captured c.handle_due-handled.ensures.answer
          c.handle_due-handled.ensures.station) own.sound;
    }

pub returns-in-Captured-clause-answer : goal.returns-in-Captured-clause-answer
returns-in-Captured-clause-answer g c =
    let drive = driver_of (λ b. (g.dyn-1.0.entry b.vtable).1.driver b.value) in
    let own = c.args.self.now in
    c.handle_due-handled.ensures.answer
    ∙ sym (answer_named own.device.core.roster.shape own.inners.items c.args.due.now (is_last own.device.core.roster.captures) (station_by drive own.device)
    (idle_told own.device.core.roster.shape own.inners.items own.device.core.roster.members.items own.sound.idle)
    (members_plain own.device.core.roster.members.items))

pub returns-in-Captured-clause-station : goal.returns-in-Captured-clause-station
returns-in-Captured-clause-station g c =
    let drive = driver_of (λ b. (g.dyn-1.0.entry b.vtable).1.driver b.value) in
    let own = c.args.self.now in
    let v = c.handle_due-handled.new.device in
    ap (named own.inners.items) (c.take_all.ensures.station ∙ ap (λ is. all_taken is (station_by drive v)) c.deref.ensures.value)
    ∙ capture_named own.device.core.roster.shape own.inners.items c.args.due.now (is_last own.device.core.roster.captures) (station_by drive own.device)
    (idle_told own.device.core.roster.shape own.inners.items own.device.core.roster.members.items own.sound.idle)
    (members_plain own.device.core.roster.members.items) _ (station_by drive v)
    (ap (λ r. Some (Asked r)) (sym c.in-Captured.is) ∙ c.handle_due-handled.ensures.answer) c.handle_due-handled.ensures.station

pub returns-in-Captured-clause-scan : goal.returns-in-Captured-clause-scan
returns-in-Captured-clause-scan g c =
    let drive = driver_of (λ b. (g.dyn-1.0.entry b.vtable).1.driver b.value) in
    let own = c.args.self.now in
    let st = station_by drive own.device in
    let v = c.handle_due-handled.new.device in
    let e = c.args.due.now in
    let shape = own.device.core.roster.shape in
    let ended = is_last own.device.core.roster.captures in
    let captured = captured_by shape e _ ended st (ap (λ r. Some (Asked r)) (sym c.in-Captured.is) ∙ c.handle_due-handled.ensures.answer) in
    let kept = with_items_is own.room c.take_all.new.room (c.take_all.auto.room ∙ c.deref_mut.ensures.len) in
    let fits : FitsSigned w64 c.t-t.result = search rules in
    room_whole shape e own.inners.items own.room.items _ ended st own.device.core.roster.members.items v.core.roster.members.items own.sound refl captured
    (captured_members shape e ended st (station_by drive v) captured c.handle_due-handled.ensures.station)
    (subst (λ xs. IsTakenOf own.inners.items (map member_of v.core.roster.members.items) xs) (sym kept)
    (rw c.deref.ensures.value at c.take_all.ensures.taken))
    (ap (λ xs. length xs) kept ∙ c.take_all.ensures.same ∙ ap (λ xs. length xs) c.deref_mut.ensures.value)
    (subst (λ z. FitsSigned w64 z) c.t-t.ensures fits)

pub returns-in-Captured-clause-captures : goal.returns-in-Captured-clause-captures
returns-in-Captured-clause-captures g c = c.take_all.ensures.keeps.captures ∙ c.handle_due-handled.ensures.captures

pub returns-in-Captured-clause-keeps : goal.returns-in-Captured-clause-keeps
returns-in-Captured-clause-keeps g c =
    let first = c.handle_due-handled.ensures.keeps in
    let then = c.take_all.ensures.keeps.device in
    record { front = front_by _ _ _ _ (then.name ∙ first.name) (then.shape ∙ first.shape); number = then.number ∙ first.number }

pub returns-in_default : goal.returns-in_default
returns-in_default g c =
    let drive = driver_of (λ b. (g.dyn-1.0.entry b.vtable).1.driver b.value) in
    let own = c.args.self.now in
    let idle = idle_told own.device.core.roster.shape own.inners.items own.device.core.roster.members.items own.sound.idle in
    let plain = members_plain own.device.core.roster.members.items in
    let ended = is_last own.device.core.roster.captures in
    record {
      answer =
          c.handle_due-handled.ensures.answer
          ∙ sym (answer_named own.device.core.roster.shape own.inners.items c.args.due.now ended (station_by drive own.device) idle plain);
      station =
          idle_named own.device.core.roster.shape own.inners.items c.args.due.now ended (station_by drive own.device) idle plain c.handle_due-handled.result
          (station_by drive c.handle_due-handled.new.device) c.in_default.not-Captured c.handle_due-handled.ensures.answer
          c.handle_due-handled.ensures.station;
      scan =
          room_idle own.device.core.roster.shape c.args.due.now c.handle_due-handled.result own.inners.items own.room.items ended
          (station_by drive own.device) c.in_default.not-Captured c.handle_due-handled.ensures.answer;
      captures = c.handle_due-handled.ensures.captures;
      keeps = keeps_view drive c.args.self.now _ c.handle_due-handled.ensures.keeps;
    }
