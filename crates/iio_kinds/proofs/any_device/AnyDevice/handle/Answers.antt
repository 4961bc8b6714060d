use Rattle.std.proofs.Common.{◌∙◌, ap, sym, subst}
use Rattle.iio_device.specs.Plug.{driver_of}
use Rattle.iio_kinds.specs.Handling.{IsTakenWhole, entry_capture, entry_station, is_last, entry_became}
use Rattle.iio_kinds.specs.Station.{any_front, any_station, captures_by, full_scan_by}
use Rattle.iio_kinds.proofs.AnyCalls.{nothing_stays, nothing_whole}
use Rattle.iio_kinds.proofs.DueLemmas.{done_off, due_dev, due_is, none_off}
use Rattle.iio_kinds.proofs.any_device.AnyDevice.handle.Goals as goal

pub handle_due-became-requires : goal.handle_due-became-requires
handle_due-became-requires g c = due_dev c.args.dev c.args.trigger.now.outstanding c.in-Some.due (sym c.in-Some.ensures.due) ∙ c.requires.number

pub returns-in-None-clause-answer : goal.returns-in-None-clause-answer
returns-in-None-clause-answer g c =
    ap (λ o. entry_became (any_front c.args.self.now).kind o (is_last (captures_by c.args.self.now))
    (any_station (driver_of (λ b. (g.dyn-1.0.entry b.vtable).1.driver b.value)) c.args.self.now))
    (c.in-None.ensures.due ∙ due_is c.args.dev c.args.trigger.now.outstanding c.requires.idle)

pub returns-in-None-clause-station : goal.returns-in-None-clause-station
returns-in-None-clause-station g c =
    nothing_stays (any_front c.args.self.now).kind (is_last (captures_by c.args.self.now)) (any_front c.args.self.now).shape
    (any_station (driver_of (λ b. (g.dyn-1.0.entry b.vtable).1.driver b.value)) c.args.self.now)
    ∙ ap (λ o. entry_station (any_front c.args.self.now).kind o (is_last (captures_by c.args.self.now)) (any_front c.args.self.now).shape
    (any_station (driver_of (λ b. (g.dyn-1.0.entry b.vtable).1.driver b.value)) c.args.self.now))
    (c.in-None.ensures.due ∙ due_is c.args.dev c.args.trigger.now.outstanding c.requires.idle)

pub returns-in-None-clause-trigger : goal.returns-in-None-clause-trigger
returns-in-None-clause-trigger g c = none_off c.args.dev c.args.trigger.now c.due.new.self c.requires.idle c.in-None.ensures.due c.in-None.ensures.after

pub returns-in-Some-clause-answer : goal.returns-in-Some-clause-answer
returns-in-Some-clause-answer g c =
    c.handle_due-became.ensures.answer
    ∙ ap (λ o. entry_became (any_front c.args.self.now).kind o (is_last (captures_by c.args.self.now))
    (any_station (driver_of (λ b. (g.dyn-1.0.entry b.vtable).1.driver b.value)) c.args.self.now))
    (c.in-Some.ensures.due ∙ due_is c.args.dev c.args.trigger.now.outstanding c.requires.idle)

pub returns-in-Some-clause-station : goal.returns-in-Some-clause-station
returns-in-Some-clause-station g c =
    c.handle_due-became.ensures.station
    ∙ ap (λ o. entry_station (any_front c.args.self.now).kind o (is_last (captures_by c.args.self.now)) (any_front c.args.self.now).shape
    (any_station (driver_of (λ b. (g.dyn-1.0.entry b.vtable).1.driver b.value)) c.args.self.now))
    (c.in-Some.ensures.due ∙ due_is c.args.dev c.args.trigger.now.outstanding c.requires.idle)

pub returns-in-Some-clause-trigger : goal.returns-in-Some-clause-trigger
returns-in-Some-clause-trigger g c =
    done_off c.args.dev c.in-Some.due c.done.result c.args.trigger.now c.due.new.self c.done.new.self c.in-Some.ensures.due c.in-Some.ensures.after
    c.done.ensures.found c.done.ensures.taken

pub returns-in-None-clause-scan : goal.returns-in-None-clause-scan
returns-in-None-clause-scan g c =
    let st = any_station (driver_of (λ b. (g.dyn-1.0.entry b.vtable).1.driver b.value)) c.args.self.now in
    subst (λ o. IsTakenWhole (any_front c.args.self.now).shape
    (entry_capture (any_front c.args.self.now).kind o (is_last (captures_by c.args.self.now)) (any_front c.args.self.now).shape st) st.members
    (full_scan_by c.args.self.now)) (c.in-None.ensures.due ∙ due_is c.args.dev c.args.trigger.now.outstanding c.requires.idle)
    (nothing_whole (any_front c.args.self.now).kind (is_last (captures_by c.args.self.now)) (any_front c.args.self.now).shape st st.members
    (full_scan_by c.args.self.now))

pub returns-in-Some-clause-scan : goal.returns-in-Some-clause-scan
returns-in-Some-clause-scan g c =
    let st = any_station (driver_of (λ b. (g.dyn-1.0.entry b.vtable).1.driver b.value)) c.args.self.now in
    subst (λ o. IsTakenWhole (any_front c.args.self.now).shape
    (entry_capture (any_front c.args.self.now).kind o (is_last (captures_by c.args.self.now)) (any_front c.args.self.now).shape st) st.members
    (full_scan_by c.handle_due-became.new.self)) (c.in-Some.ensures.due ∙ due_is c.args.dev c.args.trigger.now.outstanding c.requires.idle)
    c.handle_due-became.ensures.scan
