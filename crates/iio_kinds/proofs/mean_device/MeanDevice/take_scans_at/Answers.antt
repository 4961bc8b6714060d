use Rattle.std.proofs.Common.{◌≡◌, ℕ, List, ap, drop, length, sym, ◌∙◌}
use Rattle.iio_device.specs.Totals.{with_bytes}
use Rattle.iio_layout.specs.Layout.{scan_size}
use Rattle.iio_kinds.specs.Acting.{id_of}
use Rattle.iio_kinds.proofs.MeanTakes.{bytes_within, rest_is, scans_missed, scans_taken, several_fit, several_taken_sound, size_is}
use Rattle.iio_kinds.proofs.mean_device.MeanDevice.take_scans_at.Goals as goal

pub take_scans-requires : goal.take_scans-requires
take_scans-requires c =
    let old = c.args.self.now in
    several_fit old.average old.average (id_of c.args._number c.args._mask) c.args.slot old.captures old.next old.starts old.plugged old.totals old.seats.items
    c.requires.there old.sound _ c.args.most _ c.requires.room

pub invariant_of-self : goal.invariant_of-self
invariant_of-self c = record {
  sound =
      let old = c.args.self.now in
      several_taken_sound old.average c.take_scans.new.self (id_of c.args._number c.args._mask) c.args.slot old.captures old.next old.starts
      old.plugged old.totals old.seats.items
      c.requires.there old.sound c.take_scans.result c.args.most _ _ c.take_scans.ensures.takes;
}

pub invariant_of-self-2 : goal.invariant_of-self-2
invariant_of-self-2 c = record {
  sound =
      let old = c.args.self.now in
      several_taken_sound old.average c.take_scans.new.self (id_of c.args._number c.args._mask) c.args.slot old.captures old.next old.starts
      old.plugged old.totals old.seats.items
      c.requires.there old.sound c.take_scans.result c.args.most _ _ c.take_scans.ensures.takes;
}

pub returns-then-count-eq0-clause-takes : goal.returns-then-count-eq0-clause-takes
returns-then-count-eq0-clause-takes c =
    let old = c.args.self.now in
    scans_missed old.average c.take_scans.new.self (id_of c.args._number c.args._mask) c.args.slot old.captures old.next old.starts
    old.plugged old.totals old.seats.items
    c.requires.there old.sound c.nothing.result c.take_scans.result c.args.most c.args.out.now.items c.take_scans.new.out.items
    (sym c.unwrap_or-count.ensures ∙ c.if-count-eq0.true) c.requires.some c.take_scans.ensures.takes c.nothing.ensures

pub returns-clause-takes : goal.returns-clause-takes
returns-clause-takes c =
    let old = c.args.self.now in
    let count = c.unwrap_or-count.result in
    let stood : c.len-stood.result ≡ length c.args.out.now.items = c.len-stood.ensures ∙ c.args.out.now.ok.0 in
    let given : c.give.new.self ≡ with_bytes count (drop (length c.args.out.now.items) c.take_scans.new.out.items) old.totals
    =
    c.give.ensures ∙ ap (λ (text : List ℕ). with_bytes count text old.totals) (rest_is c.len-stood.result c.deref.result.now)
    ∙ ap (λ (text : List ℕ). with_bytes count (drop c.len-stood.result text) old.totals) c.deref.ensures.value
    ∙ ap (λ (n : ℕ). with_bytes count (drop n c.take_scans.new.out.items) old.totals) stood in
    rw (given, c.unwrap_or-count.ensures)
    (scans_taken old.average c.take_scans.new.self (id_of c.args._number c.args._mask) c.args.slot old.captures old.next old.starts
    old.plugged old.totals old.seats.items
    c.requires.there old.sound c.take_scans.result c.args.most c.args.out.now.items c.take_scans.new.out.items
    (λ none. c.if-count-eq0.false (c.unwrap_or-count.ensures ∙ none)) c.take_scans.ensures.takes)

pub returns-clause-most : goal.returns-clause-most
returns-clause-most c =
    let old = c.args.self.now in
    bytes_within old.average c.take_scans.new.self (id_of c.args._number c.args._mask) c.args.slot old.captures old.next old.starts
    old.plugged old.totals old.seats.items
    c.requires.there old.sound c.take_scans.result c.args.most
    (scan_size old.average.shape c.args._mask.bits) c.args.out.now.items c.take_scans.new.out.items c.take_scans.ensures.takes c.take_scans.ensures.sized
    (size_is old.average c.take_scans.new.self (id_of c.args._number c.args._mask) c.args.slot old.captures old.next old.starts
    old.plugged old.totals old.seats.items
    c.requires.there old.sound)
