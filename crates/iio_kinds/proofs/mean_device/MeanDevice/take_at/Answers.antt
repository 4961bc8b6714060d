use Rattle.std.proofs.Common.{sym, ◌∙◌}
use Rattle.iio_kinds.specs.Acting.{id_of}
use Rattle.iio_kinds.proofs.MeanTakes.{scan_fits, scan_missed, scan_taken, taken_sound}
use Rattle.iio_kinds.proofs.mean_device.MeanDevice.take_at.Goals as goal

pub take-requires : goal.take-requires
take-requires c =
    let old = c.args.self.now in
    scan_fits old.average old.average (id_of c.args._number c.args._mask) c.args.slot old.captures old.next old.starts old.plugged old.totals old.seats.items
    c.requires.there old.sound _ c.requires.size

pub invariant_of-self : goal.invariant_of-self
invariant_of-self c = record {
  sound =
      let old = c.args.self.now in
      taken_sound old.average c.take.new.self (id_of c.args._number c.args._mask) c.args.slot old.captures old.next old.starts
      old.plugged old.totals old.seats.items
      c.requires.there old.sound c.take.result _ _ c.take.ensures;
}

pub invariant_of-self-2 : goal.invariant_of-self-2
invariant_of-self-2 c = record {
  sound =
      let old = c.args.self.now in
      taken_sound old.average c.take.new.self (id_of c.args._number c.args._mask) c.args.slot old.captures old.next old.starts
      old.plugged old.totals old.seats.items
      c.requires.there old.sound c.take.result _ _ c.take.ensures;
}

pub returns-then-not-unwrap_or-clause-takes : goal.returns-then-not-unwrap_or-clause-takes
returns-then-not-unwrap_or-clause-takes c =
    let old = c.args.self.now in
    scan_missed old.average c.take.new.self (id_of c.args._number c.args._mask) c.args.slot old.captures old.next old.starts
    old.plugged old.totals old.seats.items
    c.requires.there old.sound c.nothing.result c.take.result
    c.args.out.now c.take.new.out (sym c.unwrap_or.ensures ∙ c.if-not-unwrap_or.true) c.take.ensures c.nothing.ensures

pub returns-clause-takes : goal.returns-clause-takes
returns-clause-takes c =
    let old = c.args.self.now in
    rw c.give.ensures
    (scan_taken old.average c.take.new.self (id_of c.args._number c.args._mask) c.args.slot old.captures old.next old.starts
    old.plugged old.totals old.seats.items
    c.requires.there old.sound c.take.result
    c.args.out.now c.take.new.out (sym c.unwrap_or.ensures ∙ c.if-not-unwrap_or.false) c.take.ensures)
