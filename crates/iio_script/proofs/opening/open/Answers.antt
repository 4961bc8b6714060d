use Rattle.std.proofs.Common.{◌≡◌, refl, ap, sym, ◌∙◌, arith, rules, subst}
use Rattle.iio_desc.specs.declared.reader.DescFault.{DescFault}
use Rattle.iio_desc.specs.DescFault.{Locates}
use Rattle.iio_desc.specs.DescReader.{after_line, line_count, new_reader}
use Rattle.std.specs.Prelude.{IsOk}
use Rattle.iio_script.specs.LineReader.{IsHand}
use Rattle.iio_script.proofs.HandLaws.{hand_first}
use Rattle.iio_script.proofs.OpeningLaws.{line_counts, opens_at, opens_cut, opens_end_by, opens_failed, opens_first, opens_found, opens_line, opens_long, opens_more, opens_taken, opens_unended}
use Rattle.iio_io.proofs.Told.{silent_more}
use Rattle.iio_script.proofs.EndLaws.{silent_first}
use Rattle.iio_script.proofs.opening.open.Goals as goal

pub loop-reader-init : goal.loop-reader-init
loop-reader-init g c =
    record {
      so_far =
          opens_first c.args.drivers c.in-Ok.reader c.args.lines.now (g.S.Source.left c.args.source.now)
          (let is : c.in-Ok.reader ≡ new_reader c.args.drivers = search rules in is);
      reading = search rules;
      drivers = search rules;
      count = search rules;
      hand = subst IsHand (sym c.requires) hand_first;
      begun = omega arith;
      silent = silent_first _;
      counted = refl;
    }

pub returns-in_err-find-clause-fault : goal.returns-in_err-find-clause-fault
returns-in_err-find-clause-fault g c =
    λ is. opens_failed c.args.drivers c.loop-reader.reader c.loop-reader.number c.args.lines.now c.find.new.self (g.S.Source.left c.args.source.now)
    (g.S.Source.left c.find.new.source) c.requires c.find.ensures.hand c.in_err-find.ensures.more c.loop-reader.invariant.reading
    (opens_found c.args.drivers c.loop-reader.reader c.loop-reader.number c.args.lines.now c.loop-reader.lines c.find.new.self
    (g.S.Source.left c.args.source.now) (g.S.Source.left c.loop-reader.source) (g.S.Source.left c.find.new.source) c.find.ensures.follows
    c.loop-reader.invariant.so_far)

pub returns-in_err-find-clause-taken : goal.returns-in_err-find-clause-taken
returns-in_err-find-clause-taken g c =
    opens_taken c.args.drivers c.loop-reader.reader c.loop-reader.number c.args.lines.now c.find.new.self (g.S.Source.left c.args.source.now)
    (g.S.Source.left c.find.new.source) c.requires c.find.ensures.hand
    (opens_found c.args.drivers c.loop-reader.reader c.loop-reader.number c.args.lines.now c.loop-reader.lines c.find.new.self
    (g.S.Source.left c.args.source.now) (g.S.Source.left c.loop-reader.source) (g.S.Source.left c.find.new.source) c.find.ensures.follows
    c.loop-reader.invariant.so_far)

pub returns-in-Long-clause-taken : goal.returns-in-Long-clause-taken
returns-in-Long-clause-taken g c =
    opens_taken c.args.drivers c.loop-reader.reader c.loop-reader.number c.args.lines.now c.find.new.self (g.S.Source.left c.args.source.now)
    (g.S.Source.left c.find.new.source) c.requires c.find.ensures.hand
    (opens_found c.args.drivers c.loop-reader.reader c.loop-reader.number c.args.lines.now c.loop-reader.lines c.find.new.self
    (g.S.Source.left c.args.source.now) (g.S.Source.left c.loop-reader.source) (g.S.Source.left c.find.new.source) c.find.ensures.follows
    c.loop-reader.invariant.so_far)

pub returns-in-End-clause-taken : goal.returns-in-End-clause-taken
returns-in-End-clause-taken g c =
    opens_taken c.args.drivers c.loop-reader.reader c.loop-reader.number c.args.lines.now c.find.new.self (g.S.Source.left c.args.source.now)
    (g.S.Source.left c.find.new.source) c.requires c.find.ensures.hand
    (opens_found c.args.drivers c.loop-reader.reader c.loop-reader.number c.args.lines.now c.loop-reader.lines c.find.new.self
    (g.S.Source.left c.args.source.now) (g.S.Source.left c.loop-reader.source) (g.S.Source.left c.find.new.source) c.find.ensures.follows
    c.loop-reader.invariant.so_far)

pub returns-in-Cut-clause-taken : goal.returns-in-Cut-clause-taken
returns-in-Cut-clause-taken g c =
    opens_taken c.args.drivers c.loop-reader.reader c.loop-reader.number c.args.lines.now c.find.new.self (g.S.Source.left c.args.source.now)
    (g.S.Source.left c.find.new.source) c.requires c.find.ensures.hand
    (opens_found c.args.drivers c.loop-reader.reader c.loop-reader.number c.args.lines.now c.loop-reader.lines c.find.new.self
    (g.S.Source.left c.args.source.now) (g.S.Source.left c.loop-reader.source) (g.S.Source.left c.find.new.source) c.find.ensures.follows
    c.loop-reader.invariant.so_far)

pub returns-in_err-opening-clause-taken : goal.returns-in_err-opening-clause-taken
returns-in_err-opening-clause-taken g c =
    opens_taken c.args.drivers c.loop-reader.reader c.loop-reader.number c.args.lines.now c.find.new.self (g.S.Source.left c.args.source.now)
    (g.S.Source.left c.find.new.source) c.requires c.find.ensures.hand
    (opens_found c.args.drivers c.loop-reader.reader c.loop-reader.number c.args.lines.now c.loop-reader.lines c.find.new.self
    (g.S.Source.left c.args.source.now) (g.S.Source.left c.loop-reader.source) (g.S.Source.left c.find.new.source) c.find.ensures.follows
    c.loop-reader.invariant.so_far)

pub returns-in-Err-Line-clause-taken : goal.returns-in-Err-Line-clause-taken
returns-in-Err-Line-clause-taken g c =
    opens_taken c.args.drivers c.loop-reader.reader c.loop-reader.number c.args.lines.now c.find.new.self (g.S.Source.left c.args.source.now)
    (g.S.Source.left c.find.new.source) c.requires c.find.ensures.hand
    (opens_found c.args.drivers c.loop-reader.reader c.loop-reader.number c.args.lines.now c.loop-reader.lines c.find.new.self
    (g.S.Source.left c.args.source.now) (g.S.Source.left c.loop-reader.source) (g.S.Source.left c.find.new.source) c.find.ensures.follows
    c.loop-reader.invariant.so_far)

pub returns-in-Err-Mem-clause-taken : goal.returns-in-Err-Mem-clause-taken
returns-in-Err-Mem-clause-taken g c =
    opens_taken c.args.drivers c.loop-reader.reader c.loop-reader.number c.args.lines.now c.find.new.self (g.S.Source.left c.args.source.now)
    (g.S.Source.left c.find.new.source) c.requires c.find.ensures.hand
    (opens_found c.args.drivers c.loop-reader.reader c.loop-reader.number c.args.lines.now c.loop-reader.lines c.find.new.self
    (g.S.Source.left c.args.source.now) (g.S.Source.left c.loop-reader.source) (g.S.Source.left c.find.new.source) c.find.ensures.follows
    c.loop-reader.invariant.so_far)

pub returns-then-is_end-clause-taken : goal.returns-then-is_end-clause-taken
returns-then-is_end-clause-taken g c =
    opens_taken c.args.drivers c.loop-reader.reader c.loop-reader.number c.args.lines.now c.find.new.self (g.S.Source.left c.args.source.now)
    (g.S.Source.left c.find.new.source) c.requires c.find.ensures.hand
    (opens_found c.args.drivers c.loop-reader.reader c.loop-reader.number c.args.lines.now c.loop-reader.lines c.find.new.self
    (g.S.Source.left c.args.source.now) (g.S.Source.left c.loop-reader.source) (g.S.Source.left c.find.new.source) c.find.ensures.follows
    c.loop-reader.invariant.so_far)

pub returns-in_err-find-clause-unended : goal.returns-in_err-find-clause-unended
returns-in_err-find-clause-unended g c =
    opens_unended c.args.drivers c.loop-reader.reader c.loop-reader.number c.args.lines.now c.find.new.self (g.S.Source.left c.args.source.now)
    (g.S.Source.left c.find.new.source) c.requires c.find.ensures.hand c.loop-reader.invariant.reading
    (opens_found c.args.drivers c.loop-reader.reader c.loop-reader.number c.args.lines.now c.loop-reader.lines c.find.new.self
    (g.S.Source.left c.args.source.now) (g.S.Source.left c.loop-reader.source) (g.S.Source.left c.find.new.source) c.find.ensures.follows
    c.loop-reader.invariant.so_far)

pub returns-in-Long-clause-unended : goal.returns-in-Long-clause-unended
returns-in-Long-clause-unended g c =
    opens_unended c.args.drivers c.loop-reader.reader c.loop-reader.number c.args.lines.now c.find.new.self (g.S.Source.left c.args.source.now)
    (g.S.Source.left c.find.new.source) c.requires c.find.ensures.hand c.loop-reader.invariant.reading
    (opens_found c.args.drivers c.loop-reader.reader c.loop-reader.number c.args.lines.now c.loop-reader.lines c.find.new.self
    (g.S.Source.left c.args.source.now) (g.S.Source.left c.loop-reader.source) (g.S.Source.left c.find.new.source) c.find.ensures.follows
    c.loop-reader.invariant.so_far)

pub returns-in-End-clause-unended : goal.returns-in-End-clause-unended
returns-in-End-clause-unended g c =
    opens_unended c.args.drivers c.loop-reader.reader c.loop-reader.number c.args.lines.now c.find.new.self (g.S.Source.left c.args.source.now)
    (g.S.Source.left c.find.new.source) c.requires c.find.ensures.hand c.loop-reader.invariant.reading
    (opens_found c.args.drivers c.loop-reader.reader c.loop-reader.number c.args.lines.now c.loop-reader.lines c.find.new.self
    (g.S.Source.left c.args.source.now) (g.S.Source.left c.loop-reader.source) (g.S.Source.left c.find.new.source) c.find.ensures.follows
    c.loop-reader.invariant.so_far)

pub returns-in-Cut-clause-unended : goal.returns-in-Cut-clause-unended
returns-in-Cut-clause-unended g c =
    opens_unended c.args.drivers c.loop-reader.reader c.loop-reader.number c.args.lines.now c.find.new.self (g.S.Source.left c.args.source.now)
    (g.S.Source.left c.find.new.source) c.requires c.find.ensures.hand c.loop-reader.invariant.reading
    (opens_found c.args.drivers c.loop-reader.reader c.loop-reader.number c.args.lines.now c.loop-reader.lines c.find.new.self
    (g.S.Source.left c.args.source.now) (g.S.Source.left c.loop-reader.source) (g.S.Source.left c.find.new.source) c.find.ensures.follows
    c.loop-reader.invariant.so_far)

pub returns-in_err-opening-clause-unended : goal.returns-in_err-opening-clause-unended
returns-in_err-opening-clause-unended g c =
    opens_unended c.args.drivers c.loop-reader.reader c.loop-reader.number c.args.lines.now c.find.new.self (g.S.Source.left c.args.source.now)
    (g.S.Source.left c.find.new.source) c.requires c.find.ensures.hand c.loop-reader.invariant.reading
    (opens_found c.args.drivers c.loop-reader.reader c.loop-reader.number c.args.lines.now c.loop-reader.lines c.find.new.self
    (g.S.Source.left c.args.source.now) (g.S.Source.left c.loop-reader.source) (g.S.Source.left c.find.new.source) c.find.ensures.follows
    c.loop-reader.invariant.so_far)

pub returns-in-Err-Line-clause-unended : goal.returns-in-Err-Line-clause-unended
returns-in-Err-Line-clause-unended g c =
    opens_unended c.args.drivers c.loop-reader.reader c.loop-reader.number c.args.lines.now c.find.new.self (g.S.Source.left c.args.source.now)
    (g.S.Source.left c.find.new.source) c.requires c.find.ensures.hand c.loop-reader.invariant.reading
    (opens_found c.args.drivers c.loop-reader.reader c.loop-reader.number c.args.lines.now c.loop-reader.lines c.find.new.self
    (g.S.Source.left c.args.source.now) (g.S.Source.left c.loop-reader.source) (g.S.Source.left c.find.new.source) c.find.ensures.follows
    c.loop-reader.invariant.so_far)

pub returns-in-Err-Mem-clause-unended : goal.returns-in-Err-Mem-clause-unended
returns-in-Err-Mem-clause-unended g c =
    opens_unended c.args.drivers c.loop-reader.reader c.loop-reader.number c.args.lines.now c.find.new.self (g.S.Source.left c.args.source.now)
    (g.S.Source.left c.find.new.source) c.requires c.find.ensures.hand c.loop-reader.invariant.reading
    (opens_found c.args.drivers c.loop-reader.reader c.loop-reader.number c.args.lines.now c.loop-reader.lines c.find.new.self
    (g.S.Source.left c.args.source.now) (g.S.Source.left c.loop-reader.source) (g.S.Source.left c.find.new.source) c.find.ensures.follows
    c.loop-reader.invariant.so_far)

pub returns-then-is_end-clause-unended : goal.returns-then-is_end-clause-unended
returns-then-is_end-clause-unended g c =
    opens_unended c.args.drivers c.loop-reader.reader c.loop-reader.number c.args.lines.now c.find.new.self (g.S.Source.left c.args.source.now)
    (g.S.Source.left c.find.new.source) c.requires c.find.ensures.hand c.loop-reader.invariant.reading
    (opens_found c.args.drivers c.loop-reader.reader c.loop-reader.number c.args.lines.now c.loop-reader.lines c.find.new.self
    (g.S.Source.left c.args.source.now) (g.S.Source.left c.loop-reader.source) (g.S.Source.left c.find.new.source) c.find.ensures.follows
    c.loop-reader.invariant.so_far)

pub returns-in-Long-clause-opening : goal.returns-in-Long-clause-opening
returns-in-Long-clause-opening g c =
    opens_long c.args.drivers c.loop-reader.reader c.loop-reader.number c.args.lines.now c.find.new.self (g.S.Source.left c.args.source.now)
    (g.S.Source.left c.find.new.source) c.requires c.find.ensures.hand (rw c.in-Long.is at c.in_ok-find.ensures.found) c.loop-reader.invariant.reading
    c.loop-reader.invariant.count
    (opens_found c.args.drivers c.loop-reader.reader c.loop-reader.number c.args.lines.now c.loop-reader.lines c.find.new.self
    (g.S.Source.left c.args.source.now) (g.S.Source.left c.loop-reader.source) (g.S.Source.left c.find.new.source) c.find.ensures.follows
    c.loop-reader.invariant.so_far)

pub returns-in-Cut-clause-opening : goal.returns-in-Cut-clause-opening
returns-in-Cut-clause-opening g c =
    opens_cut c.args.drivers c.loop-reader.reader c.loop-reader.number c.args.lines.now c.find.new.self (g.S.Source.left c.args.source.now)
    (g.S.Source.left c.find.new.source) c.requires c.find.ensures.hand (rw c.in-Cut.is at c.in_ok-find.ensures.found) c.loop-reader.invariant.reading
    (opens_found c.args.drivers c.loop-reader.reader c.loop-reader.number c.args.lines.now c.loop-reader.lines c.find.new.self
    (g.S.Source.left c.args.source.now) (g.S.Source.left c.loop-reader.source) (g.S.Source.left c.find.new.source) c.find.ensures.follows
    c.loop-reader.invariant.so_far)

pub returns-in-End-clause-opening : goal.returns-in-End-clause-opening
returns-in-End-clause-opening g c =
    opens_end_by c.args.drivers c.loop-reader.reader c.loop-reader.number c.end_after.result c.args.lines.now c.find.new.self
    (g.S.Source.left c.args.source.now) (g.S.Source.left c.find.new.source) c.requires c.find.ensures.hand (rw c.in-End.is at c.in_ok-find.ensures.found)
    c.loop-reader.invariant.count c.end_after.ensures.opening c.end_after.ensures.refused c.end_after.ensures.unended
    (opens_found c.args.drivers c.loop-reader.reader c.loop-reader.number c.args.lines.now c.loop-reader.lines c.find.new.self
    (g.S.Source.left c.args.source.now) (g.S.Source.left c.loop-reader.source) (g.S.Source.left c.find.new.source) c.find.ensures.follows
    c.loop-reader.invariant.so_far)

pub returns-then-is_end-clause-opening : goal.returns-then-is_end-clause-opening
returns-then-is_end-clause-opening g c =
    opens_at c.args.drivers c.loop-reader.reader c.loop-reader.number c.in_ok-opening.opening c.line-line.result.now c.args.lines.now c.find.new.self
    c.pass.new.self (g.S.Source.left c.args.source.now) (g.S.Source.left c.find.new.source) c.requires c.find.ensures.hand
    (rw c.in-Line.is at c.in_ok-find.ensures.found) c.line-line.ensures (sym c.is_end.ensures ∙ c.if-is_end.true) c.in_ok-opening.ensures.opening
    c.in_ok-opening.ensures.refused c.in_ok-opening.ensures.ended c.pass.ensures.follows
    (opens_found c.args.drivers c.loop-reader.reader c.loop-reader.number c.args.lines.now c.loop-reader.lines c.find.new.self
    (g.S.Source.left c.args.source.now) (g.S.Source.left c.loop-reader.source) (g.S.Source.left c.find.new.source) c.find.ensures.follows
    c.loop-reader.invariant.so_far)

pub returns-in-Err-Line-clause-opening : goal.returns-in-Err-Line-clause-opening
returns-in-Err-Line-clause-opening g c =
    opens_line c.args.drivers c.loop-reader.reader c.loop-reader.number c.in-Err-Line.number c.in-Err-Line.why c.line-line.result.now c.args.lines.now
    c.find.new.self (g.S.Source.left c.args.source.now) (g.S.Source.left c.find.new.source) c.requires c.find.ensures.hand
    (rw c.in-Line.is at c.in_ok-find.ensures.found) c.loop-reader.invariant.reading c.loop-reader.invariant.count c.line-line.ensures
    (sym c.is_end.ensures ∙ c.if-is_end.false)
    (subst (λ (e : DescFault). Locates e (after_line c.loop-reader.reader c.line-line.result.now)) c.in-Err-Line.field-0-is c.in-Err-Line.ensures.err)
    (opens_found c.args.drivers c.loop-reader.reader c.loop-reader.number c.args.lines.now c.loop-reader.lines c.find.new.self
    (g.S.Source.left c.args.source.now) (g.S.Source.left c.loop-reader.source) (g.S.Source.left c.find.new.source) c.find.ensures.follows
    c.loop-reader.invariant.so_far)

pub loop-reader-preserved : goal.loop-reader-preserved
loop-reader-preserved g c =
    let read = c.in-Ok-line.ensures in
    record {
      so_far =
          opens_more c.args.drivers c.loop-reader.reader c.line.new.self c.loop-reader.number c.line-line.result.now c.args.lines.now c.find.new.self
          c.pass-in-loop-reader.new.self (g.S.Source.left c.args.source.now) (g.S.Source.left c.find.new.source)
          c.pass-in-loop-reader.ensures.follows c.line-line.ensures (sym c.is_end.ensures ∙ c.if-is_end.false) read.ok.0
          (opens_found c.args.drivers c.loop-reader.reader c.loop-reader.number c.args.lines.now c.loop-reader.lines c.find.new.self
          (g.S.Source.left c.args.source.now) (g.S.Source.left c.loop-reader.source) (g.S.Source.left c.find.new.source) c.find.ensures.follows
          c.loop-reader.invariant.so_far);
      reading = read.ok.1;
      drivers = read.drivers ∙ c.loop-reader.invariant.drivers;
      count =
          omega (
            arith,
            ap line_count read.ok.0,
            line_counts c.loop-reader.reader c.line-line.result.now c.loop-reader.invariant.reading
                (subst IsOk read.ok.0 read.ok.1),
            c.loop-reader.invariant.count,
          );
      hand = c.pass-in-loop-reader.ensures.hand;
      begun = omega (arith, c.loop-reader.invariant.begun, c.pass-in-loop-reader.ensures.further, c.find.ensures.given);
      silent = silent_more _ _ _ c.loop-reader.invariant.silent c.find.ensures.silent;
      counted = c.in_ok-find.ensures.steady ∙ c.loop-reader.invariant.counted;
    }
