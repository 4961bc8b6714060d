use Rattle.std.proofs.Common.{◌≡◌, ◌+◌, ◌-◌, ◌*◌, ◌≤◌, [], None, IfNone}
use Rattle.iio_device.specs.Plug.{driver_of}
use Rattle.iio_history.specs.Registry.{Setup}
use Rattle.iio_bench.specs.Bench.{front_of}
use Rattle.iio_system.specs.Standing.{StandsFor}
use Rattle.iio_script.specs.Keeps.{excerpt_of}
use Rattle.iio_script.specs.LineReader.{IsHand}
use Rattle.iio_script.specs.Outline.{FindsSame}
use Rattle.iio_script.proofs.KeptLaws.{KeptSoFar}
use Rattle.iio_script.proofs.keeping.keep_steps.Given as goal

-- a line costs at most its bytes and one more: 1,048,577
abbrev pub invariant-loop-room : goal.invariant-loop-room
invariant-loop-room g l = record {
  keeps : (s : Setup) → StandsFor (driver_of (λ b. (g.dyn-1.0.entry b.vtable).1.driver b.value)) s [] l.fn.system → FindsSame l.names s.desc
      → KeptSoFar (driver_of (λ b. (g.dyn-1.0.entry b.vtable).1.driver b.value)) s l.watched l.system (excerpt_of l.offence l.text.items) l.first l.number
      l.fn.lines l.lines (g.S.Source.left l.fn.input) (g.S.Source.left l.input);
  hand : IsHand l.lines;
  front : front_of l.system.bench ≡ front_of l.fn.system.bench;
  begun : l.number ≤ l.lines.given + 1;
  used : l.system.used ≤ 1048577 * l.number;
  reads : g.S.Source.faults l.input ≡ g.S.Source.faults l.fn.input;
  silent : IfNone (g.S.Source.left l.fn.input) (g.S.Source.left l.input ≡ None);
}

abbrev pub decreases-loop-room : goal.decreases-loop-room
decreases-loop-room g l = 67108865 - l.lines.given
