use Rattle.std.proofs.Common.{◌≡◌, ◌+◌, ◌-◌, ◌*◌, ◌≤◌, [], None, IfNone}
use Rattle.iio_device.specs.Plug.{driver_of}
use Rattle.iio_history.specs.Registry.{Setup}
use Rattle.iio_bench.specs.Bench.{front_of}
use Rattle.iio_system.specs.Standing.{StandsFor}
use Rattle.iio_script.specs.LineReader.{IsHand}
use Rattle.iio_script.specs.Outline.{FindsSame}
use Rattle.iio_script.proofs.StepLaws.{SoFar}
use Rattle.iio_script.proofs.script.play_steps.Given as goal

-- a line costs at most its bytes and one more: 1,048,577
abbrev pub invariant-loop-room : goal.invariant-loop-room
invariant-loop-room g l = record {
  played : (s : Setup) → StandsFor (driver_of (λ b. (g.dyn-1.0.entry b.vtable).1.driver b.value)) s [] l.fn.system → FindsSame l.names s.desc
      → SoFar (driver_of (λ b. (g.dyn-1.0.entry b.vtable).1.driver b.value)) s l.system l.out.items l.first l.number l.fn.lines l.lines
      (g.S.Source.left l.fn.input) (g.S.Source.left l.input)
      (g.K.Sink.written l.fn.output) (g.K.Sink.written l.output);
  hand : IsHand l.lines;
  front : front_of l.system.bench ≡ front_of l.fn.system.bench;
  begun : l.number ≤ l.lines.given + 1;
  used : l.system.used ≤ 1048577 * l.number;
  reads : g.S.Source.faults l.input ≡ g.S.Source.faults l.fn.input;
  writes : g.K.Sink.faults l.output ≡ g.K.Sink.faults l.fn.output;
  silent : (IfNone (g.S.Source.left l.fn.input) (g.S.Source.left l.input ≡ None)) × (IfNone (g.K.Sink.written l.fn.output) (g.K.Sink.written l.output ≡ None));
}

abbrev pub decreases-loop-room : goal.decreases-loop-room
decreases-loop-room g l = 67108865 - l.lines.given
