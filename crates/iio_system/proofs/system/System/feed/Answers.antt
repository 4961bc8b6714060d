use Rattle.std.proofs.Common.{◌+◌, length, ap, refl}
use Rattle.iio_device.specs.Plug.{driver_of}
use Rattle.iio_bench.specs.Bench.{Kept, captures_of}
use Rattle.iio_system.specs.declared.step.Step.TheVariants as code
use Rattle.iio_system.proofs.PlayLaws.{made_feed}
use Rattle.iio_system.proofs.StepLaws.{counted_more, performed_ok, rise_none}
use Rattle.iio_system.proofs.system.System.feed.Goals as goal

pub invariant_of-self : goal.invariant_of-self
invariant_of-self g c = record {
  owned = c.feed.ensures.owned;
  counted =
      counted_more (code.Feed c.args.name.now c.args.bytes.now) c.args.self.now.used (1 + length c.args.bytes.now) (captures_of c.args.self.now.bench)
      (captures_of c.feed.new.bench) refl
      (rise_none _ _ (ap (λ (k : Kept). k.captures) c.feed.ensures.kept)) c.args.self.now.counted;
  few = c.feed.ensures.few;
  apart = c.feed.ensures.apart;
}

pub returns-clause-performed : goal.returns-clause-performed
returns-clause-performed g c =
    performed_ok (driver_of (λ b. (g.dyn-1.0.entry b.vtable).1.driver b.value)) c.args.self.now _ (code.Feed c.args.name.now c.args.bytes.now)
    c.args.out.now.items c.feed.new.out.items c.feed.result c.requires.few refl
    (made_feed (driver_of (λ b. (g.dyn-1.0.entry b.vtable).1.driver b.value)) c.args.name.now c.args.bytes.now c.args.self.now.bench c.feed.new.bench
    c.args.self.now.connections.items c.feed.new.connections.items c.args.out.now.items c.feed.new.out.items c.feed.result c.feed.ensures.makes)
    c.feed.ensures.names
