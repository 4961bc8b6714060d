use Rattle.iio_trigger.proofs.Ranks.{InOrder-entries_at}
use Rattle.iio_trigger.proofs.Trigger.poll.Goals as goal

pub invariant_of-self-2 : goal.invariant_of-self-2
invariant_of-self-2 c =
    rw (c.add_entries.ensures, c.as_slice.ensures.value) (
      c.self.invariant.0,
      c.self.invariant.1,
      c.self.invariant.2,
      InOrder-entries_at 0 c.self.inside.attached.items _ c.self.invariant.2,
    )
