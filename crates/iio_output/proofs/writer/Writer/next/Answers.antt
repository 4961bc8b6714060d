use Rattle.std.proofs.Common.{◌++◌, drop, ap, sym, ◌∙◌, List, ℕ}
use Rattle.circular_buffer.specs.Buffer.{buffer}
use Rattle.iio_output.proofs.WriterLemmas.{gave}
use Rattle.iio_output.proofs.writer.Writer.next.Goals as goal

pub invariant_of-self-else-self : goal.invariant_of-self-else-self
invariant_of-self-else-self c =
    let w = c.self.inside in
    let it = gave w.mask.bits w.size w.capacity w.bytes.capacity w.bytes.items c.self.invariant (sym c.is_empty.ensures ∙ c.if-is_empty.false) in
    let long = rw (← c.self.view_is) at c.requires in
    let read = it.read c.read_into.result c.args.out.now long c.read_into.ensures.count in
    let out = c.read_into.ensures.read ∙ read.1 in
    let left = c.read_into.ensures.items ∙ ap (λ n. buffer (drop n w.bytes.items) w.bytes.capacity) read.0 in
    rw left it.whole

pub returns-then-self-clause-answer : goal.returns-then-self-clause-answer
returns-then-self-clause-answer c =
    let w = c.self.inside in
    let it = gave w.mask.bits w.size w.capacity w.bytes.capacity w.bytes.items c.self.invariant (sym c.is_empty.ensures ∙ c.if-is_empty.false) in
    let long = rw (← c.self.view_is) at c.requires in
    let read = it.read c.read_into.result c.args.out.now long c.read_into.ensures.count in
    let out = c.read_into.ensures.read ∙ read.1 in
    let left = c.read_into.ensures.items ∙ ap (λ n. buffer (drop n w.bytes.items) w.bytes.capacity) read.0 in
    rw (← c.self.view_is) it.answer

pub returns-then-self-clause-scan : goal.returns-then-self-clause-scan
returns-then-self-clause-scan c =
    let w = c.self.inside in
    let it = gave w.mask.bits w.size w.capacity w.bytes.capacity w.bytes.items c.self.invariant (sym c.is_empty.ensures ∙ c.if-is_empty.false) in
    let long = rw (← c.self.view_is) at c.requires in
    let read = it.read c.read_into.result c.args.out.now long c.read_into.ensures.count in
    let out = c.read_into.ensures.read ∙ read.1 in
    let left = c.read_into.ensures.items ∙ ap (λ n. buffer (drop n w.bytes.items) w.bytes.capacity) read.0 in
    rw (← c.self.view_is) (out ∙ it.scan c.args.out.now)

pub returns-then-self-clause-given : goal.returns-then-self-clause-given
returns-then-self-clause-given c =
    let w = c.self.inside in
    let it = gave w.mask.bits w.size w.capacity w.bytes.capacity w.bytes.items c.self.invariant (sym c.is_empty.ensures ∙ c.if-is_empty.false) in
    let long = rw (← c.self.view_is) at c.requires in
    let read = it.read c.read_into.result c.args.out.now long c.read_into.ensures.count in
    let out = c.read_into.ensures.read ∙ read.1 in
    let left = c.read_into.ensures.items ∙ ap (λ n. buffer (drop n w.bytes.items) w.bytes.capacity) read.0 in
    let count = rw (out, left) at c.fill_from_slice.ensures.count in
    let all = rw (out, left) at c.fill_from_slice.ensures.items in
    let filled = all ∙ ap (λ (xs : List ℕ). buffer (drop w.size w.bytes.items ++ xs) w.bytes.capacity) (it.filled c.fill_from_slice.result count) in
    rw (← c.self.view_is) (rw (filled, c.if-self.true) it.again)

pub returns-else-self-clause-answer : goal.returns-else-self-clause-answer
returns-else-self-clause-answer c =
    let w = c.self.inside in
    let it = gave w.mask.bits w.size w.capacity w.bytes.capacity w.bytes.items c.self.invariant (sym c.is_empty.ensures ∙ c.if-is_empty.false) in
    let long = rw (← c.self.view_is) at c.requires in
    let read = it.read c.read_into.result c.args.out.now long c.read_into.ensures.count in
    let out = c.read_into.ensures.read ∙ read.1 in
    let left = c.read_into.ensures.items ∙ ap (λ n. buffer (drop n w.bytes.items) w.bytes.capacity) read.0 in
    rw (← c.self.view_is) it.answer

pub returns-else-self-clause-scan : goal.returns-else-self-clause-scan
returns-else-self-clause-scan c =
    let w = c.self.inside in
    let it = gave w.mask.bits w.size w.capacity w.bytes.capacity w.bytes.items c.self.invariant (sym c.is_empty.ensures ∙ c.if-is_empty.false) in
    let long = rw (← c.self.view_is) at c.requires in
    let read = it.read c.read_into.result c.args.out.now long c.read_into.ensures.count in
    let out = c.read_into.ensures.read ∙ read.1 in
    let left = c.read_into.ensures.items ∙ ap (λ n. buffer (drop n w.bytes.items) w.bytes.capacity) read.0 in
    rw (← c.self.view_is) (out ∙ it.scan c.args.out.now)

pub returns-else-self-clause-given : goal.returns-else-self-clause-given
returns-else-self-clause-given c =
    let w = c.self.inside in
    let it = gave w.mask.bits w.size w.capacity w.bytes.capacity w.bytes.items c.self.invariant (sym c.is_empty.ensures ∙ c.if-is_empty.false) in
    let long = rw (← c.self.view_is) at c.requires in
    let read = it.read c.read_into.result c.args.out.now long c.read_into.ensures.count in
    let out = c.read_into.ensures.read ∙ read.1 in
    let left = c.read_into.ensures.items ∙ ap (λ n. buffer (drop n w.bytes.items) w.bytes.capacity) read.0 in
    rw (← c.self.view_is) (rw (left, c.if-self.false) it.once)
