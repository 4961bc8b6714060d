use Rattle.std.proofs.Common.{rules, ◌≡◌, ◌<◌, ◌≤◌, ℕ, nat_lt, true, length, sym, ◌∙◌, subst, arith}
use Rattle.std.proofs.lemmas.Bool.Decides.{nat_tests}
use Rattle.iio_history.specs.Script.{max_names}
use Rattle.iio_system.proofs.NameLaws.{room_full, room_short}
use Rattle.iio_system.proofs.system.System.takes.Goals as goal

pub returns-then-len-lt-MAX_NAMES : goal.returns-then-len-lt-MAX_NAMES
returns-then-len-lt-MAX_NAMES g c =
    let many : c.len.result ≡ length c.args.self.now.connections.items = search rules in
    let few : nat_lt c.len.result max_names ≡ true = grind (arith, nat_tests, c.if-len-lt-MAX_NAMES.true) in
    few ∙ sym (room_short c.args.name.now c.args.self.now.connections.items (subst (λ (n : ℕ). n < max_names) many c.if-len-lt-MAX_NAMES.true))

pub returns-else-len-lt-MAX_NAMES : goal.returns-else-len-lt-MAX_NAMES
returns-else-len-lt-MAX_NAMES g c =
    let many : c.len.result ≡ length c.args.self.now.connections.items = search rules in
    c.is_some.ensures
    ∙ sym (room_full c.args.name.now c.args.self.now.connections.items c.place.result (rw c.deref.ensures.value at c.place.ensures)
    (subst (λ (n : ℕ). max_names ≤ n) many c.if-len-lt-MAX_NAMES.false))
