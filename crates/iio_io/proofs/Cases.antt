-- What holds in each case of a result holds of the result.
use Rattle.std.proofs.Common.{◌≡◌, ◌≤◌, ℕ, Option, Some, None, Result, Ok, Err, IfSome, IfNone, IfOk, OnErr, arith}
use Rattle.iio_base.specs.Faults.{Rose}
use Rattle.iio_io.specs.declared.traits.Failed.{Failed}
use Rattle.iio_io.specs.Outside.{CountsFault}

pub any_some : {A : Type 0} {P : A → Type 0} (o : Option A) → ((x : A) → P x) → IfSome o P
any_some None f = tt
any_some (Some x) f = f x

pub any_none : {A : Type 0} {P : Type 0} (o : Option A) → P → IfNone o P
any_none None p = p
any_none (Some x) p = tt

pub any_ok : {A E : Type 0} {P : A → Type 0} (r : Result A E) → ((x : A) → P x) → IfOk r P
any_ok (Ok x) f = f x
any_ok (Err e) f = tt

pub any_err : {A E : Type 0} {P : Type 0} (r : Result A E) → P → OnErr r P
any_err (Ok x) p = tt
any_err (Err e) p = p

-- what a count of faults shows
pub steady_of : {A : Type 0} (r : Result A Failed) (before after : ℕ) → CountsFault r before after → IfOk r (λ _. after ≡ before)
steady_of (Ok x) before after c = c
steady_of (Err e) before after c = tt

pub counted_of : {A : Type 0} (r : Result A Failed) (before after : ℕ) → CountsFault r before after → before ≤ after
counted_of (Ok x) before after c = omega (arith, c)
counted_of (Err e) before after c = omega (arith, c)

pub failed_of : {A : Type 0} (r : Result A Failed) (before after : ℕ) → CountsFault r before after → OnErr r (Rose before after)
failed_of (Ok x) before after c = tt
failed_of (Err e) before after c = omega (arith, c)
