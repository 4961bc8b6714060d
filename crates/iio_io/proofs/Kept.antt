-- Known bytes that were kept for a while, and then read or written.
use Rattle.std.proofs.Common.{ℕ, List, ◌++◌, None, Some, ap, sym, ◌∙◌}
use Rattle.std.proofs.KnownBytes.{Keeps-refl, Keeps-trans}
use Rattle.std.specs.declared.option.Option.{Option}
use Rattle.std.specs.Io.KnownBytes.{Keeps, Appends, Consumes}

pub keeps_refl : (a : Option (List ℕ)) → Keeps a a
keeps_refl a = Keeps-refl a

pub keeps_trans : (a b c : Option (List ℕ)) → Keeps a b → Keeps b c → Keeps a c
keeps_trans a b c p q = Keeps-trans a b c p q

pub kept_consumes : (a b c : Option (List ℕ)) (bs : List ℕ) → Keeps a b → Consumes b c bs → Consumes a c bs
kept_consumes None b c bs p q = tt
kept_consumes (Some x) None c bs p q = absurd p
kept_consumes (Some x) (Some y) None bs p q = absurd q
kept_consumes (Some x) (Some y) (Some z) bs p q = sym p ∙ q

pub kept_appends : (a b c : Option (List ℕ)) (bs : List ℕ) → Keeps a b → Appends b c bs → Appends a c bs
kept_appends None b c bs p q = tt
kept_appends (Some x) None c bs p q = absurd p
kept_appends (Some x) (Some y) None bs p q = absurd q
kept_appends (Some x) (Some y) (Some z) bs p q = q ∙ ap (λ l. l ++ bs) p
