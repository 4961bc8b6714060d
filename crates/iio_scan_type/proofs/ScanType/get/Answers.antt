use Rattle.std.proofs.Common.{◌≡◌, ◌+◌, ◌-◌, ◌*◌, ◌/◌, ℕ, take, drop, FitsSigned, w64, rules, arith, subst, sym, ◌∙◌, ap}
use Rattle.std.proofs.lemmas.Int.{to_z-of_z}
use Rattle.std.specs.Int.{cast_signed, cast_unsigned}
use Rattle.iio_scan_type.specs.Format.{Format, IsInProfile, IsInRange}
use Rattle.iio_scan_type.specs.Bytes.{low_bits, number_of, element_at, value_in, value_at}
use Rattle.iio_scan_type.proofs.Elements.{value_in-range, low_bits-value_in}
use Rattle.iio_scan_type.proofs.ScanType.get.Goals as goal

pub returns : goal.returns
returns c =
    let f : Format = c.args.self.now in
    let bytes = c.args.bytes.now in
    let k : ℕ = c.args.k in
    let profile = subst (λ (g : Format). IsInProfile g) c.self.view_is c.self.invariant in
    let n : ℕ = c.self.inside.storagebits / 8 in
    let part : k * n + n - k * n ≡ n = omega arith in
    let read : c.read_number-number.result ≡ number_of f.endian (element_at f bytes k) =
    c.read_number-number.ensures ∙ ap (λ m. number_of c.self.inside.endian (take m (drop (k * n) bytes))) part
    ∙ ap (λ (g : Format). number_of g.endian (element_at g bytes k)) c.self.view_is in
    let fits : FitsSigned w64 c.value_of.result = search rules in
    let value : cast_signed w64 (cast_unsigned w64 c.value_of.result) ≡ value_at f bytes k =
    to_z-of_z w64 c.value_of.result fits ∙ c.value_of.ensures ∙ ap (value_in f) read in
    record {
      value = value;
      in_range = subst (λ z. IsInRange f z) (sym value) (value_in-range f (number_of f.endian (element_at f bytes k)) profile);
      stands = ap (low_bits f.realbits) value ∙ low_bits-value_in f (number_of f.endian (element_at f bytes k)) profile;
    }
