-- Scans with a channel's data have at least one byte.
use Rattle.std.proofs.Common.{◌≡◌, ℕ, zero, suc, ◌<◌, ◌≤◌, true, List, [], ◌∷◌, ◌++◌, map, length, get_or, All, sym, ◌∙◌, subst, arith, rules}
use Rattle.std.proofs.lemmas.List.{get_or-map, get_or_append_left, length-append, length-map}
use Rattle.iio_mask.specs.Mask.{has}
use Rattle.iio_scan_type.specs.Format.{Format, size_of, stamp_format}
use Rattle.iio_scan_type.specs.declared.Endian.TheVariants.{Little}
use Rattle.iio_layout.specs.declared.channel.Channel.{Channel}
use Rattle.iio_layout.specs.Active.{has_below}
use Rattle.iio_layout.specs.Shape.{ShapeRecord, count_of, stamp_formats}
use Rattle.iio_layout.proofs.LayoutLemmas.{end_within}
use Rattle.iio_history.specs.Bench.{HasSizes}

some_data : (mask n : ℕ) → has_below mask n ≡ true → (c : ℕ) × (c < n) × (has mask c ≡ true)
some_data mask zero h = cc
some_data mask (suc n) h = search (rules, some_data mask n)

size_there : (xs : List Channel) (rest : List Format) (c : ℕ) → All (λ (channel : Channel). 1 ≤ size_of channel.ty) xs → c < length xs
    → 1 ≤ size_of (get_or (map (λ channel. channel.ty) xs ++ rest) c (stamp_format Little))
size_there [] rest c sizes below = absurd (omega arith)
size_there (x ∷ xs) rest c sizes below =
    let types : List Format = map (λ channel. channel.ty) (x ∷ xs) in
    let many : length types ≡ length (x ∷ xs) = length-map (x ∷ xs) (λ channel. channel.ty) in
    subst (λ (f : Format). 1 ≤ size_of f)
    (sym (get_or_append_left types rest (stamp_format Little) c (omega (arith, many))
    ∙ get_or-map (λ (channel : Channel). channel.ty) (x ∷ xs) c x (stamp_format Little) below)) (sizes c x below)

pub sizes_from : (shape : ShapeRecord) → All (λ (channel : Channel). 1 ≤ size_of channel.ty) shape.channels → HasSizes shape
sizes_from shape sizes mask h =
    let s = some_data mask (length shape.channels) h in
    let types : List Format = map (λ channel. channel.ty) shape.channels in
    let many : length types ≡ length shape.channels = length-map shape.channels (λ channel. channel.ty) in
    let within : s.0 < count_of shape = omega (arith, s.1, many, length-append types (stamp_formats shape.stamp)) in
    let place = end_within shape mask s.0 within s.2 in
    let some = size_there shape.channels (stamp_formats shape.stamp) s.0 sizes s.1 in
    omega (arith, place, some)
