use Rattle.std.proofs.Common.{◌≡◌, ◌<◌, ◌+◌, ◌-◌, ◌*◌, length, take, drop, vec_capacity, ap, refl, ◌∙◌, arith}
use Rattle.std.proofs.lemmas.List.{length-drop, take-append-le}
use Rattle.iio_kfifo.proofs.Rings.{first_fits, ring_less}
use Rattle.iio_kfifo.proofs.kfifo.Kfifo.take.Goals as goal

pub returns : goal.returns
returns c =
    let q = c.self.inside in
    let start = q.first * q.size in
    let rest = drop start q.bytes.items in
    let long : start + q.size - start ≡ q.size = omega arith in
    let some : 0 < q.waiting = omega arith in
    let fits = first_fits q.first q.waiting q.size q.capacity (length q.bytes.items) (vec_capacity q.bytes) c.self.invariant some in
    let out = c.copy_from_slice.ensures.after ∙ ap (λ bs. take (start + q.size - start) (drop start bs)) c.deref.ensures.value ∙ ap (λ n. take n rest) long in
    let first = take-append-le q.size rest q.bytes.items (omega (arith, fits, length-drop start q.bytes.items)) in
    let less = ring_less q.first q.waiting 1 q.size q.capacity (vec_capacity q.bytes) q.bytes.items c.self.invariant some in
    rw (← c.self.view_is) (rw (c.first_after-self-inside.ensures.value, out, ← first) (record { first = less; same = refl }))
