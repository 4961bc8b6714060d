use Rattle.std.proofs.Common.{ℕ, List, ◌≡◌, ◌≤◌, ◌+◌, ◌-◌, ◌*◌, ◌++◌, length, take, drop, vec_capacity, ap, refl, sym, ◌∙◌, arith, mul-le-mul_right}
use Rattle.std.proofs.lemmas.List.{append_assoc, length-append, length-take}
use Rattle.iio_kfifo.specs.Ring.{bytes_from}
use Rattle.iio_kfifo.proofs.Rings.{first_bytes, given_bytes, length-given, less_ring, run_fits, scans_left}
use Rattle.iio_kfifo.proofs.Scans.{length-scans_in}
use Rattle.iio_kfifo.proofs.kfifo.Kfifo.take_scans.Goals as goal

pub slice_bounds-extend_from_slice-end : goal.slice_bounds-extend_from_slice-end
slice_bounds-extend_from_slice-end c =
    let q = c.self.inside in
    let fits = run_fits q.first q.waiting c.min-count.result q.size q.capacity (vec_capacity q.bytes) q.bytes.items c.self.invariant (omega arith) in
    rw (c.deref.ensures.value, c.min-run.ensures) fits

pub invariant_of-self : goal.invariant_of-self
invariant_of-self c =
    let q = c.self.inside in
    let there : c.min-count.result ≤ q.waiting = omega arith in
    rw (c.first_after-self-inside.ensures.value)
    (less_ring q.first q.waiting c.min-count.result q.size q.capacity (vec_capacity q.bytes) q.bytes.items c.self.invariant there)

pub returns-clause-gives : goal.returns-clause-gives
returns-clause-gives c =
    let q = c.self.inside in
    let count = c.min-count.result in
    let run = c.min-run.result in
    let start = q.first * q.size in
    let bytes = q.bytes.items in
    let out = c.args.out.now in
    let some = c.min-count.ensures in
    let low : count ≤ c.args.most = omega (arith, some) in
    let there : count ≤ q.waiting = omega (arith, some) in
    -- the two parts that were written
    let first = take (run * q.size) (drop start bytes) in
    let second = take ((count - run) * q.size) bytes in
    let wide : start + run * q.size - start ≡ run * q.size = omega arith in
    let part : take (start + run * q.size - start) (drop start c.deref.result.now) ≡ first = rw (c.deref.ensures.value, wide) refl in
    let parts : first ++ second ≡ take (count * q.size) (bytes_from start bytes)
    = rw c.min-run.ensures (sym (first_bytes q.first q.waiting count q.size q.capacity (vec_capacity q.bytes) bytes c.self.invariant there)) in
    -- there was room for both
    let asked : length out.items + c.args.most * q.size ≤ vec_capacity out = rw (← c.self.view_is) at c.requires in
    let whole : run + (count - run) ≡ count = omega (arith, c.min-run.ensures) in
    let both : (run + (count - run)) * q.size ≡ count * q.size = ap (λ n. n * q.size) whole in
    let few = mul-le-mul_right q.size low in
    let short = length-take (run * q.size) (drop start bytes) in
    let short' = length-take ((count - run) * q.size) bytes in
    let had = out.ok.0 in
    let ok = c.extend_from_slice.ensures.succeeds (rw part (omega (arith, asked, both, few, short, had))) in
    let added = rw (ok, part) at c.extend_from_slice.ensures.items in
    let longer = rw (ok, part) at c.extend_from_slice.ensures.len in
    let kept = c.extend_from_slice.ensures.capacity in
    let ok' = c.extend_from_slice-2.ensures.succeeds (rw c.deref-2.ensures.value (omega (arith, asked, both, few, short, short', had, longer, kept))) in
    let added' = rw (ok', c.deref-2.ensures.value) at c.extend_from_slice-2.ensures.items in
    rw (← c.self.view_is) (rw c.first_after-self-inside.ensures.value (record {
      count = omega (arith, some, length-scans_in q.size q.waiting (bytes_from start bytes));
      bytes = added' ∙ ap (λ xs. xs ++ second) added ∙ append_assoc out.items first second
          ∙ ap (λ xs. out.items ++ xs)
          (parts ∙ sym (given_bytes q.first q.waiting c.args.most count q.size q.capacity (vec_capacity q.bytes) bytes c.self.invariant some));
      same = ap (λ (xs : List (List ℕ)). record { scans = xs; taken = q.taken; lost = q.lost; size = q.size; capacity = q.capacity })
          (sym (scans_left q.first q.waiting c.args.most count q.size q.capacity (vec_capacity q.bytes) bytes c.self.invariant some));
    }))

pub returns-clause-sized : goal.returns-clause-sized
returns-clause-sized c =
    let q = c.self.inside in
    let given = (returns-clause-gives c).bytes in
    ap length given ∙ length-append c.args.out.now.items _
    ∙ rw (← c.self.view_is) (ap (λ n. length c.args.out.now.items + n)
    (length-given q.first q.waiting c.args.most c.min-count.result q.size q.capacity (vec_capacity q.bytes) q.bytes.items c.self.invariant c.min-count.ensures))
