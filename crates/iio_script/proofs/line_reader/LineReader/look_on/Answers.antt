use Rattle.std.proofs.Common.{◌≡◌, ◌+◌, ◌-◌, ℕ, List, length, take, drop, sym, ap, ◌∙◌, subst, arith, inl, inr}
use Rattle.std.proofs.lemmas.List.{drop-drop, length-drop, take_all}
use Rattle.iio_script.specs.LineReader.{Hand, IsHand, StandsAtEnd}
use Rattle.iio_script.proofs.HandLaws.{scanned_all, scanned_to, stands_at}
use Rattle.iio_script.proofs.line_reader.LineReader.look_on.Goals as goal
use Rattle.iio_script.proofs.line_reader.LineReader.look_on.Goals.{in-Some, in-None}

behind : (bytes all : List ℕ) (begin looked : ℕ) → all ≡ bytes
    → take (length all - (begin + looked)) (drop (begin + looked) all) ≡ drop looked (drop begin bytes)
behind bytes all begin looked same =
    take_all (length all - (begin + looked)) (drop (begin + looked) all) (omega (arith, length-drop (begin + looked) all))
    ∙ ap (drop (begin + looked)) same ∙ sym (drop-drop looked begin bytes)

pub invariant_of-self : goal.invariant_of-self
invariant_of-self c =
    let inside = c.self.inside in
    let h : Hand =
    record { bytes = drop inside.begin inside.bytes.items; looked = inside.looked; given = inside.given; ended = inside.ended; over = inside.over } in
    let text = behind inside.bytes.items c.deref.result.now inside.begin inside.looked c.deref.ensures.value in
    let long : length h.bytes ≡ length inside.bytes.items - inside.begin = length-drop inside.begin inside.bytes.items in (
      c.self.invariant.0,
      c.self.invariant.1,
      elim c.match-line_end.branch [
        | in-Some w ↦
            subst (λ (n : ℕ). IsHand (record h { looked = n })) (sym w.self-is)
            (scanned_to h _ w.in-Some.len c.self.invariant.2 text (rw w.in-Some.is at c.line_end.ensures))
        | in-None w ↦
            scanned_all h _ c.match-line_end.self c.self.invariant.2 text (rw w.in-None.is at c.line_end.ensures)
            (omega (arith, w.self-is, w.len.ensures, long))
      ],
    )

pub returns-clause-hand : goal.returns-clause-hand
returns-clause-hand c = (invariant_of-self c).2

pub returns-clause-at : goal.returns-clause-at
returns-clause-at c =
    let inside = c.self.inside in
    let h : Hand =
    record { bytes = drop inside.begin inside.bytes.items; looked = inside.looked; given = inside.given; ended = inside.ended; over = inside.over } in
    let text = behind inside.bytes.items c.deref.result.now inside.begin inside.looked c.deref.ensures.value in
    elim c.match-line_end.branch [
      | in-Some w ↦
          inr (subst (λ (n : ℕ). StandsAtEnd (record h { looked = n })) (sym w.self-is)
          (stands_at h _ w.in-Some.len c.self.invariant.2.looked text (rw w.in-Some.is at c.line_end.ensures)))
      | in-None w ↦ inl (omega (arith, w.self-is, w.len.ensures, length-drop inside.begin inside.bytes.items))
    ]
