use Rattle.std.proofs.Common.{◌≡◌, ◌+◌, ◌-◌, ◌≤◌, ℕ, List, [], ◌∷◌, ◌++◌, length, drop, refl, sym, ap, ◌∙◌, subst, arith}
use Rattle.std.proofs.lemmas.List.{drop-drop, length-drop}
use Rattle.iio_script.specs.LineReader.{Follows, Hand, HasLine, line_of}
use Rattle.iio_script.specs.declared.line_reader.LineReader.TheInside.{Inside}
use Rattle.iio_script.specs.contracts.line_reader.LineReader.{the_view}
use Rattle.iio_script.proofs.HandLaws.{passed}
use Rattle.iio_script.proofs.line_reader.LineReader.pass.Goals as goal
use Rattle.iio_script.proofs.line_reader.LineReader.pass.Goals.{then-end-len, else-end-len}

-- the bytes after an LF
behind : (bytes : List ℕ) (begin looked begin' : ℕ) → begin' ≡ begin + looked + 1 → drop begin' bytes ≡ drop (looked + 1) (drop begin bytes)
behind bytes begin looked begin' is = ap (λ n. drop n bytes) (omega (arith, is)) ∙ sym (drop-drop (looked + 1) begin bytes)

pub returns-clause-follows : goal.returns-clause-follows
returns-clause-follows c = λ input front left follows.
    let inside : Inside = c.self.inside in
    let now : Inside = record c.if-end-len.self-inside { looked = 0 } in
    let long : length (the_view inside).bytes ≡ length inside.bytes.items - inside.begin = length-drop inside.begin inside.bytes.items in
    let few : inside.begin ≤ length inside.bytes.items = omega (arith, c.self.invariant.0, c.len.ensures, inside.bytes.ok.0) in
    subst (λ (h : Hand). Follows input (front ++ line_of h ∷ []) (the_view now) left) c.self.view_is
    (elim c.if-end-len.branch [
      | then-end-len w ↦
          passed input front (the_view inside) (the_view now) left c.self.invariant.2 (subst HasLine (sym c.self.view_is) c.requires)
          (λ some. ap (λ (x : Inside). the_view (record x { looked = 0 })) w.self-inside-is
          ∙ ap (λ (bytes : List ℕ). record { bytes = bytes; looked = 0; given = inside.given + (inside.looked + 1); ended = inside.ended; over = inside.over })
          (behind inside.bytes.items inside.begin inside.looked _ refl))
          (λ all. absurd (omega (arith, all, w.if-end-len.true, c.len.ensures, long)))
          (subst (λ (h : Hand). Follows input front h left) (sym c.self.view_is) follows)
      | else-end-len w ↦
          passed input front (the_view inside) (the_view now) left c.self.invariant.2 (subst HasLine (sym c.self.view_is) c.requires)
          (λ some. absurd (omega (arith, some, w.if-end-len.false, c.len.ensures, long, few)))
          (λ all. ap (λ (x : Inside). x.over) w.self-inside-is)
          (subst (λ (h : Hand). Follows input front h left) (sym c.self.view_is) follows)
    ])
