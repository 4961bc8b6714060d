use Rattle.std.proofs.Common.{◌≡◌, ◌≤◌, ℕ, length, take, drop, refl, sym, ◌∙◌, subst, arith}
use Rattle.std.proofs.lemmas.List.{length-drop}
use Rattle.iio_script.specs.LineReader.{Follows, Hand, NeedsMore}
use Rattle.iio_script.specs.declared.line_reader.LineReader.TheInside.{Inside}
use Rattle.iio_script.specs.contracts.line_reader.LineReader.{the_view}
use Rattle.iio_script.proofs.HandLaws.{filled, filled_hand, piece_behind, takes_more}
use Rattle.iio_script.proofs.line_reader.LineReader.fill.Goals as goal

pub read_piece-requires-clause-some : goal.read_piece-requires-clause-some
read_piece-requires-clause-some g c =
    let needs : NeedsMore (the_view c.self.inside) = subst NeedsMore (sym c.close_up.ensures.same ∙ sym c.self.view_is) c.requires in
    let long = length-drop c.self.inside.begin c.self.inside.bytes.items in
    omega (arith, needs.within, c.min-room.ensures, c.len.ensures, long, c.self.inside.bytes.ok.0)

pub invariant_of-self-2 : goal.invariant_of-self-2
invariant_of-self-2 g c =
    let inside : Inside = c.self.inside in
    let needs : NeedsMore (the_view inside) = subst NeedsMore (sym c.close_up.ensures.same ∙ sym c.self.view_is) c.requires in
    let read = c.in_ok-count.ensures in
    let long = length-drop inside.begin inside.bytes.items in
    let few : inside.begin ≤ length inside.bytes.items = omega (arith, c.self.invariant.0, inside.bytes.ok.0) in (
      omega (arith, c.self.invariant.0, read.count.1),
      c.self.invariant.1,
      filled_hand (the_view inside) inside.bytes.items c.read_piece.new.bytes.items inside.begin c.in_ok-count.count _ c.self.invariant.2 needs refl few
          (subst (λ (n : ℕ). take n c.read_piece.new.bytes.items ≡ inside.bytes.items) inside.bytes.ok.0 read.behind)
          (omega (arith, read.count.1, inside.bytes.ok.0, c.read_piece.new.bytes.ok.0))
          (omega (arith, read.count.0, c.min-room.ensures))
          (omega (arith, read.count.0, c.min-room.ensures, c.len.ensures, long, inside.bytes.ok.0, needs.within)),
    )

pub returns-clause-follows : goal.returns-clause-follows
returns-clause-follows g c = λ input front follows.
    let inside : Inside = c.self.inside in
    let same : c.args.self.now ≡ the_view inside = sym c.close_up.ensures.same ∙ sym c.self.view_is in
    let needs : NeedsMore (the_view inside) = subst NeedsMore same c.requires in
    let few : inside.begin ≤ length inside.bytes.items = omega (arith, c.self.invariant.0, inside.bytes.ok.0) in
    filled input front (the_view inside) (g.S.Source.left c.args.source.now) (g.S.Source.left c.read_piece.new.source)
    (drop inside.begin c.read_piece.new.bytes.items) c.in_ok-count.count needs.going
    (piece_behind inside.bytes.items c.read_piece.new.bytes.items inside.begin c.in_ok-count.count (g.S.Source.left c.args.source.now)
    (g.S.Source.left c.read_piece.new.source) few c.in_ok-count.ensures.next)
    (subst (λ (h : Hand). Follows input front h (g.S.Source.left c.args.source.now)) same follows)

pub returns-clause-hand : goal.returns-clause-hand
returns-clause-hand g c = (invariant_of-self-2 g c).2

pub returns-clause-further : goal.returns-clause-further
returns-clause-further g c =
    let inside : Inside = c.self.inside in
    let same : c.args.self.now ≡ the_view inside = sym c.close_up.ensures.same ∙ sym c.self.view_is in
    let needs : NeedsMore (the_view inside) = subst NeedsMore same c.requires in
    let before = length-drop inside.begin inside.bytes.items in
    let after = length-drop inside.begin c.read_piece.new.bytes.items in
    rw same (takes_more (the_view inside) (drop inside.begin c.read_piece.new.bytes.items) c.in_ok-count.count needs
    (omega (arith, before, after, c.in_ok-count.ensures.count.1, inside.bytes.ok.0, c.read_piece.new.bytes.ok.0, c.self.invariant.0)))
