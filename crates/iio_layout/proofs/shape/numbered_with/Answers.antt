use Rattle.std.proofs.Common.{◌≡◌, ℕ, ◌<◌, ◌==◌, true, length, Some, None, sym, ap, ◌∙◌, arith, rules, tests}
use Rattle.std.specs.List.{position}
use Rattle.iio_layout.specs.declared.channel.Suffix.{Suffix}
use Rattle.iio_layout.specs.declared.channel.Suffix.TheVariants.{Number}
use Rattle.iio_layout.specs.Id.{kind_rank, same_id}
use Rattle.iio_layout.specs.Shape.{id_at}
use Rattle.iio_layout.proofs.ShapeLemmas.{none_numbered, number_above, number_of_kind, number_of_other_kind}
use Rattle.iio_layout.proofs.shape.numbered_with.Goals.{else-at-channels-via-else-at-channels, else-at-channels-via-then-at-channels+else-eq}
use Rattle.iio_layout.proofs.shape.numbered_with.Goals as goal

pub returns-in_default : goal.returns-in_default
returns-in_default c = none_numbered c.args.kind c.args.suffix c.args.channels.now c.requires c.in_default.not-Number

pub returns-then-eq : goal.returns-then-eq
returns-then-eq c =
    let channels = c.args.channels.now in
    let within : c.in-Number.number < length channels = omega (arith, c.from-at.ensures, c.if-at-channels.true) in
    let same : (kind_rank c.index-channels-at.result.kind == kind_rank c.args.kind) ≡ true = search (rules, tests) in
    ap (λ (n : ℕ). Some n) c.from-at.ensures
    ∙ number_of_kind c.args.kind c.in-Number.number c.index-channels-at.result channels c.requires within (rw c.from-at.ensures at c.index-channels-at.is) same
    ∙ ap (λ (s : Suffix). position (λ channel. same_id (id_at channel) (c.args.kind, s)) channels) (sym c.in-Number.is)

pub returns-else-at-channels : goal.returns-else-at-channels
returns-else-at-channels c =
    let channels = c.args.channels.now in
    let found : None ≡ position (λ channel. same_id (id_at channel) (c.args.kind, Number c.in-Number.number)) channels =
    elim c.else-at-channels.branch [
      | else-at-channels-via-then-at-channels+else-eq w ↦
          number_of_other_kind c.args.kind c.in-Number.number w.index-channels-at.result channels c.requires
          (omega (arith, c.from-at.ensures, w.if-at-channels.true)) (rw c.from-at.ensures at w.index-channels-at.is) (search (rules, tests))
      | else-at-channels-via-else-at-channels w ↦
          number_above c.args.kind c.in-Number.number channels c.requires (omega (arith, c.from-at.ensures, w.if-at-channels.false))
    ] in
    found ∙ ap (λ (s : Suffix). position (λ channel. same_id (id_at channel) (c.args.kind, s)) channels) (sym c.in-Number.is)
