use Rattle.iio_base.proofs.Steps.{[], ◌∷◌, refl, proved, ftrue, Val, vstruct, vcons, vnil, tables, ‵, ◌⊛◌, ◌$◌, ◌∵◌, !, qed, done, keep, fjoin, suffices, frame, enter, returns, alloc_all, pass_all, free_all, look_at, sets, nothing, Stays, walk_of, says, ends_at, agg, get, no_more, and_then, use0}
use Rattle.iio_base.specs.contracts.count.Beyond.new as f
use Rattle.iio_base.proofs.count.Beyond.new.Statement.{statement}
use Rattle.iio_base.proofs.count.Beyond.new.Code as code
use Rattle.iio_base.specs.contracts.count.Beyond.{the_row as R}
use seplogic.Ra.Ura.{Ura}
use base.Logic.{ent, emp}
use types.Logic.{Logic, sem}
use denote.Builtin.{unit}
use denote.RattleType.{RattleType}
use denote.Shadow.{makes_shadow}
use denote.Struct.Struct.{Struct}
use Rattle.std.specs.contracts.marker.PhantomData as marker
use Rattle.iio_base.specs.contracts.count.Beyond as beyond

abbrev token : Val
token = vstruct (vcons (vstruct vnil) vnil)

abbrev Mark : RattleType
Mark = Struct (record { name = (beyond.the_type).name; args = []; types = []; fields = (marker.the_field unit).row ∷ [] })

made : {M : Type 1} {𝓤 : Ura M} (𝓛 : Logic 𝓤) → ent 𝓤 (emp 𝓤) (sem 𝓛 (Mark.own_val (tt, tt) (token ∷ [])))
made 𝓛 = makes_shadow 𝓛 (Mark.own_val (tt, tt) (token ∷ [])) (λ vss. (tt, ((λ uss. (tt, tt)), tt))) ((vstruct vnil ∷ [], tt), (refl, ((tt, (refl, tt)), tt)))

abbrev stayed : Stays f.ended.signature.params f.ended.kept
stayed = tt

pub new_spec : {M : Type 1} → statement M
new_spec 𝓤 𝓛 𝓜 𝓡 wired =
    let c = f.clauses 𝓛 𝓜.mem 𝓡.returns in let W = walk_of 𝓛 f.ended stayed c in let 𝓣 = tables 𝓤 𝓛.H 𝓜 𝓡 𝓡.env in
    proved 𝓛 f.ended stayed c 𝓜 𝓡 tt
    f.Key.name code.function (code.unfolded 𝓤 𝓛.H 𝓜 𝓡 wired)
    (λ κs. tt) (λ κs. tt) (λ κs qs bounds a _ are.
    let y : W.Ghost = ((κs, qs, bounds, a, tt), tt) in
    qed 𝓛 ((‵ ftrue ⊛ ‵ ftrue) ∷ ‵ ftrue ∷ []) ∵
    keep ! [] $
    enter ! _ _ _ _ _ $ alloc_all ! (λ l. pass_all ! refl tt $
    sets ! (agg ! (no_more !)) refl (tt, tt) $ sets ! (agg ! (and_then ! (get ! refl) (no_more !))) refl (tt, (tt, tt)) $
    returns ! (look_at ! 0 refl) $ free_all ! refl $
    suffices ! _ (ends_at 𝓛 f.ended stayed c y token record { marker = record {}; count = 0 } tt tt) $
    nothing ! $ use0 𝓛 (‵ (Mark.own_val (tt, tt) (token ∷ []))) (made 𝓛) $ fjoin ! $ says ! refl $ nothing ! $ frame ! $ nothing ! $ frame ! $ done !))
