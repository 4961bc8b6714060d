use Rattle.iio_system.proofs.ApartLaws.{apart_place}
use Rattle.iio_system.proofs.connections.place_near.Goals as goal

pub returns-then-stands_at : goal.returns-then-stands_at
returns-then-stands_at c =
    apart_place c.args.connections.now c.args.last c.args.name.now c.requires (c.stands_at.ensures.within c.if-stands_at.true)
    (c.stands_at.ensures.named c.if-stands_at.true)

pub returns-then-stands_at-2 : goal.returns-then-stands_at-2
returns-then-stands_at-2 c =
    apart_place c.args.connections.now _ c.args.name.now c.requires (c.stands_at-2.ensures.within c.if-stands_at-2.true)
    (c.stands_at-2.ensures.named c.if-stands_at-2.true)
