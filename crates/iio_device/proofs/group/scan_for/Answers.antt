use Rattle.std.proofs.Common.{rules, ◌≡◌, ◌∙◌}
use Rattle.iio_device.specs.Groups.{scan_under}
use Rattle.iio_device.proofs.OfferLemmas.{scan_at}
use Rattle.iio_device.proofs.group.scan_for.Goals as goal

pub returns-then-stands_at : goal.returns-then-stands_at
returns-then-stands_at c =
    let groups = c.args.groups.now in
    let group = c.index-groups-place.result in
    let found = scan_at groups c.args.place.now group c.requires.apart (c.stands_at.ensures.within c.if-stands_at.true) in
    let mask = c.stands_at.ensures.mask c.if-stands_at.true group in
    let scan : scan_under groups c.args.mask.bits ≡ c.scan.result.now = rw mask at found ∙ search rules in
    search rules
