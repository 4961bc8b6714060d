use Rattle.std.proofs.Common.{◌≡◌, length}
use Rattle.iio_derive.proofs.MemberLemmas.{Offering}
use Rattle.iio_derive.proofs.members.offer_all.Given as goal

abbrev pub invariant-loop-i : goal.invariant-loop-i
invariant-loop-i l = record {
  offering : Offering l.shape l.values l.t l.i l.fn.seats.items l.seats.items;
  all : l.i-end ≡ length l.fn.seats.items;
}
