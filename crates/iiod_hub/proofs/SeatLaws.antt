-- Scans taken by a seat.
use Rattle.std.proofs.Common.{◌≡◌, ◌≢◌, ℕ, suc, ◌<◌, ◌≤◌, Bool, true, false, List, [], ◌∷◌, ◌++◌, length, Option, Some, None, option_map, inl, inr, refl, sym, ap, ◌∙◌, arith}
use Rattle.std.specs.Prelude.{MatchBool}
use Rattle.std.specs.List.{flat_map}
use Rattle.iiod_reply.specs.Reply.{joined_scans}
use Rattle.iiod_commands.specs.Reading.{ReadSome}
use Rattle.iiod_commands.specs.Seat.{SeatRecord, Trace, after_nothing, after_scans}
use Rattle.iio_kfifo.specs.declared.view.Reading.{Reading}
use Rattle.iio_kfifo.specs.declared.view.Sent.{Sent}
use Rattle.iio_kfifo.specs.Ends.{AsksClosed, AsksOpen, ReaderEnd, TakesScans}
use Rattle.iiod_hub.specs.declared.seat.HubSeat.{HubSeat}
use Rattle.iiod_hub.specs.Link.{seen_of}
use Rattle.iiod_hub.specs.Reads.{ReadsSome}
use Rattle.iiod_bank.specs.Received.{received_of, scans_of, size_of}

scans_append : (xs ys : List Sent) → scans_of (xs ++ ys) ≡ scans_of xs ++ scans_of ys
scans_append [] ys = refl
scans_append (x ∷ xs) ys = ap (λ (zs : List (List ℕ)). x.scan ∷ zs) (scans_append xs ys)

length_scans : (xs : List Sent) → length (scans_of xs) ≡ length xs
length_scans [] = refl
length_scans (x ∷ xs) = ap (λ (n : ℕ). suc n) (length_scans xs)

joined : (xs : List Sent) → flat_map (λ (s : Sent). s.scan) xs ≡ joined_scans (scans_of xs)
joined [] = refl
joined (x ∷ xs) = ap (λ (bs : List ℕ). x.scan ++ bs) (joined xs)

-- a look at the closed word receives nothing
pub record Asked (r q : Reading) : Type 0 where
  pub received : q.received ≡ r.received
  pub looks : q.looks ≡ r.looks

pub asked : (b : Bool) (r q : Reading) → MatchBool b (AsksClosed r q) (AsksOpen r q) → Asked r q
asked true r q a = record { received = ap (λ (x : Reading). x.received) a.knows; looks = ap (λ (x : Reading). x.looks) a.knows }
asked false r q a = record { received = ap (λ (x : Reading). x.received) a.knows; looks = ap (λ (x : Reading). x.looks) a.knows }

pub some_read : (b : Bool) (want count : ℕ) (r q r' : Reading) (before after : List ℕ) → MatchBool b (AsksClosed r q) (AsksOpen r q)
    → TakesScans q want count before after r' → count ≢ 0 → ReadsSome want count r r' before after
some_read b want count r q r' before after a t more =
    let k = asked b r q a in
    record {
      scans = scans_of t.takes.more;
      many = length_scans t.takes.more ∙ t.takes.count;
      some = omega (arith, more);
      most = t.within;
      bytes = t.takes.bytes ∙ ap (λ (bs : List ℕ). before ++ bs) (joined t.takes.more);
      received =
          ap (λ (x : Reading). scans_of x.received) t.takes.knows ∙ scans_append q.received t.takes.more
          ∙ ap (λ (xs : List Sent). scans_of xs ++ scans_of t.takes.more) k.received;
      short = λ h. let s = t.short h in (omega (arith, s.0, k.looks), s.1);
    }

-- ---- traces

pub mid_is : (s : HubSeat) (r : ReaderEnd) (scans : List (List ℕ)) → size_of r ≡ size_of s.reader → received_of r ≡ received_of s.reader ++ scans
    → seen_of (record s { reader = r })
    ≡ record (seen_of s) { trace = Some (after_scans scans (record { given = received_of s.reader; empties = s.empties; gone = s.gone })) }
mid_is s r scans e d =
    ap (λ (n : ℕ). at n (received_of r)) e ∙ ap (λ (xs : List (List ℕ)). at (size_of s.reader) xs) d
  where
    at : ℕ → List (List ℕ) → SeatRecord
    at n xs =
        record {
          number = s.member.number;
          mask = s.mask.bits;
          size = n;
          capacity = s.capacity;
          trace =
              Some (record { given = xs; empties = s.empties; gone = s.gone });
        }

pub full : (dev most : ℕ) (s s' : SeatRecord) (t : Trace) (scans : List (List ℕ)) → s.trace ≡ Some t → s' ≡ record s { trace = Some (after_scans scans t) }
    → length scans ≡ most → 1 ≤ most → ReadSome dev most None None s s' scans
full dev most s s' t scans own is many some =
    let after : s'.trace ≡ Some (after_scans scans t) = ap (λ (x : SeatRecord). x.trace) is in
    record {
      reads = record {
        some = omega (arith, many, some);
        most = omega (arith, many);
        grown = inl (many, after ∙ ap (λ (o : Option Trace). option_map (after_scans scans) o) (sym own));
      };
      same = is ∙ ap (λ (o : Option Trace). (let x : SeatRecord = record s { trace = o } in x)) (sym after);
      from = tt;
    }

pub short : (dev most : ℕ) (gone : Bool) (s m s' : SeatRecord) (t : Trace) (scans : List (List ℕ)) → s.trace ≡ Some t
    → m ≡ record s { trace = Some (after_scans scans t) } → s' ≡ record m { trace = option_map (after_nothing gone) m.trace }
    → 0 < length scans → length scans ≤ most → ReadSome dev most None None s s' scans
short dev most gone s m s' t scans own is nothing some few =
    let mid : m.trace ≡ option_map (after_scans scans) s.trace =
    ap (λ (x : SeatRecord). x.trace) is ∙ ap (λ (o : Option Trace). option_map (after_scans scans) o) (sym own) in
    let after : s'.trace ≡ option_map (after_nothing gone) (option_map (after_scans scans) s.trace) =
    ap (λ (x : SeatRecord). x.trace) nothing ∙ ap (λ (o : Option Trace). option_map (after_nothing gone) o) mid in
    record {
      reads = record { some = some; most = few; grown = inr (gone, after) };
      same = nothing ∙ ap (λ (x : SeatRecord). (let y : SeatRecord = record x { trace = option_map (after_nothing gone) m.trace } in y)) is
          ∙ ap (λ (o : Option Trace). (let x : SeatRecord = record s { trace = o } in x)) (sym (ap (λ (x : SeatRecord). x.trace) nothing));
      from = tt;
    }
