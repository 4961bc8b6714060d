-- The line of the connection that is heard.
use Rattle.std.proofs.Common.{◌≡◌, ℕ, suc, zero, ◌<◌, ◌||◌, Bool, true, false, List, [], ◌∷◌, length, map, get_or, set, Option, Some, option_map, refl, sym, ap, ◌∙◌, arith, rules}
use Rattle.std.specs.Str.{bytes_eq}
use Rattle.iiod_grammar.specs.Stream.{Item}
use Rattle.iio_core.specs.Front.{Front}
use Rattle.iiod_commands.specs.Seat.{SeatRecord}
use Rattle.iiod_session.specs.Session.{SessionRecord}
use Rattle.iio_history.specs.Event.{Heard}
use Rattle.iio_history.specs.Registry.{Setup}
use Rattle.iio_history.specs.Told.{Line, Told, registry_of}
use Rattle.iio_history.specs.Machine.{line_after, step}
use Rattle.iio_history.specs.Played.{steps}
use Rattle.iio_history.specs.Transcript.{line_named}
use Rattle.iio_history.specs.Bench.{AreDistinct, is_in, name_of}
use Rattle.iio_history.specs.BenchLaw.{heard}
use Rattle.iio_bench.specs.declared.connection.Connection.{Connection}
use Rattle.iio_system.specs.System.{AreLines, IsServed}
use Rattle.iio_system.proofs.EndLaws.{has_end, is_end}
use Rattle.iio_system.proofs.LineLaws.{OthersAre}

pub line_mapped : (name : List ℕ) (f : Line → Line) → ((l : Line) → (f l).user.who ≡ l.user.who) → (ls : List Line)
    → line_named name (map f ls) ≡ option_map f (line_named name ls)
line_mapped name f who [] = refl
line_mapped name f who (l ∷ ls) = search (rules, line_mapped name f who ls)

pub line_found : (name : List ℕ) (ls : List Line) (l : Line) → line_named name ls ≡ Some l → bytes_eq l.user.who name ≡ true
line_found name [] l is = cc
line_found name (x ∷ ls) l is = search (rules, line_found name ls l)

-- what an item makes of the line of its connection
own_ended : (s : Setup) (m : Told) (name : List ℕ) (item : Item) (l : Line) → bytes_eq l.user.who name ≡ true
    → (line_after s (registry_of m) (Heard name item) l).user.ended ≡ (l.user.ended || is_end item)
own_ended s m name item l own = search rules

pub own_items : (s : Setup) (m : Told) (name : List ℕ) (items : List Item) (l : Line) → line_named name m.lines ≡ Some l
    → (l' : Line) × (line_named name (steps s m (heard name items)).lines ≡ Some l') × (l'.user.ended ≡ (l.user.ended || has_end items)) × (l'.begun ≡ l.begun)
own_items s m name [] l is = search rules
own_items s m name (item ∷ items) l is =
    let f : Line → Line = line_after s (registry_of m) (Heard name item) in
    let next : line_named name (step s m (Heard name item)).lines ≡ Some (f l) = search (rules, line_mapped) in
    let rest = own_items s (step s m (Heard name item)) name items (f l) next in (
      rest.0,
      rest.1,
      rest.2 ∙ ap (λ (b : Bool). b || has_end items) (own_ended s m name item l (line_found name m.lines l is))
          ∙ regroup l.user.ended (is_end item) (has_end items),
      rest.3,
    )
  where
    regroup : (a b c : Bool) → ((a || b) || c) ≡ (a || (b || c))
    regroup a b c = search rules

module _ {S : Type 0} (seen : S → SeatRecord) where
  -- a connection with another session, or none
  abbrev pub with_session : Option (SessionRecord S) → Connection S → Connection S
  with_session o c = record c { session = o }

  pub all_others : (front : Front) (m : Told) (name : List ℕ) (ls : List Line) (cs : List (Connection S)) → is_in (map name_of ls) name ≡ false
      → OthersAre seen front m name ls cs → AreLines seen front m ls cs
  all_others front m name [] [] absent are = tt
  all_others front m name [] (c ∷ cs) absent are = absurd are
  all_others front m name (l ∷ ls) [] absent are = absurd are
  all_others front m name (l ∷ ls) (c ∷ cs) absent are =
      let parts = either (bytes_eq l.user.who name) (is_in (map name_of ls) name) absent in
      (record { name = are.0; served = are.1 parts.0 }, all_others front m name ls cs parts.1 are.2)
    where
      either : (a b : Bool) → (a || b) ≡ false → (a ≡ false) × (b ≡ false)
      either a b h = search rules

  -- the other lines, and that of the connection that was heard
  pub rejoined : (front : Front) (m : Told) (name : List ℕ) (o : Option (SessionRecord S)) (i : ℕ) (d : Connection S) (ls : List Line)
      (cs : List (Connection S)) (l : Line)
      → AreDistinct (map name_of ls) → OthersAre seen front m name ls cs → line_named name ls ≡ Some l
      → i < length cs → ((k : ℕ) → k < i → bytes_eq (get_or cs k d).name name ≡ false) → bytes_eq (get_or cs i d).name name ≡ true
      → IsServed seen front m l o → AreLines seen front m ls (set cs i (with_session o (get_or cs i d)))
  rejoined front m name o i d [] cs l distinct are is less before here served = cc
  rejoined front m name o i d (x ∷ ls) [] l distinct are is less before here served = absurd are
  rejoined front m name o zero d (x ∷ ls) (c ∷ cs) l distinct are is less before here served = search (rules, all_others)
  rejoined front m name o (suc i) d (x ∷ ls) (c ∷ cs) l distinct are is less before here served =
      let other : bytes_eq x.user.who name ≡ false = ap (λ (w : List ℕ). bytes_eq w name) (sym are.0) ∙ before 0 (omega arith) in (
        record { name = are.0; served = are.1 other },
        rejoined front m name o i d ls cs l distinct.1 are.2 (rw other at is) (omega (arith, less))
            (λ k h. before (suc k) (omega (arith, h))) here served,
      )
