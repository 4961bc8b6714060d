-- What an act at a device makes of its members is the same by the history and by the machine.
use Rattle.std.proofs.Common.{◌≡◌, ℕ, Bool, true, false, List, [], ◌∷◌, ◌++◌, map, length, cond, refl, ap, ◌∙◌, rules}
use Rattle.iio_layout.specs.Shape.{ShapeRecord}
use Rattle.iio_layout.specs.Layout.{scan_size}
use Rattle.iio_history.specs.Who.{Who, same}
use Rattle.iio_history.specs.Registry.{Member, is_member, without_members}
use Rattle.iio_core.specs.Moves.{Capture}
use Rattle.iio_history.specs.Act.{Act, Joining, Remasking, Reading, Capturing, Writing, Giving}
use Rattle.iio_history.specs.Fold.{with_mask, members_after}
use Rattle.iio_history.specs.Log.{Logged, logged}
use Rattle.iio_history.specs.Queue.{new_queue, private_queue}
use Rattle.iio_history.specs.Membership.{numbered, discarded_by}
use Rattle.iio_history.specs.Told.{Seat, member_of_seat}
use Rattle.iio_history.specs.Machine.{emptied, offered_seat, read_seat, wrote_seat, gave_seat, remasked_seat, without_seats, seats_after}
use Rattle.iio_history.proofs.WhoLaws.{same_self, either}

-- what the history says of each membership of a device: its log, by
-- the size of its scans, its number, and the number of discarded scans
pub record Book : Type 0 where
  pub log : Who → ℕ → List Logged
  pub number : Who → ℕ
  pub discarded : Who → ℕ

abbrev pub seat_with : ShapeRecord → List Logged → ℕ → ℕ → Member → Seat
seat_with shape log number discarded m = record { member = m; number = number; queue = private_queue shape m log; discarded = discarded }

-- a member with what the book says of it
abbrev pub seat_by : ShapeRecord → Book → Member → Seat
seat_by shape book m = seat_with shape (book.log m.who (scan_size shape m.mask)) (book.number m.who) (book.discarded m.who) m

-- the book after an act
abbrev pub book_after : Act → ℕ → ℕ → Book → Book
book_after act joinings waiting book = record {
  log = λ who size. logged act who size (book.log who size);
  number = λ who. numbered act who joinings (book.number who);
  discarded = λ who. discarded_by act who waiting (book.discarded who);
}

-- of these members only this one has its name
abbrev pub AreIt : Member → List Member → Type 0
AreIt m [] = Unit {0}
AreIt m (x ∷ xs) = (same m.who x.who ≡ true → x ≡ m) × AreIt m xs

-- a new member wasn't one before; a member whose mask changes is the one with its name, and that many scans wait for it
abbrev pub IsSound : ShapeRecord → Book → ℕ → Act → List Member → Type 0
IsSound shape book waiting (Joining m) ms = is_member m.who ms ≡ false
IsSound shape book waiting (Remasking m mask) ms = AreIt m ms × (waiting ≡ length (seat_by shape book m).queue.scans)
IsSound shape book waiting act ms = Unit {0}

-- ---- each kind of act

captured : (shape : ShapeRecord) (c : Capture) (joinings waiting : ℕ) (book : Book) (ms : List Member)
    → map (seat_by shape (book_after (Capturing c) joinings waiting book)) ms ≡ map (offered_seat shape c) (map (seat_by shape book) ms)
captured shape c joinings waiting book [] = refl
captured shape c joinings waiting book (m ∷ ms) = search (rules, emptied, captured shape c joinings waiting book ms)

left_one : (shape : ShapeRecord) (book : Book) (b : Bool) (m : Member) (rest : List Member) (seats : List Seat) → map (seat_by shape book) rest ≡ seats
    → map (seat_by shape book) (cond b rest (m ∷ rest)) ≡ cond b seats (seat_by shape book m ∷ seats)
left_one shape book b m rest seats is = search rules

left : (shape : ShapeRecord) (book : Book) (gone : List Who) (ms : List Member)
    → map (seat_by shape book) (without_members gone ms) ≡ without_seats gone (map (seat_by shape book) ms)
left shape book gone [] = refl
left shape book gone (m ∷ ms) = search (rules, left_one, left shape book gone ms)

read_one : (shape : ShapeRecord) (joinings waiting : ℕ) (book : Book) (who : Who) (bytes : ℕ) (m : Member)
    → seat_by shape (book_after (Reading who bytes) joinings waiting book) m ≡ read_seat shape who bytes (seat_by shape book m)
read_one shape joinings waiting book who bytes m = search rules

read : (shape : ShapeRecord) (joinings waiting : ℕ) (book : Book) (who : Who) (bytes : ℕ) (ms : List Member)
    → map (seat_by shape (book_after (Reading who bytes) joinings waiting book)) ms ≡ map (read_seat shape who bytes) (map (seat_by shape book) ms)
read shape joinings waiting book who bytes [] = refl
read shape joinings waiting book who bytes (m ∷ ms) = simp (read_one, read shape joinings waiting book who bytes ms)

wrote_one : (shape : ShapeRecord) (joinings waiting : ℕ) (book : Book) (who : Who) (scans : List (List ℕ)) (m : Member)
    → seat_by shape (book_after (Writing who scans) joinings waiting book) m ≡ wrote_seat who scans (seat_by shape book m)
wrote_one shape joinings waiting book who scans m = search rules

wrote : (shape : ShapeRecord) (joinings waiting : ℕ) (book : Book) (who : Who) (scans : List (List ℕ)) (ms : List Member)
    → map (seat_by shape (book_after (Writing who scans) joinings waiting book)) ms ≡ map (wrote_seat who scans) (map (seat_by shape book) ms)
wrote shape joinings waiting book who scans [] = refl
wrote shape joinings waiting book who scans (m ∷ ms) = simp (wrote_one, wrote shape joinings waiting book who scans ms)

gave : (shape : ShapeRecord) (joinings waiting : ℕ) (book : Book) (ms : List Member)
    → map (seat_by shape (book_after Giving joinings waiting book)) ms ≡ map gave_seat (map (seat_by shape book) ms)
gave shape joinings waiting book [] = refl
gave shape joinings waiting book (m ∷ ms) = ap (λ (xs : List Seat). gave_seat (seat_by shape book m) ∷ xs) (gave shape joinings waiting book ms)

remasked_one : (shape : ShapeRecord) (joinings waiting : ℕ) (book : Book) (n : Member) (mask : ℕ) (m : Member)
    → (same n.who m.who ≡ true → m ≡ n) → waiting ≡ length (seat_by shape book n).queue.scans
    → seat_by shape (book_after (Remasking n mask) joinings waiting book) (with_mask n.who mask m) ≡ remasked_seat n.who mask (seat_by shape book m)
remasked_one shape joinings waiting book n mask m it wait = search rules

remasked : (shape : ShapeRecord) (joinings waiting : ℕ) (book : Book) (n : Member) (mask : ℕ) (ms : List Member) → AreIt n ms
    → waiting ≡ length (seat_by shape book n).queue.scans
    → map (seat_by shape (book_after (Remasking n mask) joinings waiting book)) (map (with_mask n.who mask) ms)
    ≡ map (remasked_seat n.who mask) (map (seat_by shape book) ms)
remasked shape joinings waiting book n mask [] it wait = refl
remasked shape joinings waiting book n mask (m ∷ ms) it wait = search (rules, remasked_one, remasked shape joinings waiting book n mask ms it.1 wait)

-- the member that joins, and those before it, of which the book says the same as before
abbrev joined_seat : ShapeRecord → ℕ → ℕ → Book → Member → Bool → Member → Seat
joined_seat shape joinings waiting book n b m =
    seat_with shape (cond b [] (book.log m.who (scan_size shape m.mask))) (cond b joinings (book.number m.who)) (cond b 0 (book.discarded m.who)) m

joined : (shape : ShapeRecord) (joinings waiting : ℕ) (book : Book) (n : Member) (ms : List Member) → is_member n.who ms ≡ false
    → map (seat_by shape (book_after (Joining n) joinings waiting book)) (ms ++ n ∷ [])
    ≡ map (seat_by shape book) ms ++ record { member = n; number = joinings; queue = new_queue; discarded = 0 } ∷ []
joined shape joinings waiting book n [] new = ap (λ (b : Bool). joined_seat shape joinings waiting book n b n ∷ []) (same_self n.who)
joined shape joinings waiting book n (m ∷ ms) new =
    let apart = either (same n.who m.who) (is_member n.who ms) new in
    ap (λ (b : Bool). joined_seat shape joinings waiting book n b m ∷ map (seat_by shape (book_after (Joining n) joinings waiting book)) (ms ++ n ∷ [])) apart.0
    ∙ ap (λ (xs : List Seat). seat_by shape book m ∷ xs) (joined shape joinings waiting book n ms apart.1)

-- ---- all of them

pub seats_are : (shape : ShapeRecord) (act : Act) (joinings waiting : ℕ) (book : Book) (ms : List Member) → IsSound shape book waiting act ms
    → map (seat_by shape (book_after act joinings waiting book)) (members_after act ms) ≡ seats_after shape joinings act (map (seat_by shape book) ms)
seats_are shape act joinings waiting book ms sound = search (rules, joined, remasked, left, read, captured, wrote, gave)

-- the members of the seats are the members
pub members_are : (shape : ShapeRecord) (book : Book) (ms : List Member) → map member_of_seat (map (seat_by shape book) ms) ≡ ms
members_are shape book [] = refl
members_are shape book (m ∷ ms) = ap (λ (xs : List Member). m ∷ xs) (members_are shape book ms)
