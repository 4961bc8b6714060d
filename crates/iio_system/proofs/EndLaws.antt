-- A connection has ended exactly if its stream is at its end.
use Rattle.std.proofs.Common.{◌≡◌, ℕ, ◌||◌, Bool, true, false, List, [], ◌∷◌, ◌++◌, refl, sym, ap, ◌∙◌, true≢false, rules}
use Rattle.iiod_grammar.specs.Stream.{AtEnd, InLine, InPayload, Item, End, Scanner, after_byte, after_bytes, items_from, scanner_after}
use Rattle.iiod_commands.specs.Acts.{act}
use Rattle.iiod_commands.specs.Client.{ClientRecord}
use Rattle.iio_core.specs.Front.{Front}
use Rattle.iio_core.specs.Machine.{Machine}
use Rattle.iiod_session.specs.Run.{client_after}
use Rattle.iio_bench.specs.Feeding.{is_at_end}
use Rattle.iio_system.specs.System.{IsBare}

-- whether an item ends its connection
abbrev pub is_end : Item → Bool
is_end (End error) = true
is_end item = false

abbrev pub has_end : List Item → Bool
has_end [] = false
has_end (item ∷ items) = is_end item || has_end items

byte_agrees : (s : Scanner) (b : ℕ) → is_at_end s ≡ false → has_end (after_byte s b).items ≡ is_at_end (after_byte s b).next
byte_agrees s b h = search rules

end_stays : (bytes : List ℕ) → is_at_end (after_bytes AtEnd bytes).next ≡ true
end_stays [] = refl
end_stays (b ∷ bs) = end_stays bs

has_end-append : (xs ys : List Item) → has_end (xs ++ ys) ≡ (has_end xs || has_end ys)
has_end-append [] ys = refl
has_end-append (x ∷ xs) ys = search (rules, has_end-append xs ys)

pub bytes_agree : (s : Scanner) (bytes : List ℕ) → is_at_end s ≡ false → has_end (items_from s bytes) ≡ is_at_end (scanner_after s bytes)
bytes_agree s [] h = sym h
bytes_agree s (b ∷ bs) h =
    has_end-append (after_byte s b).items (after_bytes (after_byte s b).next bs).items
    ∙ by (is_at_end (after_byte s b).next) refl (byte_agrees s b h) (λ more. bytes_agree (after_byte s b).next bs more)
  where
    ended : (x : Scanner) → is_at_end x ≡ true → is_at_end (after_bytes x bs).next ≡ true
    ended x h = search (rules, end_stays)

    by : (e : Bool) → is_at_end (after_byte s b).next ≡ e → has_end (after_byte s b).items ≡ is_at_end (after_byte s b).next
        → (is_at_end (after_byte s b).next ≡ false → has_end (items_from (after_byte s b).next bs) ≡ is_at_end (scanner_after (after_byte s b).next bs))
        → (has_end (after_byte s b).items || has_end (after_bytes (after_byte s b).next bs).items) ≡ is_at_end (after_bytes (after_byte s b).next bs).next
    by true at one rest = ap (λ (x : Bool). x || has_end (after_bytes (after_byte s b).next bs).items) (one ∙ at) ∙ sym (ended (after_byte s b).next at)
    by false at one rest = ap (λ (x : Bool). x || has_end (after_bytes (after_byte s b).next bs).items) (one ∙ at) ∙ rest at

-- ---- what a connection that has ended has

nothing_more : (s : Scanner) (bytes : List ℕ) → is_at_end s ≡ true → items_from s bytes ≡ []
nothing_more AtEnd [] h = refl
nothing_more AtEnd (b ∷ bs) h = nothing_more AtEnd bs refl
nothing_more (InLine begun) bytes h = absurd (true≢false (sym h))
nothing_more (InPayload pending count begun) bytes h = absurd (true≢false (sym h))

pub seat_state_after : (front : Front) (m : Machine) (client : ClientRecord) (s : Scanner) (bytes : List ℕ) → is_at_end s ≡ false
    → is_at_end (scanner_after s bytes) ≡ true → IsBare (client_after front m client (items_from s bytes))
unfolding act
seat_state_after front m client s [] before after = absurd (true≢false (sym after ∙ before))
seat_state_after front m client s (b ∷ bs) before after =
    by (is_at_end (after_byte s b).next) refl (λ m' client' at. seat_state_after front m' client' (after_byte s b).next bs at after)
  where
    first : List Item
    first = (after_byte s b).items

    by : (e : Bool) → is_at_end (after_byte s b).next ≡ e
        → ((m' : Machine) (client' : ClientRecord) → is_at_end (after_byte s b).next ≡ false
        → IsBare (client_after front m' client' (items_from (after_byte s b).next bs)))
        → IsBare (client_after front m client (first ++ items_from (after_byte s b).next bs))
    by e at rest = search (rules, nothing_more)
