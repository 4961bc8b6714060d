-- The handling of an entry in both views of a device, and the kinds of queue ends that there are.
use Rattle.std.proofs.Common.{◌≡◌, ℕ, zero, suc, ◌+◌, ◌-◌, ◌^◌, ◌≤◌, Bool, true, false, List, [], ◌∷◌, ◌++◌, map, drop, length, Some, slice_get, refl, sym, ap, ◌∙◌, arith, cond, rules}
use Rattle.std.proofs.lemmas.Grind.{common_steps}
use Rattle.std.specs.Prelude.{◌==◌, ℤ}
use Rattle.std.specs.List.{AllZip}
use Rattle.std.proofs.lemmas.List.{drop-append-le, length-drop}
use Rattle.iio_layout.specs.Scan.{scan_of}
use Rattle.iio_layout.specs.Shape.{ShapeRecord}
use Rattle.iio_kfifo.specs.declared.tail.Offered.{Offered}
use Rattle.iio_kfifo.specs.declared.tail.Offered.TheVariants.{Taken, Lost}
use Rattle.iio_kfifo.specs.declared.view.Offer.{Offer}
use Rattle.iio_kfifo.specs.declared.view.Offer.TheVariants.{Accepted, Refused}
use Rattle.iio_kfifo.specs.declared.view.Sent.{Sent}
use Rattle.iio_kfifo.specs.declared.view.Writing.{Writing}
use Rattle.iio_kfifo.specs.Ends.{Offers as WriterOffers, WriterEnd}
use Rattle.iio_kfifo.specs.Offers.{accepted, accepted_after, lost_in}
use Rattle.iio_kfifo.specs.Queue.{Offers as QueueOffers, Queue}
use Rattle.iio_kfifo.specs.declared.tail.Tail.{Ghosts}
use Rattle.iio_sensor.specs.Driver.{ask_fails, values_of}
use Rattle.iio_trigger.specs.Trigger.{Handed}
use Rattle.iio_device.specs.declared.handling.Handled.{Handled}
use Rattle.iio_device.specs.declared.handling.Handled.TheVariants.{Captured, Fault, Idle}
use Rattle.iio_device.specs.declared.membership.Membership.{Membership}
use Rattle.iio_device.specs.Ends.{queue_end, writer_end}
use Rattle.iio_device.specs.Active.{active_for}
use Rattle.iio_device.specs.Device.{DeviceView, Handles, is_due}
use Rattle.iio_device.specs.Members.{WasOffered, masks_of}
use Rattle.iio_device.specs.Roster.{Standing}
use Rattle.iio_device.specs.Site.{Site, captured, is_current, is_empty}
use Rattle.iio_core.specs.Machine.{Machine, Member, Station, masks_of as plain_masks, with_station}
use Rattle.iio_desc.specs.Kind.{Input}
use Rattle.iio_derive.specs.Window.{no_window}
use Rattle.iio_output.specs.Last.{first_last}
use Rattle.iio_core.specs.Moves.{Capture, asked_once, station_after_entry, offered_to, handled_answer}
use Rattle.iio_core.specs.Devices.{AreMet, IsAt, IsMet, left_after, member_with, members_met, queue_waited, queue_waits, station_met, station_of, station_with, writer_waited, writer_waits}
use Rattle.iio_core.proofs.DeviceLaws.{at_changed, masks_are}

-- ---- handlings

on_false : {A : Type 0} (b : Bool) (x y : A) → b ≡ false → cond b x y ≡ y
on_false b x y e = cc

module _ {Q : Type 0} (ends : Ghosts Q) (waits : Q → List (List ℕ))
    (waited : Q → Q → List (List ℕ)) where
  abbrev met : List (Membership Q) → List (Membership Q) → List Member
  met xs ys = members_met ends waits waited xs ys

  abbrev pub after : DeviceView Q → Station
  after d = station_of ends waits d

  abbrev OffersAreMet : List (Membership Q) → List (Membership Q) → Type 0
  OffersAreMet xs ys =
      AllZip (λ (a b : Membership Q). (scan : List ℕ) (answer : Offered) → ends.offer_gives a.tail scan answer b.tail
      → IsMet ends waits waited scan answer a.tail b.tail) xs ys

  abbrev WereOffered : ShapeRecord → Capture → List (Membership Q) → List (Membership Q) → Type 0
  WereOffered shape c xs ys =
      AllZip (λ (a b : Membership Q). WasOffered ends (scan_of shape a.mask.bits c.values c.moment) a b) xs ys

  all_offered : (shape : ShapeRecord) (c : Capture) (xs ys : List (Membership Q)) → WereOffered shape c xs ys → OffersAreMet xs ys
      → map (offered_to shape c) (met xs ys) ≡ map (λ (m : Membership Q). member_with ends (waits m.tail) m) ys
  all_offered shape c [] [] z h = refl
  all_offered shape c [] (y ∷ ys) z h = absurd z
  all_offered shape c (x ∷ xs) [] z h = absurd z
  all_offered shape c (x ∷ xs) (y ∷ ys) z h = search (rules, all_offered shape c xs ys z.1 h.1)

  met_masks : (shape : ShapeRecord) (c : Capture) (xs ys : List (Membership Q)) → WereOffered shape c xs ys → plain_masks (met xs ys) ≡ masks_of xs
  met_masks shape c [] [] z = refl
  met_masks shape c [] (y ∷ ys) z = absurd z
  met_masks shape c (x ∷ xs) [] z = absurd z
  met_masks shape c (x ∷ xs) (y ∷ ys) z = ap (λ (ms : List ℕ). x.mask.bits ∷ ms) (met_masks shape c xs ys z.1)

  met_length : (shape : ShapeRecord) (c : Capture) (xs ys : List (Membership Q)) → WereOffered shape c xs ys → length (met xs ys) ≡ length xs
  met_length shape c [] [] z = refl
  met_length shape c [] (y ∷ ys) z = absurd z
  met_length shape c (x ∷ xs) [] z = absurd z
  met_length shape c (x ∷ xs) (y ∷ ys) z = ap (λ (n : ℕ). suc n) (met_length shape c xs ys z.1)

  met_empty : (shape : ShapeRecord) (c : Capture) (xs ys : List (Membership Q)) → WereOffered shape c xs ys → is_empty (met xs ys) ≡ is_empty xs
  met_empty shape c xs ys z = search rules

  -- an entry of the device is due exactly if it is current
  current_is : (e : Handed) (d : DeviceView Q) (members : List Member) → e.dev ≡ d.number → (d.standing.captures == 2 ^ 64 - 1) ≡ false
      → is_empty members ≡ is_empty d.standing.members
      → is_current e.attachment d.site.attachment members d.site.plugged ≡ is_due e d
  current_is e d members own fewer empty = search rules

  asked_is : (t : ℤ) (d : DeviceView Q) (members : List Member) → d.standing.active ≡ active_for d.standing.shape (masks_of d.standing.members)
      → plain_masks members ≡ masks_of d.standing.members
      → captured t (active_for d.standing.shape (plain_masks members)) d.site ≡ captured t d.standing.active d.site
  asked_is t d members ruled masks = cc

  pub handled_is : (e : Handed) (r : Handled) (d d' : DeviceView Q) → Handles ends e r d d' → e.dev ≡ d.number
      → (d.standing.captures == 2 ^ 64 - 1) ≡ false
      → d.standing.active ≡ active_for d.standing.shape (masks_of d.standing.members) → AreMet ends waits waited r d d'
      → (r ≡ handled_answer e (station_met ends waits waited r d d'))
      × (station_after_entry Input d.standing.shape (Some e) (station_met ends waits waited r d d') ≡ after d')
  handled_is e Idle d d' h own fewer ruled met_is = search rules
  handled_is e Fault d d' h own fewer ruled met_is = search (rules, masks_are)
  handled_is e (Captured n) d d' h own fewer ruled met_is =
      let c : Capture = record { moment = e.t; values = values_of d.site.driver d.standing.shape e.t } in
      let zip : WereOffered d.standing.shape c d.standing.members d'.standing.members = h.2.2 in
      let ms : List Member = met d.standing.members d'.standing.members in
      let due : is_current e.attachment d.site.attachment ms d.site.plugged ≡ true
      = current_is e d ms own fewer (met_empty d.standing.shape c d.standing.members d'.standing.members zip) ∙ h.0 in
      let many : n ≡ length ms = h.2.0 ∙ sym (met_length d.standing.shape c d.standing.members d'.standing.members zip) in
      rw due (
        ap (λ (k : ℕ). Captured k) many ∙ sym (on_false (ask_fails d.site.driver) Fault (Captured (length ms)) h.1),
        on_false (ask_fails d.site.driver) (asked_once d.standing.shape e.t (station_with ends ms d)) _ h.1
            ∙ ap (λ (site : Site ℕ).
            (let st : Station =
            record {
              next = d.standing.next;
              captures = d.standing.captures + 1;
              totals = d.totals;
              members = map (offered_to d.standing.shape c) ms;
              site = site;
              last = first_last d.standing.shape;
              window = no_window;
            } in st))
            (asked_is e.t d ms ruled (met_masks d.standing.shape c d.standing.members d'.standing.members zip))
            ∙ ap (λ (xs : List Member).
            (let st : Station =
            record {
              next = d.standing.next;
              captures = d.standing.captures + 1;
              totals = d.totals;
              members = xs;
              site = captured e.t d.standing.active d.site;
              last = first_last d.standing.shape;
              window = no_window;
            } in st))
            (all_offered d.standing.shape c d.standing.members d'.standing.members zip met_is)
            ∙ ap (λ (s : Standing Q).
            (let st : Station =
            record {
              next = s.next;
              captures = s.captures;
              totals = d.totals;
              members = (after d').members;
              site = captured e.t d.standing.active d.site;
              last =
                  first_last s.shape;
              window = no_window;
            } in st)) (sym h.2.1)
            ∙ ap after (sym h.3),
      )

  pub handlings_agree : (m : Machine) (dev : ℕ) (e : Handed) (r : Handled) (d d' : DeviceView Q)
      → Handles ends e r d d' → e.dev ≡ d.number → (d.standing.captures == 2 ^ 64 - 1) ≡ false
      → d.standing.active ≡ active_for d.standing.shape (masks_of d.standing.members) → AreMet ends waits waited r d d'
      → slice_get m.stations dev ≡ Some (station_met ends waits waited r d d')
      → (r ≡ handled_answer e (station_met ends waits waited r d d'))
      × IsAt ends waits (with_station (station_after_entry Input d.standing.shape (Some e)) dev m) dev d'
  handlings_agree m dev e r d d' h own fewer ruled met_is here =
      let is = handled_is e r d d' h own fewer ruled met_is in (
        is.0,
        at_changed m dev (station_met ends waits waited r d d') (station_after_entry Input d.standing.shape (Some e)) here
            ∙ ap (λ (st : Station). Some st) is.1,
      )

-- ---- queues of one owner

pub queues_are_met : (old new : Queue) (scan : List ℕ) (answer : Offered) → QueueOffers old scan answer new
    → IsMet queue_end queue_waits queue_waited scan answer old new
queues_are_met old new scan answer o = search rules

module _ (scan_for : Membership Queue → List ℕ) where
  abbrev Were : List (Membership Queue) → List (Membership Queue) → Type 0
  Were xs ys =
      AllZip (λ (a b : Membership Queue). WasOffered queue_end (scan_for a) a b) xs ys

  queues_stood : (xs ys : List (Membership Queue)) → Were xs ys
      → (members_met queue_end queue_waits queue_waited xs ys
      ≡ map (λ (m : Membership Queue). member_with queue_end (queue_waits m.tail) m) xs)
      × AllZip (λ (a b : Membership Queue). (scan : List ℕ) (answer : Offered) → QueueOffers a.tail scan answer b.tail
      → IsMet queue_end queue_waits queue_waited scan answer a.tail b.tail) xs ys
  queues_stood [] [] z = (refl, tt)
  queues_stood [] (y ∷ ys) z = absurd z
  queues_stood (x ∷ xs) [] z = absurd z
  queues_stood (x ∷ xs) (y ∷ ys) z = search (rules, queues_stood xs ys z.1)

pub queues_stand : (e : Handed) (r : Handled) (d d' : DeviceView Queue)
    → Handles queue_end e r d d'
    → (station_met queue_end queue_waits queue_waited r d d'
    ≡ station_of queue_end queue_waits d)
    × AreMet queue_end queue_waits queue_waited r d d'
queues_stand e Idle d d' h = (refl, tt)
queues_stand e Fault d d' h = (refl, tt)
queues_stand e (Captured n) d d' h =
    let is =
    queues_stood (λ m. scan_of d.standing.shape m.mask.bits (values_of d.site.driver d.standing.shape e.t) e.t) d.standing.members d'.standing.members h.2.2 in
    (ap (λ (ms : List Member). station_with queue_end ms d) is.0, is.1)

-- ---- rings

accepted_more : (n : ℕ) (offers : List Offer) (scan : List ℕ)
    → map (λ (s : Sent). s.scan) (accepted_after n (offers ++ Accepted scan ∷ [])) ≡ map (λ (s : Sent). s.scan) (accepted_after n offers) ++ scan ∷ []
accepted_more n [] scan = refl
accepted_more n (Accepted x ∷ offers) scan = ap (λ (xs : List (List ℕ)). x ∷ xs) (accepted_more n offers scan)
accepted_more n (Refused ∷ offers) scan = accepted_more (n + 1) offers scan

accepted_same : (n : ℕ) (offers : List Offer) → accepted_after n (offers ++ Refused ∷ []) ≡ accepted_after n offers
accepted_same n [] = refl
accepted_same n (Accepted x ∷ offers) = ap (λ (xs : List Sent). (let s : Sent = record { scan = x; lost = n } in s) ∷ xs) (accepted_same n offers)
accepted_same n (Refused ∷ offers) = accepted_same (n + 1) offers

lost_same : (offers : List Offer) (scan : List ℕ) → lost_in (offers ++ Accepted scan ∷ []) ≡ lost_in offers
lost_same [] scan = refl
lost_same (Accepted x ∷ offers) scan = lost_same offers scan
lost_same (Refused ∷ offers) scan = ap (λ (n : ℕ). n + 1) (lost_same offers scan)

lost_more : (offers : List Offer) → lost_in (offers ++ Refused ∷ []) ≡ lost_in offers + 1
lost_more [] = refl
lost_more (Accepted x ∷ offers) = lost_more offers
lost_more (Refused ∷ offers) = ap (λ (n : ℕ). n + 1) (lost_more offers)

drop_map : {A B : Type 0} (f : A → B) (n : ℕ) (xs : List A) → map f (drop n xs) ≡ drop n (map f xs)
drop_map f zero xs = refl
drop_map f (suc n) [] = refl
drop_map f (suc n) (x ∷ xs) = drop_map f n xs

length_of_map : {A B : Type 0} (f : A → B) (xs : List A) → length (map f xs) ≡ length xs
length_of_map f [] = refl
length_of_map f (x ∷ xs) = ap (λ (n : ℕ). suc n) (length_of_map f xs)

left_length : (n : ℕ) (w : WriterEnd) → length (left_after n w) ≡ length (accepted w.knows.offers) - n
left_length n w = length_of_map (λ (s : Sent). s.scan) (drop n (accepted w.knows.offers)) ∙ length-drop n (accepted w.knows.offers)

pub rings_are_met : (old new : WriterEnd) (scan : List ℕ) (answer : Offered) → WriterOffers old scan answer new
    → new.knows.seen ≤ length (accepted old.knows.offers)
    → IsMet writer_end writer_waits writer_waited scan answer old new
rings_are_met old new scan Taken o few =
    let few' : new.knows.seen ≤ length (map (λ (s : Sent). s.scan) (accepted old.knows.offers)) = grind (arith, common_steps) in
    let offers : new.knows.offers ≡ old.knows.offers ++ Accepted scan ∷ [] = ap (λ (w : Writing). w.offers) o.1.1 in (
      (let h = o.1.0 in let n = left_length new.knows.seen old in omega arith),
      ap (λ (xs : List Offer). lost_in xs) offers ∙ lost_same old.knows.offers scan,
      ap (λ (xs : List Offer). map (λ (s : Sent). s.scan) (drop new.knows.seen (accepted xs))) offers
          ∙ drop_map (λ (s : Sent). s.scan) new.knows.seen (accepted (old.knows.offers ++ Accepted scan ∷ []))
          ∙ ap (λ (xs : List (List ℕ)). drop new.knows.seen xs) (accepted_more 0 old.knows.offers scan)
          ∙ drop-append-le new.knows.seen (map (λ (s : Sent). s.scan) (accepted old.knows.offers)) (scan ∷ []) few'
          ∙ ap (λ (xs : List (List ℕ)). xs ++ scan ∷ []) (sym (drop_map (λ (s : Sent). s.scan) new.knows.seen (accepted old.knows.offers))),
    )
rings_are_met old new scan Lost o few = search (rules, left_length, lost_more, accepted_same)
