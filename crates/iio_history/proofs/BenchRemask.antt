-- REMASK.
use Rattle.std.proofs.Common.{◌≡◌, ℕ, ◌*◌, ◌==◌, not, nat_lt, Bool, true, false, List, [], ◌∷◌, ◌++◌, map, length, Option, Some, None, Result, Ok, Err, slice_get, slice_set, is_none, is_some, option_map, cond, refl, sym, ap, ◌∙◌, subst, arith, rules}
use Rattle.std.proofs.lemmas.Grind.{common_steps}
use Rattle.std.specs.Prelude.{unwrap_or}
use Rattle.std.specs.Option.{ok_or}
use Rattle.iio_base.specs.Refusals.{◌>>=◌, first_refusal, unless_refused}
use Rattle.iio_text.specs.declared.errors.Errno.{Errno}
use Rattle.iio_text.specs.declared.errors.Errno.TheVariants.{EBADF, EINVAL, ENODEV, ENOSYS}
use Rattle.iio_mask.specs.Text.{mask_of}
use Rattle.iio_layout.specs.Active.{has_data}
use Rattle.iio_layout.specs.Layout.{scan_size}
use Rattle.iio_layout.specs.Shape.{ShapeRecord, count_of}
use Rattle.iio_desc.specs.Description.{find_device}
use Rattle.iio_device.specs.declared.totals.Totals.{Totals}
use Rattle.iio_device.specs.Active.{is_without_union}
use Rattle.iiod_grammar.specs.Command.{Remask}
use Rattle.iiod_grammar.specs.Stream.{Item, Said}
use Rattle.iio_kfifo.specs.declared.limits.TheConstants.{MAX_BYTES}
use Rattle.iiod_commands.specs.Acts.{Acted, act, refused, remask_at, remask_place, remask_seat, remask_wanted, remasked_seat as session_remasked, where_known, zero_reply}
use Rattle.iio_desc.specs.Kind.{is_input}
use Rattle.iio_core.specs.Calls.{remask_of, remask_refusals as bench_refusals, station_after_remask as bench_remasked, unless, with_mask}
use Rattle.iiod_commands.specs.Client.{SeatState, ClientRecord, seat_state_remasked, mask_wanted, more_discarded, place_of, with_seats}
use Rattle.iio_core.specs.Front.{kind_at, shape_at}
use Rattle.iio_core.specs.Machine.{Member as MachineMember, Station as MachineStation, masks_of, member_in, queue_of, scans_in, station_at, with_station, without}
use Rattle.iio_core.specs.Opening.{mask_refusals}
use Rattle.iio_history.specs.Who.{Who, Conn, same}
use Rattle.iio_history.specs.Event.{Heard}
use Rattle.iio_history.specs.Registry.{Setup, Member, Device, mask_of_member, member_of, without_members}
use Rattle.iio_history.specs.Opening.{Remasked, remask_answer, remasked}
use Rattle.iio_history.specs.Act.{Act, Remasking, accepted, only as only_act}
use Rattle.iio_history.specs.Queue.{new_queue}
use Rattle.iio_history.specs.Told.{Seat, Station, Told, device_of, member_of_seat, registry_of}
use Rattle.iio_history.specs.Machine.{remasked_seat, step}
use Rattle.iio_history.specs.Reply.{replied, reply, seat_of}
use Rattle.iio_history.specs.Bench.{IsAct, IsBench, IsClientOf, seat_state_by, bench_by, front_of, machine_of, names_of, numbered, place_in, seat_at, seat_in}
use Rattle.iio_history.proofs.WhoLaws.{same_is}
use Rattle.iio_core.proofs.PlaceLists.{get_first, same_number}
use Rattle.iio_history.proofs.BenchLists.{first_appended, first_of_two}
use Rattle.iio_history.proofs.BenchSeats.{TellSame, id_of_seat, left_same, lost_same, masks_same, member_same, scans_same}
use Rattle.iio_history.proofs.BenchSteps.{bench_at, names_kept, shape_same}
use Rattle.iio_history.proofs.BenchClients.{counts_kept, HolderStays, holds_kept, keeps_spared, seat_kept, users_after}
use Rattle.iio_history.proofs.BenchPlaces.{is_at, place_none, put_apart, put_at}
use Rattle.iio_history.proofs.BenchPlain.{Acts, Names, at_named, keeps_else, state_changed, unchanged, where_kind, where_plugged}
use Rattle.iio_history.proofs.BenchBuffers.{own_seat, station_is, tells}
use Rattle.iio_history.proofs.BenchKept.{left_members}

-- ---- members

-- the membership of a seat that is found, or none
pub member_found : (who : Who) (xs : List Seat) → member_of who (map member_of_seat xs) ≡ option_map member_of_seat (seat_of who xs)
member_found who [] = refl
member_found who (x ∷ xs) = search (rules, same, member_found who xs)

seat_name : (who : Who) (xs : List Seat) (y : Seat) → seat_of who xs ≡ Some y → same who y.member.who ≡ true
seat_name who [] y is = cc
seat_name who (x ∷ xs) y is = search (rules, same, seat_name who xs y)

-- a seat under another mask
abbrev anew : ℕ → Seat → Seat
anew mask x =
    record { member = record x.member { mask = mask }; number = x.number; queue = new_queue; discarded = more_discarded x.discarded (length x.queue.scans) }

seat_remasked : (who : Who) (mask : ℕ) (xs : List Seat) (y : Seat) → seat_of who xs ≡ Some y
    → seat_of who (map (remasked_seat who mask) xs) ≡ Some (anew mask y)
seat_remasked who mask [] y is = cc
seat_remasked who mask (x ∷ xs) y is = search (rules, same, seat_remasked who mask xs y)

-- the members of a session's machine
members_remasked : (who : Who) (mask : ℕ) (y : Seat) (xs : List Seat) → TellSame who y xs
    → map numbered (map (remasked_seat who mask) xs) ≡ map (with_mask y.number mask y.member.capacity) (map numbered xs)
members_remasked who mask y [] tell = refl
members_remasked who mask y (x ∷ xs) tell = search (rules, numbered, same, members_remasked who mask y xs tell.2)

no_mask : (o : Option ℕ) → not (is_some o) ≡ is_none o
no_mask o = cc

-- ---- what a REMASK means

abbrev remasking : Result Remasked Errno → Act
remasking r = accepted (λ x. Remasking x.member x.mask) r

-- the answer of a plugged device
abbrev answer_by : Device → List ℕ → Option Member → Result Remasked Errno
answer_by x text o = ok_or o EBADF >>= remasked x text

module _ (s : Setup) (m : Told) (name : List ℕ) (client : ClientRecord) (device text : List ℕ) where
  abbrev item : Item
  item = Said (Ok (Remask device text))

  names : Names s m name (Said (Ok (Remask device text))) device
  names = search rules

  module _ (k : ℕ) (st : Station) (bench : IsBench s m) (d : IsClientOf m name client) (found : find_device s.desc device ≡ Some k)
      (at : slice_get m.stations k ≡ Some st) where
    acts : (r : Result Remasked Errno) → remask_answer (device_of st) (Conn name) text ≡ r
        → Acts s m name (Said (Ok (Remask device text))) device k st (remasking r)
    acts r is = grind (arith, common_steps)

    reply_is : (r : Result Remasked Errno) → remask_answer (device_of st) (Conn name) text ≡ r
        → replied (r >>= (λ remask. Ok zero_reply)) ≡ reply s m name (Said (Ok (Remask device text)))
    reply_is r is = cc

    -- a refused REMASK
    is_refused : (e : Errno) → remask_answer (device_of st) (Conn name) text ≡ Err e
        → IsAct s m name (Said (Ok (Remask device text))) (refused e (machine_of m) client)
    is_refused e is = search (rules, unchanged, acts, reply_is, keeps_spared)

    plugged_answer : is_input st.kind ≡ true → st.site.plugged ≡ true → (o : Option Seat) → seat_of (Conn name) st.seats ≡ o
        → remask_answer (device_of st) (Conn name) text ≡ answer_by (device_of st) text (option_map member_of_seat o)
    plugged_answer input plugged o is = search (rules, member_found)

    gone_answer : st.site.plugged ≡ false → remask_answer (device_of st) (Conn name) text ≡ Err ENODEV
    gone_answer gone = cc

    barred_answer : is_input st.kind ≡ false → st.site.plugged ≡ true → remask_answer (device_of st) (Conn name) text ≡ Err ENOSYS
    barred_answer other plugged = cc

    -- ---- at a seat

    module _ (input : is_input st.kind ≡ true) (plugged : st.site.plugged ≡ true) (y : Seat) (is : seat_of (Conn name) st.seats ≡ Some y) where
      abbrev mask : ℕ
      mask = unwrap_or (mask_of text (count_of st.shape)) 0

      own : Conn name ≡ y.member.who
      own = same_is (Conn name) y.member.who (seat_name (Conn name) st.seats y is)

      tell : TellSame (Conn name) y st.seats
      tell = tells s m name k st y bench at is

      abbrev others : List ℕ
      others = map mask_of_member (without_members (y.member.who ∷ []) (map member_of_seat st.seats))

      -- the masks of the others, in both views
      others_same : masks_of (without y.number (map numbered st.seats)) ≡ others
      others_same = search (rules, left_same, tell, masks_same, left_members, own)

      abbrev own_list : List (Bool × Errno)
      own_list =
          mask_refusals (is_none (mask_of text (count_of st.shape))) (not (has_data st.shape mask))
          (nat_lt MAX_BYTES (y.member.capacity * scan_size st.shape mask))

      abbrev union_list : List (Bool × Errno)
      union_list = (is_without_union st.shape others mask, EINVAL) ∷ []

      abbrev made : Remasked
      made = record { member = y.member; mask = mask }

      answer_is : (a b : Option Errno) → first_refusal own_list ≡ a → first_refusal union_list ≡ b
          → remask_answer (device_of st) (Conn name) text ≡ unless_refused made (first_of_two a b)
      answer_is a b first second =
          plugged_answer input plugged (Some y) is
          ∙ ap (λ (x : Bool). unless_refused made
          (first_refusal (mask_refusals x (not (has_data st.shape mask)) (nat_lt MAX_BYTES (y.member.capacity * scan_size st.shape mask)) ++ union_list)))
          (no_mask (mask_of text (count_of st.shape)))
          ∙ ap (unless_refused made)
          (first_appended own_list union_list ∙ ap (λ (o : Option Errno). first_of_two o (first_refusal union_list)) first ∙ ap (first_of_two a) second)

      wanted_is : mask_wanted (shape_at (front_of s) k) y.member.capacity text ≡ unless_refused mask (first_refusal own_list)
      unfolding mask_wanted
      wanted_is = ap (λ (shape : ShapeRecord). mask_wanted shape y.member.capacity text) (shape_same s m k st bench at)

      waiting : queue_of (machine_of m) k (id_of_seat y) ≡ y.queue.scans
      unfolding queue_of
      waiting = ap (λ (b : MachineStation). scans_in (id_of_seat y) b.members) (bench_at m k st at) ∙ scans_same (Conn name) y st.seats tell is

      -- the device's answer
      refusals_are : first_refusal (bench_refusals (shape_at (front_of s) k) (station_at (machine_of m) k) (id_of_seat y) mask) ≡ first_refusal union_list
      refusals_are =
          ap (λ (b : MachineStation). first_refusal (bench_refusals (shape_at (front_of s) k) b (id_of_seat y) mask)) (bench_at m k st at)
          ∙ ap (λ (shape : ShapeRecord). first_refusal (bench_refusals shape (bench_by (names_of m) st) (id_of_seat y) mask)) (shape_same s m k st bench at)
          ∙ ap (λ (b : Bool). first_refusal
          ((not b, ENODEV) ∷ (is_none (member_in (id_of_seat y) (map numbered st.seats)), EBADF)
          ∷ (is_without_union st.shape (masks_of (without y.number (map numbered st.seats))) mask, EINVAL) ∷ [])) plugged
          ∙ ap (λ (o : Option MachineMember). first_refusal
          ((is_none o, EBADF) ∷ (is_without_union st.shape (masks_of (without y.number (map numbered st.seats))) mask, EINVAL) ∷ []))
          (member_same (Conn name) y st.seats tell is)
          ∙ ap (λ (ns : List ℕ). first_refusal ((is_without_union st.shape ns mask, EINVAL) ∷ [])) others_same

      abbrev bench_with : Totals → List MachineMember → MachineStation
      bench_with totals members = record (bench_by (names_of m) st) { totals = totals; members = members }

      module _ (accepted_is : remask_answer (device_of st) (Conn name) text ≡ Ok made) where
        state_is : with_station (bench_remasked y.number mask y.member.capacity) k (machine_of m)
            ≡ machine_of (step s m (Heard name (Said (Ok (Remask device text)))))
        state_is =
            state_changed s m name (Said (Ok (Remask device text))) device k st (Remasking y.member mask) (acts (Ok made) accepted_is)
            (bench_remasked y.number mask y.member.capacity)
            (ap (λ (w : Who). bench_with (Rattle.iio_history.specs.Told.with_gone (w ∷ []) st.seats st.totals)
            (map numbered (map (remasked_seat w mask) st.seats))) (sym own)
            ∙ ap (λ (t : Totals). bench_with t (map numbered (map (remasked_seat (Conn name) mask) st.seats)))
            (lost_same (Conn name) y st.seats st.totals (station_is s m k st bench at).apart tell is)
            ∙ ap (bench_with (Rattle.iio_device.specs.Totals.with_left (Rattle.iio_core.specs.Machine.lost_by y.number (map numbered st.seats)) st.totals))
            (members_remasked (Conn name) mask y st.seats tell))

        abbrev new_seat_state : ℕ → SeatState
        new_seat_state n = seat_state_remasked mask n (seat_state_by k y)

        remasked_here : seat_in k (Conn name) (slice_get (step s m (Heard name item)).stations k) ≡ Some (new_seat_state (length y.queue.scans))
        remasked_here = search (rules, get_first, acts, own, seat_remasked)

        holder : (j : ℕ) (x : Station) (b : Bool) (r : Result Remasked Errno) → HolderStays (Conn name) (only_act b (remasking r)) x
        holder j x b r = search rules

        client_is : (i : ℕ) → slice_get client.seats i ≡ Some (seat_state_by k y)
            → IsClientOf (step s m (Heard name (Said (Ok (Remask device text))))) name
            (with_seats (slice_set client.seats i (new_seat_state (length y.queue.scans))) client)
        client_is i here = record {
          who = d.who ∙ sym (ap (λ (ns : List (List ℕ)). place_in ns name) (names_kept s m (Heard name item) refl));
          seats = λ j. put_at client.seats i (seat_state_by k y) (new_seat_state (length y.queue.scans)) d.apart here refl j ∙ by j (k == j) refl;
          apart = put_apart client.seats i (seat_state_by k y) (new_seat_state (length y.queue.scans)) d.apart here refl;
          buffers =
              λ j. d.buffers j ∙ sym (counts_kept s m (Heard name item) name (users_after s (registry_of m) (Heard name item) name m.lines [] refl)
              (λ u is. refl) j);
          holdings = search (rules, holds_kept, holder);
        }
          where
            by : (j : ℕ) (b : Bool) → (k == j) ≡ b
                → cond b (Some (new_seat_state (length y.queue.scans))) (seat_at j client.seats)
                ≡ seat_in j (Conn name) (slice_get (step s m (Heard name item)).stations j)
            by j true here = search (rules, step, same_number, remasked_here)
            by j false other = search (rules, seat_kept, keeps_else, acts)

      -- the answer of the device, as the session uses it
      abbrev taken : ℕ → Result ℕ Errno → Acted
      taken i r =
          let o =
          unless (bench_remasked y.number mask y.member.capacity) k (machine_of m) r in session_remasked client i (seat_state_by k y) mask o.machine o.answer

      by_union : (i : ℕ) → slice_get client.seats i ≡ Some (seat_state_by k y) → first_refusal own_list ≡ None → (b : Option Errno)
          → first_refusal union_list ≡ b
          → IsAct s m name (Said (Ok (Remask device text))) (remask_wanted (front_of s) (machine_of m) client i (seat_state_by k y) (Ok mask))
      unfolding remask_of
      by_union i here first b second =
          subst (λ (o : Option Errno). IsAct s m name (Said (Ok (Remask device text)))
          (taken i (unless_refused (length (queue_of (machine_of m) k (id_of_seat y))) o))) (sym (refusals_are ∙ second))
          (subst (λ (q : List (List ℕ)). IsAct s m name (Said (Ok (Remask device text))) (taken i (unless_refused (length q) b))) (sym waiting)
          (by b (answer_is None b first second)))
        where
          by : (b : Option Errno) → remask_answer (device_of st) (Conn name) text ≡ unless_refused made (first_of_two None b)
              → IsAct s m name (Said (Ok (Remask device text))) (taken i (unless_refused (length y.queue.scans) b))
          by b answer = grind (arith, common_steps, is_refused, reply_is, state_is, client_is)

      by_own : (i : ℕ) → slice_get client.seats i ≡ Some (seat_state_by k y) → (a : Option Errno) → first_refusal own_list ≡ a
          → IsAct s m name (Said (Ok (Remask device text))) (remask_wanted (front_of s) (machine_of m) client i (seat_state_by k y) (unless_refused mask a))
      by_own i here (Some e) first = is_refused e (answer_is (Some e) (first_refusal union_list) first refl)
      by_own i here None first = by_union i here first (first_refusal union_list) refl

      at_seat : (i : ℕ) → slice_get client.seats i ≡ Some (seat_state_by k y)
          → IsAct s m name (Said (Ok (Remask device text))) (remask_seat (front_of s) (machine_of m) client text i (Some (seat_state_by k y)))
      at_seat i here = search (rules, wanted_is, by_own)

    by_seat : is_input st.kind ≡ true → st.site.plugged ≡ true → (o : Option Seat) → seat_of (Conn name) st.seats ≡ o
        → IsAct s m name (Said (Ok (Remask device text))) (remask_place (front_of s) (machine_of m) client text (place_of k client.seats))
    by_seat input plugged None is =
        subst (λ (p : Option ℕ). IsAct s m name (Said (Ok (Remask device text))) (remask_place (front_of s) (machine_of m) client text p))
        (sym (place_none k client.seats (own_seat m name client k st None d at is)))
        (is_refused EBADF (plugged_answer input plugged None is))
    by_seat input plugged (Some y) is =
        let f = is_at k client.seats (seat_state_by k y) d.apart (own_seat m name client k st (Some y) d at is) in
        subst (λ (p : Option ℕ). IsAct s m name (Said (Ok (Remask device text))) (remask_place (front_of s) (machine_of m) client text p)) (sym f.place)
        (subst (λ (b : Option SeatState). IsAct s m name (Said (Ok (Remask device text))) (remask_seat (front_of s) (machine_of m) client text f.i b))
        (sym f.here)
        (at_seat input plugged y is f.i f.here))

    remask_here : IsAct s m name (Said (Ok (Remask device text)))
        (where_known (is_input (kind_at (front_of s) k)) (machine_of m) client k (remask_at (front_of s) (machine_of m) client text k))
    remask_here =
        where_kind s m k st client is_input _ (IsAct s m name (Said (Ok (Remask device text)))) bench at
        (λ input. where_plugged m k st client _ (IsAct s m name (Said (Ok (Remask device text)))) at
        (λ plugged. by_seat input plugged (seat_of (Conn name) st.seats) refl) (λ gone. is_refused ENODEV (gone_answer gone)))
        (λ other plugged. is_refused ENOSYS (barred_answer other plugged)) (λ other gone. is_refused ENODEV (gone_answer gone))

pub remask_is : (s : Setup) (m : Told) (name : List ℕ) (client : ClientRecord) (device text : List ℕ) → IsBench s m → IsClientOf m name client
    → IsAct s m name (Said (Ok (Remask device text))) (act (front_of s) (machine_of m) client (Said (Ok (Remask device text))))
unfolding act
remask_is s m name client device text bench d = search (rules, at_named, names, remask_here)
