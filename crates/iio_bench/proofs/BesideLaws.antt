-- The connections besides the watched one, one after another.
use Rattle.std.proofs.Common.{◌≡◌, ℕ, ◌+◌, ◌<◌, ◌&&◌, ◌||◌, Bool, true, false, cond, List, [], ◌∷◌, ◌++◌, length, drop, get_or, Option, Some, None, option_map, is_some, refl, sym, ap, ◌∙◌, arith, rules}
use Rattle.std.proofs.lemmas.Grind.{common_steps}
use Rattle.std.specs.Borrow.{Bor}
use Rattle.std.specs.Option.{option_copied}
use Rattle.std.specs.Str.{bytes_eq}
use Rattle.iiod_commands.specs.Client.{ClientRecord, client_of, place_of, seats_of}
use Rattle.iiod_commands.specs.Seat.{SeatRecord}
use Rattle.iiod_session.specs.Session.{SessionRecord}
use Rattle.iio_device.specs.Site.{is_empty}
use Rattle.iio_history.proofs.BenchPlaces.{open_same}
use Rattle.iio_worlds.specs.Stance.{has_seat, none_seated, one_seated}
use Rattle.iio_bench.specs.declared.connection.Connection.{Connection}
use Rattle.iio_bench.specs.Guard.{connection_named, client_by, client_named, clients_besides, with_client}

or_more : (a b c : Bool) → (a || (b || c)) ≡ ((a || b) || c)
or_more a b c = search rules

and_more : (a b c : Bool) → (a && (b && c)) ≡ ((a && b) && c)
and_more a b c = search rules

seated_join : (ds es : List ClientRecord) (k : ℕ) → one_seated (ds ++ es) k ≡ (one_seated ds k || one_seated es k)
seated_join [] es k = refl
seated_join (d ∷ ds) es k = ap (λ (b : Bool). has_seat k d || b) (seated_join ds es k) ∙ or_more (has_seat k d) (one_seated ds k) (one_seated es k)

none_join : (ds es : List ClientRecord) → none_seated (ds ++ es) ≡ (none_seated ds && none_seated es)
none_join [] es = refl
none_join (d ∷ ds) es = ap (λ (b : Bool). is_empty d.seats && b) (none_join ds es) ∙ and_more (is_empty d.seats) (none_seated ds) (none_seated es)

module _ {S : Type 0} (seen : S → SeatRecord) where
  -- the client of a session, if there is one
  abbrev pub session_client : Option (SessionRecord S) → Option ClientRecord
  session_client o = option_map (λ (x : SessionRecord S). client_of seen x.client) o

  -- a session has a seat at a device if it has a place
  pub held_is : (x : SessionRecord S) (dev : ℕ) (b : Bool) → b ≡ is_some (place_of dev (seats_of seen x.client.held.items))
      → b ≡ has_seat dev (client_of seen x.client)
  held_is x dev b is = is ∙ open_same dev (seats_of seen x.client.held.items)

  -- a session that is lent
  pub lent_client : (own : Option (Bor (SessionRecord S))) → client_by seen own ≡ session_client (option_copied own)
  lent_client own = search rules

  -- ---- one connection: if it has that name it counts as nobody, and so it does if it has ended

  pub same_seated : (a : List ℕ) (c : Connection S) (k : ℕ) → bytes_eq c.name a ≡ true → false ≡ one_seated (clients_besides seen a (c ∷ [])) k
  same_seated a c k same = ap (λ (b : Bool). one_seated (cond b [] (with_client seen c.session [])) k) (sym same)

  pub ended_seated : (a : List ℕ) (c : Connection S) (k : ℕ) → bytes_eq c.name a ≡ false → c.session ≡ None
      → false ≡ one_seated (clients_besides seen a (c ∷ [])) k
  ended_seated a c k other none = cc

  pub live_seated : (a : List ℕ) (c : Connection S) (x : SessionRecord S) (k : ℕ) (h : Bool) → bytes_eq c.name a ≡ false → c.session ≡ Some x
      → h ≡ has_seat k (client_of seen x.client)
      → h ≡ one_seated (clients_besides seen a (c ∷ [])) k
  live_seated a c x k h other some is = search rules

  pub same_none : (a : List ℕ) (c : Connection S) → bytes_eq c.name a ≡ true → true ≡ none_seated (clients_besides seen a (c ∷ []))
  same_none a c same = ap (λ (b : Bool). none_seated (cond b [] (with_client seen c.session []))) (sym same)

  pub ended_none : (a : List ℕ) (c : Connection S) → bytes_eq c.name a ≡ false → c.session ≡ None → true ≡ none_seated (clients_besides seen a (c ∷ []))
  ended_none a c other none = cc

  pub live_none : (a : List ℕ) (c : Connection S) (x : SessionRecord S) (h : Bool) → bytes_eq c.name a ≡ false → c.session ≡ Some x
      → h ≡ is_empty (client_of seen x.client).seats
      → h ≡ none_seated (clients_besides seen a (c ∷ []))
  live_none a c x h other some is = search rules

  -- ---- from a place on

  pub seated_on : (a : List ℕ) (cs : List (Connection S)) (i : ℕ) (c : Connection S) (k : ℕ) (b : Bool) → i < length cs → c ≡ get_or cs i c
      → b ≡ one_seated (clients_besides seen a (c ∷ [])) k
      → one_seated (clients_besides seen a (drop i cs)) k ≡ (b || one_seated (clients_besides seen a (drop (i + 1) cs)) k)
  seated_on a cs i c k b within is first = grind (arith, common_steps)

  pub none_on : (a : List ℕ) (cs : List (Connection S)) (i : ℕ) (c : Connection S) (b : Bool) → i < length cs → c ≡ get_or cs i c
      → b ≡ none_seated (clients_besides seen a (c ∷ []))
      → none_seated (clients_besides seen a (drop i cs)) ≡ (b && none_seated (clients_besides seen a (drop (i + 1) cs)))
  none_on a cs i c b within is first = grind (arith, common_steps)

  -- ---- in two parts

  clients_parts : (a : List ℕ) (cs ds : List (Connection S)) → clients_besides seen a (cs ++ ds) ≡ clients_besides seen a cs ++ clients_besides seen a ds
  clients_parts a [] ds = refl
  clients_parts a (c ∷ cs) ds = search (rules, clients_parts a cs ds)

  seated_parts : (a : List ℕ) (cs ds : List (Connection S)) (k : ℕ)
      → (one_seated (clients_besides seen a cs) k || one_seated (clients_besides seen a ds) k) ≡ one_seated (clients_besides seen a (cs ++ ds)) k
  seated_parts a cs ds k = simp (clients_parts, seated_join)

  none_parts : (a : List ℕ) (cs ds : List (Connection S))
      → (none_seated (clients_besides seen a cs) && none_seated (clients_besides seen a ds)) ≡ none_seated (clients_besides seen a (cs ++ ds))
  none_parts a cs ds = sym (ap none_seated (clients_parts a cs ds) ∙ none_join (clients_besides seen a cs) (clients_besides seen a ds))

  -- a connection has the device open if one of the first part has, or else one of the second
  pub seated_before : (a : List ℕ) (cs ds : List (Connection S)) (k : ℕ) (x : Bool) → x ≡ true → x ≡ one_seated (clients_besides seen a cs) k
      → x ≡ one_seated (clients_besides seen a (cs ++ ds)) k
  seated_before a cs ds k x is first = is ∙ ap (λ (b : Bool). b || one_seated (clients_besides seen a ds) k) (sym is ∙ first) ∙ seated_parts a cs ds k

  pub seated_after : (a : List ℕ) (cs ds : List (Connection S)) (k : ℕ) (x y : Bool) → x ≡ false → x ≡ one_seated (clients_besides seen a cs) k
      → y ≡ one_seated (clients_besides seen a ds) k
      → y ≡ one_seated (clients_besides seen a (cs ++ ds)) k
  seated_after a cs ds k x y is first second =
      second ∙ ap (λ (b : Bool). b || one_seated (clients_besides seen a ds) k) (sym is ∙ first) ∙ seated_parts a cs ds k

  -- none has a device open if none of the first part has, and none of the second
  pub none_before : (a : List ℕ) (cs ds : List (Connection S)) (x : Bool) → x ≡ false → x ≡ none_seated (clients_besides seen a cs)
      → x ≡ none_seated (clients_besides seen a (cs ++ ds))
  none_before a cs ds x is first = is ∙ ap (λ (b : Bool). b && none_seated (clients_besides seen a ds)) (sym is ∙ first) ∙ none_parts a cs ds

  pub none_after : (a : List ℕ) (cs ds : List (Connection S)) (x y : Bool) → x ≡ true → x ≡ none_seated (clients_besides seen a cs)
      → y ≡ none_seated (clients_besides seen a ds)
      → y ≡ none_seated (clients_besides seen a (cs ++ ds))
  none_after a cs ds x y is first second = second ∙ ap (λ (b : Bool). b && none_seated (clients_besides seen a ds)) (sym is ∙ first) ∙ none_parts a cs ds

  -- ---- the first connection of a name

  abbrev client_at : Option (Connection S) → Option ClientRecord
  client_at o = elim o [ None ↦ None | Some c ↦ session_client c.session ]

  client_found : (a : List ℕ) (cs : List (Connection S)) → client_at (connection_named a cs) ≡ client_named seen a cs
  client_found a [] = refl
  client_found a (c ∷ cs) = search (rules, client_found a cs)

  -- the session of that one, as it is lent
  pub lent_found : (a : List ℕ) (cs : List (Connection S)) (c : Bor (Connection S)) (own : Option (Bor (SessionRecord S))) (found : Option (Bor (Connection S)))
      → found ≡ Some c → option_copied found ≡ connection_named a cs → option_copied own ≡ c.now.session → client_by seen own ≡ client_named seen a cs
  lent_found a cs c own found is named same = lent_client own ∙ ap session_client same ∙ ap client_at (ap option_copied (sym is) ∙ named) ∙ client_found a cs

  pub lent_nowhere : (a : List ℕ) (cs : List (Connection S)) (own : Option (Bor (SessionRecord S))) (found : Option (Bor (Connection S)))
      → found ≡ None → option_copied found ≡ connection_named a cs → own ≡ None → client_by seen own ≡ client_named seen a cs
  lent_nowhere a cs own found is named none =
      ap (λ (o : Option (Bor (SessionRecord S))). client_by seen o) none ∙ ap client_at (ap option_copied (sym is) ∙ named) ∙ client_found a cs

  -- ---- all connections except one

  -- a connection of that name counts as nobody
  pub besides_between : (a : List ℕ) (cs ds : List (Connection S)) (c : Connection S) → bytes_eq c.name a ≡ true
      → clients_besides seen a (cs ++ ds) ≡ clients_besides seen a (cs ++ c ∷ ds)
  besides_between a [] ds c is = rw is refl
  besides_between a (e ∷ cs) ds c is = simp (besides_between a cs ds c is)

  -- a connection of another name isn't the first of that name
  pub named_between : (a : List ℕ) (cs ds : List (Connection S)) (c : Connection S) → bytes_eq c.name a ≡ false
      → client_named seen a (cs ++ ds) ≡ client_named seen a (cs ++ c ∷ ds)
  named_between a [] ds c is = rw is refl
  named_between a (e ∷ cs) ds c is = ap (λ (o : Option ClientRecord). cond (bytes_eq e.name a) (session_client e.session) o) (named_between a cs ds c is)

-- ---- the first connection of a name

module _ {S : Type 0} (a : List ℕ) where
  abbrev or_else : Option (Connection S) → Option (Connection S) → Option (Connection S)
  or_else None other = other
  or_else (Some c) other = Some c

  named_parts : (cs ds : List (Connection S)) → or_else (connection_named a cs) (connection_named a ds) ≡ connection_named a (cs ++ ds)
  named_parts [] ds = refl
  named_parts (c ∷ cs) ds = search (rules, named_parts cs ds)

  -- it is that of the first part, or else that of the second
  pub named_before : (cs ds : List (Connection S)) (c : Bor (Connection S)) (found : Option (Bor (Connection S))) → found ≡ Some c
      → option_copied found ≡ connection_named a cs
      → Some c.now ≡ connection_named a (cs ++ ds)
  named_before cs ds c found is named =
      ap (λ (o : Option (Connection S)). or_else o (connection_named a ds)) (ap option_copied (sym is) ∙ named) ∙ named_parts cs ds

  pub named_after : (cs ds : List (Connection S)) (found other : Option (Bor (Connection S))) → found ≡ None → option_copied found ≡ connection_named a cs
      → option_copied other ≡ connection_named a ds → option_copied other ≡ connection_named a (cs ++ ds)
  named_after cs ds found other is named last =
      last ∙ ap (λ (o : Option (Connection S)). or_else o (connection_named a ds)) (ap option_copied (sym is) ∙ named) ∙ named_parts cs ds

  -- the first connection of a name from a place on
  pub named_on : (cs : List (Connection S)) (i : ℕ) (c : Connection S) (b : Bool) → i < length cs → c ≡ get_or cs i c → b ≡ bytes_eq c.name a
      → connection_named a (drop i cs) ≡ cond b (Some c) (connection_named a (drop (i + 1) cs))
  named_on cs i c b within is first = grind (arith, common_steps)
