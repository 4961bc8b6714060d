-- What a piece of the stream means for the items, and what is made of it.
use Rattle.std.proofs.Common.{◌≡◌, ◌≢◌, ℕ, ◌<◌, ◌≤◌, nat_lt, Bool, true, false, List, [], ◌∷◌, ◌++◌, ◌+◌, ◌-◌, take, drop, length, refl, sym, ap, ◌∙◌, append-nil, Option, Some, None, IfSome, Result, Ok, Err, IfOk, arith, rules}
use Rattle.std.proofs.lemmas.Grind.{common_steps}
use Rattle.std.proofs.lemmas.List.{drop-drop, take_rest}
use Rattle.std.proofs.Math.Seq.{drop-append_seam}
use Rattle.iio_base.specs.declared.Mem.{Mem}
use Rattle.iio_text.specs.declared.errors.Errno.{Errno}
use Rattle.iio_text.specs.declared.errors.Errno.TheVariants.{E2BIG, EFBIG}
use Rattle.iiod_grammar.specs.declared.command.Refused.{Refused}
use Rattle.iiod_grammar.specs.declared.command.Refused.TheVariants.{Empty}
use Rattle.iiod_grammar.specs.declared.lines.Ready.{Ready}
use Rattle.iiod_grammar.specs.declared.lines.Ready.TheVariants.{More, Line, Payload, TooLong}
use Rattle.iiod_grammar.specs.declared.lines.TheConstants.{MAX_PAYLOAD}
use Rattle.std.specs.Borrow.{Bor}
use Rattle.iiod_grammar.specs.declared.command.Command.{Command as CodeCommand}
use Rattle.iiod_grammar.specs.declared.command.Command.TheVariants as code
use Rattle.iiod_grammar.specs.declared.command.Place.{Place as CodePlace}
use Rattle.iiod_grammar.specs.View.{command_view}
use Rattle.iiod_grammar.specs.Command.{Command, Exit, ReadBuf, Write, WriteBuf, command_of}
use Rattle.iiod_grammar.specs.Lines.{LinesRecord, after_piece}
use Rattle.iiod_grammar.specs.Scans.{ScansBy, scan_on, scanner_at}
use Rattle.iiod_grammar.specs.Stream.{Item, Said, Pending, End, ItemsCutAnywhere, ScannerCutAnywhere, Scanned, AtEnd, InLine, after_line, after_said, ended_by, no_item, one_item, payload_begun, with_payload}
use Rattle.iiod_reply.specs.Reply.{Reply, text_of}
use Rattle.iiod_commands.specs.declared.client.OpenSeat.{OpenSeat}
use Rattle.iiod_session.specs.declared.going.Going.{Going}
use Rattle.iiod_session.specs.declared.going.Going.TheVariants.{On, Waits, Ended}
use Rattle.iiod_commands.specs.declared.manner.Manner.{Manner}
use Rattle.iiod_commands.specs.declared.manner.Progress.{Progress}
use Rattle.iiod_commands.specs.declared.manner.Progress.TheVariants.{Done, Waits as PerformedWaits}
use Rattle.iiod_commands.specs.Acts.{Acts, act, end_reply, left_client, left_machine}
use Rattle.iiod_commands.specs.Client.{ClientRecord, traces_of, State, answering}
use Rattle.iio_core.specs.Front.{Front}
use Rattle.iio_core.specs.Machine.{Machine}
use Rattle.iiod_commands.specs.Moves.{AnswersAlone, AnswersAs}
use Rattle.iiod_session.specs.PendingWrite.{PendingRecord, pending_of}
use Rattle.iiod_commands.specs.Performs.{IsAllowed, IsAtOnce, IsReadOf, Performs}
use Rattle.iiod_session.specs.Run.{CarriesBy, FedBy, feeding}
use Rattle.iiod_commands.specs.Seat.{SeatRecord}
use Rattle.iiod_session.specs.Session.{IsKept, IsPlain, piece_by, stream_by, unread_of}
use Rattle.iiod_session.specs.Watch.{Hears, Tells, is_waiting, waits_in}
use Rattle.iiod_session.proofs.WatchLaws.{scene}
use Rattle.iiod_session.proofs.FeedLaws.{fed_more, fed_none, fed_one, fed_then, feeds_more, feeds_of, feeds_on, feeds_then, goes_on}
use Rattle.iiod_session.proofs.StreamLaws.{scan_end, scan_nil, scan_rest, scanner_goes_on}

-- ---- the end

end_allowed : (manner : Manner) (error : Option Errno) → IsAllowed manner (end_reply error)
end_allowed manner error = search rules

end_alone : (front : Front) (client : ClientRecord) (error : Option Errno) → AnswersAlone front client (End error) (end_reply error)
end_alone front client error = search rules

end_formed : (front : Front) (error : Option Errno) → AnswersAs front (End error) (end_reply error)
end_formed front error = search rules

end_acts : (front : Front) (a b : State) (error : Option Errno) → IfSome a.told (λ m. b.told ≡ Some (left_machine front m a.client))
    → b.client ≡ left_client a.client
    → IfSome a.told (λ m. Acts front m a.client (End error) (end_reply error) b.told b.client)
unfolding act
end_acts front a b error t d = search rules

module _ {W : Type 0} {makes : Front → Option Machine → ℕ → Item → W → W → Type 0} where
  ends : (manner : Manner) (front : Front) (a b : State) (w v : W) (error : Option Errno) (before after : List ℕ)
      → makes front a.told a.client.who (End error) w v → after ≡ before ++ text_of (end_reply error)
      → IfSome a.told (λ m. b.told ≡ Some (left_machine front m a.client)) → b.client ≡ left_client a.client → b.traces ≡ []
      → Hears makes manner front (feeding (scene a w false) (ended_by error) before) (feeding (scene b v false) (no_item AtEnd) after) Ended
  ends manner front a b w v error before after tells text t d none =
      feeds_of manner front _ (scene b v false) _ Ended
      (fed_one _ _ (End error) (end_reply error) refl refl text
      (record {
        tells = tells;
        answered = record {
          allowed = end_allowed manner error;
          answer = tt;
          served = record {
            alone = end_alone front a.client error;
            formed = end_formed front error;
            exact = end_acts front a b error t d;
            moves = (refl, d, none);
          };
        };
        next = refl;
      }))
      (refl, refl)

  -- the end of a connection, as `end` makes it
  pub end_feeds : {S : Type 0} (seen : S → SeatRecord) (manner : Manner) (front : Front) (a b : State) (w v : W) (held : List (OpenSeat S))
      (error : Option Errno) (before after : List ℕ)
      → makes front a.told a.client.who (End error) w v → after ≡ before ++ text_of (end_reply error)
      → IfSome a.told (λ m. b.told ≡ Some (left_machine front m a.client)) → b.client ≡ left_client a.client → b.traces ≡ traces_of seen held → held ≡ []
      → Hears makes manner front (feeding (scene a w false) (ended_by error) before) (feeding (scene b v false) (no_item AtEnd) after) Ended
  end_feeds seen manner front a b w v held error before after tells text t d traces none = search (rules, ends)

-- a line that ends the connection
pub ended_line : {W : Type 0} (makes : Front → Option Machine → ℕ → Item → W → W → Type 0) (manner : Manner) (front : Front) (a b : State) (w v : W)
    (error : Option Errno) (all : Scanned) (before after : List ℕ) (lines : LinesRecord) (pending : PendingRecord) (r : Result Going Mem)
    → all ≡ ended_by error → IfOk r (λ going. going ≡ Ended)
    → IfOk r (λ going. Hears makes manner front (feeding (scene a w false) (ended_by error) before) (feeding (scene b v false) (no_item AtEnd) after) going)
    → IfOk r (λ going. Hears makes manner front (feeding (scene a w false) all before)
    (feeding (scene b v (is_waiting going)) (stream_by going lines pending) after) going)
ended_line makes manner front a b w v error all before after lines pending r is e f = search rules

-- ---- lines

pub exit_line : (line : List ℕ) → command_of line ≡ Ok Exit → after_line line ≡ ended_by None
exit_line line e = ap (λ said. after_said said) e

pub overlong_line : (line : List ℕ) (of : Pending) (count : ℕ) → after_line line ≡ payload_begun of count → MAX_PAYLOAD < count
    → after_line line ≡ ended_by (Some EFBIG)
overlong_line line of count e more = e ∙ rw (let b : nat_lt MAX_PAYLOAD count ≡ true = grind arith in b) refl

-- the line of a command whose payload comes next
payload_stream : (line : List ℕ) (of : Pending) (count : ℕ) (kept : PendingRecord) → after_line line ≡ payload_begun of count → count ≤ MAX_PAYLOAD
    → pending_of kept ≡ of
    → after_line line ≡ stream_by On (record (after_piece line) { wanted = Some count }) kept
payload_stream line of count kept e within is = e ∙ rw ((let b : nat_lt MAX_PAYLOAD count ≡ false = grind arith in b), is) refl

pub payload_feeds : {W : Type 0} {makes : Front → Option Machine → ℕ → Item → W → W → Type 0} (manner : Manner) (front : Front) (a : State) (w : W)
    (line : List ℕ) (of : Pending) (count : ℕ) (before : List ℕ) (lines : LinesRecord) (kept : PendingRecord)
    → after_line line ≡ payload_begun of count → count ≤ MAX_PAYLOAD → lines ≡ record (after_piece line) { wanted = Some count } → pending_of kept ≡ of
    → Hears makes manner front (feeding (scene a w false) (after_line line) before) (feeding (scene a w false) (stream_by On lines kept) before) On
payload_feeds manner front a w line of count before lines kept e within is same = search (rules, payload_stream, goes_on, fed_none)

plain_line : (said : Result Command Refused) → IsPlain said → after_said said ≡ one_item (Said said)
plain_line said p = search rules

abbrev pub going_of : Progress → Going
going_of Done = On
going_of (PerformedWaits dev) = Waits dev

pub plain_feeds : {W : Type 0} {makes : Front → Option Machine → ℕ → Item → W → W → Type 0} (manner : Manner) (front : Front) (a b : State) (w v : W)
    (told : Bool) (line : List ℕ) (kept : PendingRecord) (said : Result Command Refused) (lines : LinesRecord) (before after : List ℕ) (p : Progress)
    → command_of line ≡ said → IsPlain said → lines ≡ after_piece line
    → Tells makes manner front (scene a w told) (Said said) v
    → Performs manner front (answering a before) (Said said) (answering b after) p
    → Hears makes manner front (feeding (scene a w told) (after_line line) before)
    (feeding (scene b v (is_waiting (going_of p))) (stream_by (going_of p) lines kept) after)
    (going_of p)
plain_feeds manner front a b w v told line kept said lines before after Done e plain is tells x =
    let all : after_line line ≡ one_item (Said said) = ap (λ z. after_said z) e ∙ plain_line said plain in
    let left : stream_by On lines kept ≡ no_item (InLine []) = rw is refl in
    goes_on manner front _ _ (scanner_goes_on lines (pending_of kept))
    (rw (all, left) (fed_one _ _ (Said said) x.0 refl refl x.1
    (record { tells = tells; answered = record { allowed = x.2; answer = x.3; served = x.4 }; next = refl })))
plain_feeds manner front a b w v told line kept said lines before after (PerformedWaits dev) e plain is tells x =
    let all : after_line line ≡ one_item (Said said) = ap (λ z. after_said z) e ∙ plain_line said plain in
    let left : stream_by (Waits dev) lines kept ≡ one_item (Said said) = rw is all in
    feeds_of manner front _ (scene a w told) _ (Waits dev) (rw (all, left, x.0) (fed_none _)) (record {
      server = x.1;
      item = Said said;
      more = [];
      first = ap (λ (z : Scanned). z.items) left;
      read = x.2;
      served = record { tells = tells; served = x.3; put = refl };
    })

-- a line that is answered at once
pub once_plain : (said : Result Command Refused) → IsAtOnce said → IsPlain said
once_plain said once = search rules

no_wait : (front : Front) (dev : ℕ) (said : Result Command Refused) → IsAtOnce said → IsReadOf front dev (Said said) → ⊥
no_wait front dev said once r = search rules

pub at_once_feeds : {W : Type 0} {makes : Front → Option Machine → ℕ → Item → W → W → Type 0} (manner : Manner) (front : Front) (a b : State) (w v : W)
    (kept : PendingRecord) (said : Result Command Refused) (lines : LinesRecord) (before after : List ℕ) (p : Progress)
    → lines ≡ after_piece lines.piece → command_of lines.piece ≡ said → IsAtOnce said
    → makes front a.told a.client.who (Said said) w v
    → Performs manner front (answering a before) (Said said) (answering b after) p
    → Hears makes manner front (feeding (scene a w false) (after_line lines.piece) before) (feeding (scene b v false) (stream_by On lines kept) after) On
at_once_feeds manner front a b w v kept said lines before after Done is e once tells x =
    plain_feeds manner front a b w v false lines.piece kept said lines before after Done e (once_plain said once) is tells x
at_once_feeds manner front a b w v kept said lines before after (PerformedWaits dev) is e once tells x = absurd (no_wait front dev said once x.2)

-- ---- payloads

no_read : (front : Front) (dev : ℕ) (of : Pending) (payload : List ℕ) → IsReadOf front dev (with_payload of payload) → ⊥
no_read front dev of payload r = search rules

pub written_feeds : {W : Type 0} {makes : Front → Option Machine → ℕ → Item → W → W → Type 0} (manner : Manner) (front : Front) (a b : State) (w v : W)
    (lines : LinesRecord) (kept : PendingRecord) (of : Pending) (payload before after : List ℕ) (p : Progress)
    → lines ≡ after_piece lines.piece
    → makes front a.told a.client.who (with_payload of payload) w v
    → Performs manner front (answering a before) (with_payload of payload) (answering b after) p
    → Hears makes manner front (feeding (scene a w false) (one_item (with_payload of payload)) before)
    (feeding (scene b v false) (stream_by On lines kept) after) On
written_feeds manner front a b w v lines kept of payload before after Done is tells x =
    let left : stream_by On lines kept ≡ no_item (InLine []) = ap (λ (z : LinesRecord). stream_by On z kept) is in
    goes_on manner front _ _ (scanner_goes_on lines (pending_of kept))
    (rw left (fed_one _ _ (with_payload of payload) x.0 refl refl x.1
    (record { tells = tells; answered = record { allowed = x.2; answer = x.3; served = x.4 }; next = refl })))
written_feeds manner front a b w v lines kept of payload before after (PerformedWaits dev) is tells x = absurd (no_read front dev of payload x.2)

pub said_feeds : {W : Type 0} {makes : Front → Option Machine → ℕ → Item → W → W → Type 0} (manner : Manner) (front : Front) (a b : State) (w v : W)
    (told : Bool) (kept : PendingRecord) (said : Result Command Refused) (lines : LinesRecord) (before after : List ℕ) (p : Progress)
    → lines ≡ after_piece lines.piece → command_of lines.piece ≡ said → IsPlain said
    → Tells makes manner front (scene a w told) (Said said) v
    → Performs manner front (answering a before) (Said said) (answering b after) p
    → Hears makes manner front (feeding (scene a w told) (after_line lines.piece) before)
    (feeding (scene b v (is_waiting (going_of p))) (stream_by (going_of p) lines kept) after)
    (going_of p)
said_feeds manner front a b w v told kept said lines before after p is e plain tells x = search (rules, plain_feeds)

-- a line of no bytes
pub blank_line : (line : List ℕ) → line ≡ [] → command_of line ≡ Err Empty
blank_line line none = ap command_of none

-- ---- pieces of further bytes

-- no piece is whole
pub more_feeds : {S : Type 0} {Answered : S → Item → Reply → S → Type 0} {Unanswered : S → Item → S → Type 0} (manner : Manner) (front : Front) (a b : S)
    (all : Scanned) (before after : List ℕ) (old new : LinesRecord) (pending : Pending) (rest whole tail : List ℕ)
    → scan_on (scanner_at old pending) rest ≡ scanner_at new pending → rest ≡ whole → tail ≡ []
    → FedBy Answered (feeding a all before) (feeding b (scan_on (scanner_at old pending) whole) after)
    → CarriesBy Answered Unanswered manner front (feeding a all before) (feeding b (scan_on (scanner_at new pending) tail) after) On
more_feeds manner front a b all before after old new pending rest whole tail scans same none f = search rules

ended_stays : (e : Option Errno) (bytes : List ℕ) → scan_on (ended_by e) bytes ≡ ended_by e
ended_stays e bytes = ap (λ (s : Scanned). let x : Scanned = record { items = End e ∷ s.items; next = s.next } in x) (scan_end bytes)

-- the bytes from a place on, and those after some of them
pub rest_after : (at taken : ℕ) (bytes : List ℕ) → drop taken (take (length bytes - at) (drop at bytes)) ≡ drop (at + taken) bytes
rest_after at taken bytes = ap (λ bs. drop taken bs) (take_rest bytes at) ∙ drop-drop taken at bytes

drop_all : (bytes : List ℕ) → drop (length bytes) bytes ≡ []
drop_all bytes = ap (λ bs. drop (length bytes) bs) (sym (append-nil bytes)) ∙ drop-append_seam bytes []

-- all bytes were taken
pub all_taken : (at taken : ℕ) (bytes : List ℕ) → at ≤ length bytes → taken ≡ length (take (length bytes - at) (drop at bytes)) → at + taken ≡ length bytes
all_taken at taken bytes within all = grind (arith, common_steps)

pub none_after : (at taken : ℕ) (bytes : List ℕ) → at ≤ length bytes → taken ≡ length (take (length bytes - at) (drop at bytes)) → drop (at + taken) bytes ≡ []
none_after at taken bytes within all = ap (λ n. drop n bytes) (all_taken at taken bytes within all) ∙ drop_all bytes

-- a piece is whole, and the bytes after it
pub piece_scans : ItemsCutAnywhere → ScannerCutAnywhere → (old new : LinesRecord) (kept : PendingRecord) (rest : List ℕ) (taken : ℕ) (ready : Ready)
    → (ready ≢ More) → old.overlong ≡ false
    → ScansBy (pending_of kept) old rest taken ready new
    → scan_on (stream_by On old kept) rest ≡ scan_on (piece_by ready new kept) (drop taken rest)
piece_scans items scanner old new kept rest taken More n going scans = absurd (n refl)
piece_scans items scanner old new kept rest taken Line n going scans = search (rules, scan_rest)
piece_scans items scanner old new kept rest taken Payload n going scans = search (rules, scan_rest)
piece_scans items scanner old new kept rest taken TooLong n going scans = scans going ∙ sym (ended_stays (Some E2BIG) (drop taken rest))

pub on_fed : {S : Type 0} {Answered : S → Item → Reply → S → Type 0} {Unanswered : S → Item → S → Type 0} (manner : Manner) (front : Front) (a b c : S)
    (all left piece next : Scanned) (before mid after tail tail' : List ℕ)
    → left ≡ scan_on piece tail → tail ≡ tail' → FedBy Answered (feeding a all before) (feeding b left mid)
    → CarriesBy Answered Unanswered manner front (feeding b piece mid) (feeding c next after) On
    → FedBy Answered (feeding a all before) (feeding c (scan_on next tail') after)
on_fed manner front a b c all left piece next before mid after tail tail' e same f g = grind (arith, common_steps, fed_then)

pub stop_feeds : {S : Type 0} {Answered : S → Item → Reply → S → Type 0} {Unanswered : S → Item → S → Type 0} (manner : Manner) (front : Front) (a b c : S)
    (all left piece next : Scanned) (before mid after tail tail' : List ℕ) (going : Going) → going ≢ On
    → left ≡ scan_on piece tail → tail ≡ tail' → FedBy Answered (feeding a all before) (feeding b left mid)
    → CarriesBy Answered Unanswered manner front (feeding b piece mid) (feeding c next after) going
    → CarriesBy Answered Unanswered manner front (feeding a all before) (feeding c (scan_on next tail') after) going
stop_feeds manner front a b c all left piece next before mid after tail tail' going stops e same f g =
    rw (sym same) (feeds_then manner front _ (feeding b left mid) _ going f
    (rw e (feeds_more manner front (feeding b piece mid) (feeding c next after) tail going stops g)))

-- ---- bytes after a READBUF that waits

pub ended_feeds : {S : Type 0} {Answered : S → Item → Reply → S → Type 0} {Unanswered : S → Item → S → Type 0} (manner : Manner) (front : Front) (a : S)
    (before bytes more : List ℕ)
    → CarriesBy Answered Unanswered manner front (feeding a (scan_on (no_item AtEnd) bytes) before) (feeding a (scan_on (no_item AtEnd) more) before) Ended
ended_feeds manner front a before bytes more = search (rules, scan_end, fed_none)

pub resumed : {S : Type 0} {Answered : S → Item → Reply → S → Type 0} {Unanswered : S → Item → S → Type 0} (manner : Manner) (front : Front) (a b : S)
    (c : ℕ × Going → S) (all left : Scanned) (before mid after bytes : List ℕ) (next : ℕ × Going → Scanned) (r : Result (ℕ × Going) Mem)
    → CarriesBy Answered Unanswered manner front (feeding a all before) (feeding b left mid) On
    → IfOk r (λ x. CarriesBy Answered Unanswered manner front (feeding b (scan_on left bytes) mid) (feeding (c x) (next x) after) x.1)
    → IfOk r (λ x. CarriesBy Answered Unanswered manner front (feeding a (scan_on all bytes) before) (feeding (c x) (next x) after) x.1)
resumed manner front a b c all left before mid after bytes next (Ok x) f g =
    feeds_then manner front _ (feeding b (scan_on left bytes) mid) _ x.1
    (fed_more (feeding a all before) (feeding b left mid) bytes (feeds_on manner front _ _ f)) g
resumed manner front a b c all left before mid after bytes next (Err fault) f g = tt

-- if no bytes come after it
pub again_feeds : {S : Type 0} {Answered : S → Item → Reply → S → Type 0} {Unanswered : S → Item → S → Type 0} (manner : Manner) (front : Front) (a b : S)
    (all left : Scanned) (before after bytes : List ℕ) (going : Going) → bytes ≡ []
    → CarriesBy Answered Unanswered manner front (feeding a all before) (feeding b left after) going
    → CarriesBy Answered Unanswered manner front (feeding a (scan_on all bytes) before) (feeding b (scan_on left (drop 0 bytes)) after) going
again_feeds manner front a b all left before after bytes going none f = rw none (rw (scan_nil all, scan_nil left) f)

pub none_begun : (lines : LinesRecord) (kept : PendingRecord) → lines ≡ after_piece lines.piece → (stream_by On lines kept).items ≡ []
none_begun lines kept is = ap (λ (z : LinesRecord). (stream_by On z kept).items) is

-- no bytes were kept before
pub first_feeds : {S : Type 0} {Answered : S → Item → Reply → S → Type 0} {Unanswered : S → Item → S → Type 0} (manner : Manner) (front : Front) (a b : S)
    (all : Scanned) (before after bytes held left : List ℕ) (taken : ℕ) (going : Going) (lines : LinesRecord) (kept : PendingRecord)
    → held ≡ [] → left ≡ held ++ unread_of going taken bytes
    → (going ≡ On → (taken ≡ length bytes) × ((stream_by On lines kept).items ≡ []))
    → CarriesBy Answered Unanswered manner front (feeding a (scan_on all bytes) before)
    (feeding b (scan_on (stream_by going lines kept) (drop taken bytes)) after) going
    → CarriesBy Answered Unanswered manner front (feeding a (scan_on (scan_on all held) bytes) before)
    (feeding b (scan_on (stream_by going lines kept) left) after) going
first_feeds manner front a b all before after bytes held left taken going lines kept none now on f = grind (arith, common_steps)

-- bytes were kept before, and are looked at first
pub kept_feeds : {S : Type 0} {Answered : S → Item → Reply → S → Type 0} {Unanswered : S → Item → S → Type 0} (manner : Manner) (front : Front) (a b : S)
    (all : Scanned) (before after bytes held whole left : List ℕ) (taken : ℕ) (going : Going) (lines : LinesRecord) (kept : PendingRecord)
    → ItemsCutAnywhere → ScannerCutAnywhere → whole ≡ held ++ bytes → left ≡ unread_of going taken whole
    → (going ≡ On → (taken ≡ length whole) × ((stream_by On lines kept).items ≡ []))
    → CarriesBy Answered Unanswered manner front (feeding a (scan_on all whole) before)
    (feeding b (scan_on (stream_by going lines kept) (drop taken whole)) after) going
    → CarriesBy Answered Unanswered manner front (feeding a (scan_on (scan_on all held) bytes) before)
    (feeding b (scan_on (stream_by going lines kept) left) after) going
kept_feeds manner front a b all before after bytes held whole left taken going lines kept items scanner joined unread on f = grind (arith, common_steps)

-- ---- a command of the code

pub at_once_command : (command : CodeCommand) → (command ≡ code.Exit → ⊥)
    → ((dev : Bor (List ℕ)) (target : Option (CodePlace × Option (Bor (List ℕ)))) (count : ℕ) → command ≡ code.Write dev target count → ⊥)
    → ((dev : Bor (List ℕ)) (bytes : ℕ) → command ≡ code.WriteBuf dev bytes → ⊥) → ((dev : Bor (List ℕ)) (bytes : ℕ) → command ≡ code.ReadBuf dev bytes → ⊥)
    → IsAtOnce (Ok (command_view command))
at_once_command command e w s r = search rules

-- ---- whether a connection has ended

pub is_ended : (lines : LinesRecord) (kept : PendingRecord) (left : List ℕ) (going : Going) → going ≡ Ended
    → scan_on (stream_by going lines kept) left ≡ no_item AtEnd
is_ended lines kept left going e = ap (λ g. scan_on (stream_by g lines kept) left) e ∙ scan_end left

pub not_ended : (lines : LinesRecord) (kept : PendingRecord) (left : List ℕ) (going : Going) → IsKept going lines kept left → (going ≡ Ended → ⊥)
    → scan_on (stream_by going lines kept) left ≡ no_item AtEnd → ⊥
not_ended lines kept left going k n e = search rules

-- ---- whether the first item that is left waits

pub waits_by : (lines : LinesRecord) (kept : PendingRecord) (left : List ℕ) (going : Going) → IsKept going lines kept left
    → waits_in (scan_on (stream_by going lines kept) left).items ≡ is_waiting going
waits_by lines kept left going k = search (rules, scan_end)
