use Rattle.std.proofs.Common.{◌≡◌, ◌≤◌, [], ◌∷◌, length, length-append, rules, ap, arith}
use Rattle.std.specs.Fmt.{decimal}
use Rattle.std.proofs.lemmas.Fmt.{length-decimal-le}
use Rattle.iiod_reply.specs.Reply.{length_text}
use Rattle.iiod_commands.proofs.AnswerLaws.{may_err, never_errs}
use Rattle.iiod_commands.proofs.ShortLaws.{short_value}
use Rattle.iiod_commands.proofs.answers.push_text.Goals as goal

pub returns-in-Number-clause-room : goal.returns-in-Number-clause-room
returns-in-Number-clause-room g c =
    let bytes = c.as_bytes.result.now in
    let digits : length c.format.result.now ≤ 20 = c.format.ensures.fits in
    let few : length bytes ≤ 20 = omega (arith, digits, ap length c.as_bytes.ensures.value) in
    never_errs _ _ (c.push_line.ensures.room (omega (arith, c.requires.room, few, length-append bytes (10 ∷ []))))

pub returns-in-Help-clause-text : goal.returns-in-Help-clause-text
returns-in-Help-clause-text g c = rw c.in-Help.is c.push_line-in-Help.ensures.text

pub returns-in-Help-clause-room : goal.returns-in-Help-clause-room
returns-in-Help-clause-room g c = rw c.in-Help.is (may_err _ tt)

pub returns-in-Version-clause-text : goal.returns-in-Version-clause-text
returns-in-Version-clause-text g c = rw c.in-Version.is c.push_line-in-Version.ensures.text

pub returns-in-Version-clause-room : goal.returns-in-Version-clause-room
returns-in-Version-clause-room g c = rw c.in-Version.is (may_err _ tt)

pub returns-in-Context-clause-room : goal.returns-in-Context-clause-room
returns-in-Context-clause-room g c = rw c.in-Context.is (may_err _ tt)

pub returns-in-Fixed-clause-room : goal.returns-in-Fixed-clause-room
returns-in-Fixed-clause-room g c =
    let few : length c.as_bytes-in-Fixed.result.now ≤ 32 = search rules in
    never_errs _ _ (c.value-in-Fixed.ensures.room (omega (arith, c.requires.room, short_value c.as_bytes-in-Fixed.result.now few)))

pub returns-in-Int-clause-room : goal.returns-in-Int-clause-room
returns-in-Int-clause-room g c =
    let bytes = c.as_bytes-in-Int.result.now in
    let digits : length c.format-in-Int.result.now ≤ 20 = c.format-in-Int.ensures.fits in
    let few : length bytes ≤ 32 = omega (arith, digits, ap length c.as_bytes-in-Int.ensures.value) in
    never_errs _ _ (c.value-in-Int.ensures.room (omega (arith, c.requires.room, short_value bytes few)))

pub returns-in-Count-clause-room : goal.returns-in-Count-clause-room
returns-in-Count-clause-room g c =
    let bytes = c.as_bytes-in-Count.result.now in
    let digits : length c.format-in-Count.result.now ≤ 20 = c.format-in-Count.ensures.fits in
    let few : length bytes ≤ 32 = omega (arith, digits, ap length c.as_bytes-in-Count.ensures.value) in
    never_errs _ _ (c.value-in-Count.ensures.room (omega (arith, c.requires.room, short_value bytes few)))

pub returns-in-Name-clause-room : goal.returns-in-Name-clause-room
returns-in-Name-clause-room g c =
    let few : length c.bytes.result.now ≤ 32 = omega (arith, c.bytes.ensures.within, ap length c.bytes.ensures.value) in
    never_errs _ _ (c.value-in-Name.ensures.room (omega (arith, c.requires.room, short_value c.bytes.result.now few)))

pub returns-in-Trigger-clause-room : goal.returns-in-Trigger-clause-room
returns-in-Trigger-clause-room g c = rw c.in-Trigger.is (may_err _ tt)

pub returns-in-Event-clause-room : goal.returns-in-Event-clause-room
returns-in-Event-clause-room g c =
    let bytes = c.bytes-in-Event.result in
    let long : length bytes ≡ 16 = search rules in
    let digits = length-decimal-le 2 (length bytes) (omega arith) (omega (arith, long)) (omega (arith, long)) in
    let count : length (length_text bytes) ≤ 3 = omega (arith, digits, length-append (decimal (length bytes)) (10 ∷ [])) in
    never_errs _ _ (c.push_raw.ensures.room (omega (arith, c.requires.room, long, count, length-append (length_text bytes) bytes)))
