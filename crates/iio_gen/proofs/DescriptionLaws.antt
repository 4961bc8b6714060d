-- The description at the front of an input, line by line.
use Rattle.std.proofs.Common.{◌≡◌, ℕ, zero, suc, ◌+◌, ◌*◌, ◌-◌, ◌^◌, ◌<◌, ◌≤◌, ℤ, pos, ◌/◌, ◌%◌, true, false, ◌==◌, nat_lt, int_lt, List, [], ◌∷◌, ◌++◌, length, map, codes, Option, Some, None, Ok, refl, sym, ap, ◌∙◌, arith, subst, add-zero, append_assoc, append-nil, slice_get, eq-eqb}
use Rattle.std.specs.List.{list_all, list_any, sum_by}
use Rattle.std.specs.Fmt.{decimal}
use Rattle.std.specs.Prelude.{slice_index_or}
use Rattle.std.proofs.lemmas.Bool.{lt-ltb, ltb-true}
use Rattle.std.proofs.lemmas.Bool.Decides.{nat_tests}
use Rattle.std.proofs.lemmas.Fmt.{decimal_digit, length-decimal-le}
use Rattle.std.proofs.lemmas.Int.{ints}
use Rattle.std.proofs.lemmas.List.{length-append, length-map, map-append}
use Rattle.std.proofs.lemmas.List.Folds.{list_all-append}
use Rattle.std.proofs.lemmas.List.Sums.{sum_by_from, sum_by_push}
use Rattle.iio_text.specs.Lines.{is_printable, lines_of, words_of_line}
use Rattle.iio_text.specs.Words.{begins_word, is_space, words_of}
use Rattle.iio_text.specs.Numbers.{int_of}
use Rattle.iio_text.proofs.NumberLemmas.{int_of-signed_decimal}
use Rattle.iio_scan_type.specs.declared.Endian.{Endian}
use Rattle.iio_scan_type.specs.declared.Endian.TheVariants.{Little}
use Rattle.iio_scan_type.specs.Format.{Format}
use Rattle.iio_scan_type.specs.Text.{type_of}
use Rattle.iio_layout.specs.declared.channel.Channel.{Channel}
use Rattle.iio_layout.specs.declared.channel.Kind.TheVariants.{Voltage}
use Rattle.iio_layout.specs.declared.channel.Suffix.TheVariants.{Number}
use Rattle.iio_layout.specs.declared.channel.Direction.TheVariants.{Input}
use Rattle.iio_layout.specs.Id.{id_of, same_id}
use Rattle.iio_layout.specs.Shape.{id_at}
use Rattle.iio_desc.specs.declared.description.TriggerDesc.{TriggerDesc}
use Rattle.iio_desc.specs.Description.{Description}
use Rattle.iio_desc.specs.DescReader.{new_reader}
use Rattle.iio_desc.specs.DeviceLines.{has_id, ints_of, rises}
use Rattle.iio_desc.specs.Lines.{after_line, begins_end, is_end}
use Rattle.iio_desc.specs.PartialDesc.{PartialDesc, new_desc}
use Rattle.iio_desc.specs.PartialDevice.{PartialDevice, device_of, has_channels, row_width}
use Rattle.iio_history.specs.Outcome.{Described, head_from}
use Rattle.iio_gen.specs.Generator.{next_state}
use Rattle.iio_gen.specs.Input.{channel_line, description, row_line, several, types, value_word}
use Rattle.iio_gen.proofs.Several.{by_each}
use Rattle.iio_gen.proofs.Texts.{IsLine, IsWord, and_true, both_parts, decimal_word, line_words, lines_then, word_last, word_printable, word_then, words_by}

-- ---- one more line

-- the lines of a text are read as a description so far
pub record Reads (drivers : ℕ) (text : List ℕ) (desc : PartialDesc) : Type 0 where
  pub lines : ℕ
  pub number : ℕ
  pub reads : (more : List ℕ)
      → head_from false (new_reader drivers) 1 (lines_of (text ++ more)) ≡ head_from false (Ok (record { lines = lines; desc = desc })) number (lines_of more)

reads_none : (drivers : ℕ) → Reads drivers [] (new_desc drivers)
reads_none drivers = record { lines = 0; number = 1; reads = λ more. refl }

-- one line that is read, and doesn't end the description
turn : (lines number : ℕ) (desc desc' : PartialDesc) (line : List ℕ) (rest : List (List ℕ)) → is_end line ≡ false → after_line desc line ≡ Ok desc'
    → head_from false (Ok (record { lines = lines; desc = desc })) number (line ∷ rest)
    ≡ head_from false (Ok (record { lines = lines + 1; desc = desc' })) (number + 1) rest
turn lines number desc desc' line rest ends says = rw (ends, says) refl

reads_more : (drivers : ℕ) (text line : List ℕ) (desc desc' : PartialDesc) → Reads drivers text desc → list_all is_printable line ≡ true
    → is_end line ≡ false → after_line desc line ≡ Ok desc' → Reads drivers (text ++ (line ++ 10 ∷ [])) desc'
reads_more drivers text line desc desc' r printable ends says = record {
  lines = r.lines + 1;
  number = r.number + 1;
  reads = λ more.
      ap (λ t. head_from false (new_reader drivers) 1 (lines_of t)) (append_assoc text (line ++ 10 ∷ []) more)
      ∙ r.reads ((line ++ 10 ∷ []) ++ more)
      ∙ ap (head_from false (Ok (record { lines = r.lines; desc = desc })) r.number) (lines_then line more printable)
      ∙ turn r.lines r.number desc desc' line (lines_of more) ends says;
}

-- ---- the device so far

abbrev pub t0 : TriggerDesc
t0 = record { name = codes "t0"; places = 2 }

-- channels of these types, numbered from `from` on
abbrev pub channels_from : ℕ → List Format → List Channel
channels_from i [] = []
channels_from i (f ∷ fs) = record { kind = Voltage; suffix = Number i; direction = Input; ty = f } ∷ channels_from (suc i) fs

abbrev pub device : List Format → Option Endian → List ℤ → List ℤ → PartialDevice
device formats stamp moments values = record {
  direction = Input;
  name = codes "dev0";
  trigger = Some 0;
  channels = channels_from 0 formats;
  stamp = stamp;
  listed = [];
  moments = moments;
  values = values;
  driver = None;
  attrs = [];
}

abbrev pub so_far : ℕ → PartialDevice → PartialDesc
so_far drivers d = record { drivers = drivers; context = None; triggers = t0 ∷ []; devices = []; outputs = []; averages = []; current = Some d }

reads_device : (drivers : ℕ) → Reads drivers (codes "trigger t0 2\ndevice dev0 t0\n") (so_far drivers (device [] None [] []))
reads_device drivers =
    reads_more drivers (codes "trigger t0 2\n") (codes "device dev0 t0") _ _
    (reads_more drivers [] (codes "trigger t0 2") (new_desc drivers)
    (record { drivers = drivers; context = None; triggers = t0 ∷ []; devices = []; outputs = []; averages = []; current = None })
    (reads_none drivers) refl refl refl)
    refl refl refl

-- ---- channels

-- a text of a type of one element
pub record SaysType (text : List ℕ) : Type 0 where
  pub format : Format
  pub read : type_of text ≡ Some format
  pub single : format.repeat ≡ 1
  pub word : IsWord text
  pub short : length text ≤ 12

type_says : (kind : ℕ) → kind < 6 → SaysType (slice_index_or types kind [])
type_says zero h = record { format = _; read = refl; single = refl; word = record { some = omega arith; bytes = refl }; short = omega arith }
type_says (suc zero) h = record { format = _; read = refl; single = refl; word = record { some = omega arith; bytes = refl }; short = omega arith }
type_says (suc (suc zero)) h = record { format = _; read = refl; single = refl; word = record { some = omega arith; bytes = refl }; short = omega arith }
type_says (suc (suc (suc zero))) h = record { format = _; read = refl; single = refl; word = record { some = omega arith; bytes = refl }; short = omega arith }
type_says (suc (suc (suc (suc zero)))) h =
    record { format = _; read = refl; single = refl; word = record { some = omega arith; bytes = refl }; short = omega arith }
type_says (suc (suc (suc (suc (suc zero))))) h =
    record { format = _; read = refl; single = refl; word = record { some = omega arith; bytes = refl }; short = omega arith }
type_says (suc (suc (suc (suc (suc (suc k)))))) h = absurd (omega arith)

id_says : (i : ℕ) → i < 8 → id_of (codes "voltage" ++ (48 + i) ∷ []) ≡ Some (Voltage, Number i)
id_says zero h = refl
id_says (suc zero) h = refl
id_says (suc (suc zero)) h = refl
id_says (suc (suc (suc zero))) h = refl
id_says (suc (suc (suc (suc zero)))) h = refl
id_says (suc (suc (suc (suc (suc zero))))) h = refl
id_says (suc (suc (suc (suc (suc (suc zero)))))) h = refl
id_says (suc (suc (suc (suc (suc (suc (suc zero))))))) h = refl
id_says (suc (suc (suc (suc (suc (suc (suc (suc k)))))))) h = absurd (omega arith)

-- none of the channels has a later number
no_id : (from i : ℕ) (formats : List Format) → from + length formats ≤ i
    → list_any (λ (c : Channel). same_id (id_at c) (Voltage, Number i)) (channels_from from formats) ≡ false
no_id from i [] h = refl
no_id from i (f ∷ fs) h =
    let other : (from + 4 == i + 4) ≡ false = grind (arith, nat_tests) in
    rw other (no_id (suc from) i fs (omega arith))

channels_more : (from : ℕ) (formats : List Format) (f : Format)
    → channels_from from formats ++ (record { kind = Voltage; suffix = Number (from + length formats); direction = Input; ty = f }) ∷ []
    ≡ channels_from from (formats ++ f ∷ [])
channels_more from [] f = rw add-zero refl
channels_more from (g ∷ gs) f =
    let e : from + length (g ∷ gs) ≡ suc from + length gs = omega arith in
    ap (λ (n : ℕ). record { kind = Voltage; suffix = Number from; direction = Input; ty = g }
    ∷ (channels_from (suc from) gs ++ (record { kind = Voltage; suffix = Number n; direction = Input; ty = f }) ∷ [])) e
    ∙ ap (λ (cs : List Channel). record { kind = Voltage; suffix = Number from; direction = Input; ty = g } ∷ cs) (channels_more (suc from) gs f)

length-channels : (from : ℕ) (formats : List Format) → length (channels_from from formats) ≡ length formats
length-channels from [] = refl
length-channels from (f ∷ fs) = ap suc (length-channels (suc from) fs)

width-channels : (from : ℕ) (formats : List Format)
    → sum_by (λ (c : Channel). c.ty.repeat) (channels_from from formats) ≡ sum_by (λ (f : Format). f.repeat) formats
width-channels from [] = refl
width-channels from (f ∷ fs) =
    sum_by_from (λ (c : Channel). c.ty.repeat) (0 + f.repeat) (channels_from (suc from) fs) ∙ ap (λ n. 0 + f.repeat + n) (width-channels (suc from) fs)
    ∙ sym (sum_by_from (λ (g : Format). g.repeat) (0 + f.repeat) fs)

-- what a channel's line means
channel_said : (drivers i : ℕ) (formats : List Format) (line id type : List ℕ) (f : Format)
    → words_of_line line ≡ Ok (codes "channel" ∷ id ∷ type ∷ []) → id_of id ≡ Some (Voltage, Number i)
    → has_id (device formats None [] []) (Voltage, Number i) ≡ false
    → type_of type ≡ Some f → nat_lt (length (channels_from 0 formats)) 64 ≡ true
    → channels_from 0 formats ++ (record { kind = Voltage; suffix = Number i; direction = Input; ty = f }) ∷ [] ≡ channels_from 0 (formats ++ f ∷ [])
    → after_line (so_far drivers (device formats None [] [])) line ≡ Ok (so_far drivers (device (formats ++ f ∷ []) None [] []))
channel_said drivers i formats line id type f words is other has few more = rw (words, is, other, has, few, more) refl

-- the line of a channel
channel_is_line : (i : ℕ) (type : List ℕ) → i < 8 → IsWord type → length type ≤ 12
    → IsLine (codes "channel voltage" ++ (decimal i ++ 32 ∷ type)) (codes "channel" ∷ (codes "voltage" ++ decimal i) ∷ type ∷ [])
channel_is_line i type h word short =
    let digits = decimal_word i (omega arith) in
    let id : IsWord (codes "voltage" ++ decimal i) = record { some = omega arith; bytes = digits.bytes } in record {
      printable = both_parts is_printable (decimal i) (32 ∷ type) (word_printable (decimal i) digits) (word_printable type word);
      short = omega (arith, length-append (decimal i) (32 ∷ type), length-decimal-le 1 i (omega arith) (omega arith) (omega arith));
      said =
          word_then (codes "channel") ((codes "voltage" ++ decimal i) ++ 32 ∷ type) (record { some = omega arith; bytes = refl })
          ∙ ap (λ ws. codes "channel" ∷ ws)
          (word_then (codes "voltage" ++ decimal i) type id ∙ ap (λ ws. (codes "voltage" ++ decimal i) ∷ ws) (word_last type word));
    }

-- that many channels were read
pub record HasChannels (drivers i : ℕ) (text : List ℕ) : Type 0 where
  pub formats : List Format
  pub count : length formats ≡ i
  pub width : sum_by (λ (f : Format). f.repeat) formats ≡ i
  pub short : length text ≤ 28 + 64 * i
  pub reads : Reads drivers text (so_far drivers (device formats None [] []))

channels_none : (drivers : ℕ) → HasChannels drivers 0 (codes "trigger t0 2\ndevice dev0 t0\n")
channels_none drivers = record { formats = []; count = refl; width = refl; short = omega arith; reads = reads_device drivers }

channel_read : (drivers i : ℕ) (text type : List ℕ) → i < 8 → SaysType type → HasChannels drivers i text
    → HasChannels drivers (suc i) (text ++ ((codes "channel voltage" ++ (decimal i ++ 32 ∷ type)) ++ 10 ∷ []))
channel_read drivers i text type h says has =
    let f = says.format in
    let formats = has.formats in
    let text_of = codes "channel voltage" ++ (decimal i ++ 32 ∷ type) in
    let line = channel_is_line i type h says.word says.short in
    let id : id_of (codes "voltage" ++ decimal i) ≡ Some (Voltage, Number i) =
    ap (λ d. id_of (codes "voltage" ++ d)) (decimal_digit i (omega arith)) ∙ id_says i h in
    let few : nat_lt (length (channels_from 0 formats)) 64 ≡ true = lt-ltb _ _ (let e = length-channels 0 formats in let n = has.count in omega arith) in
    let place : 0 + length formats ≡ i = let n = has.count in omega arith in
    let more : channels_from 0 formats ++ (record { kind = Voltage; suffix = Number i; direction = Input; ty = f }) ∷ [] ≡ channels_from 0 (formats ++ f ∷ []) =
    subst (λ (n : ℕ). channels_from 0 formats ++ (record { kind = Voltage; suffix = Number n; direction = Input; ty = f }) ∷ []
    ≡ channels_from 0 (formats ++ f ∷ [])) place (channels_more 0 formats f) in record {
      formats = formats ++ f ∷ [];
      count = let n = has.count in omega (arith, length-append formats (f ∷ []));
      width = let n = has.width in let one = says.single in sum_by_push (λ (g : Format). g.repeat) formats f ∙ omega arith;
      short =
          let old = has.short in
          let size = line.short in
          omega (arith, length-append text (text_of ++ 10 ∷ []), length-append text_of (10 ∷ []));
      reads =
          reads_more drivers text text_of (so_far drivers (device formats None [] [])) _ has.reads line.printable (ap begins_end line.said)
          (channel_said drivers i formats text_of (codes "voltage" ++ decimal i) type f (line_words text_of _ line refl) id
          (no_id 0 i formats (omega arith)) says.read few more);
    }

channel_more : (drivers i : ℕ) (text : List ℕ) (x : ℕ) → i < 8 → HasChannels drivers i text → HasChannels drivers (suc i) (text ++ (channel_line i x).0)
channel_more drivers i text x h has =
    let kind = next_state x / 2 ^ 33 % 6 in
    channel_read drivers i text (slice_index_or types kind []) h (type_says kind (omega arith)) has

-- ---- the timestamp

stamp_said : (drivers : ℕ) (formats : List Format) → nat_lt 0 (length (channels_from 0 formats)) ≡ true → nat_lt (length (channels_from 0 formats)) 64 ≡ true
    → after_line (so_far drivers (device formats None [] [])) (codes "timestamp") ≡ Ok (so_far drivers (device formats (Some Little) [] []))
stamp_said drivers formats some few = rw (some, few) refl

-- ---- the values of a row

pub int_decimal : (n : ℕ) → n < 2 ^ 63 → int_of (decimal n) ≡ Some (pos n)
int_decimal n h = int_of-signed_decimal (pos n) (omega (arith, ints))

-- that many values stand in a text, each after a space
pub record HasValues (n : ℕ) (text : List ℕ) : Type 0 where
  pub values : List ℕ
  pub count : length values ≡ n
  pub small : list_all (λ v. nat_lt v 4096) values ≡ true
  pub words : (word rest : List ℕ) → IsWord word → begins_word is_space rest ≡ false
      → words_of is_space (word ++ (text ++ rest)) ≡ word ∷ (map decimal values ++ words_of is_space rest)
  pub printable : list_all is_printable text ≡ true
  pub short : length text ≤ 5 * n

values_none : HasValues 0 []
values_none =
    record {
      values = [];
      count = refl;
      small = refl;
      words = λ word rest is ends. words_by word rest is.some is.bytes ends;
      printable = refl;
      short =
          omega arith;
    }

value_read : (n v : ℕ) (text : List ℕ) → v < 4096 → HasValues n text → HasValues (suc n) (text ++ 32 ∷ decimal v)
value_read n v text h has =
    let digits = decimal_word v (omega arith) in
    let values = has.values in record {
      values = values ++ v ∷ [];
      count = let n = has.count in omega (arith, length-append values (v ∷ []));
      small =
          let one : nat_lt v 4096 ≡ true = lt-ltb v 4096 h in
          list_all-append (λ w. nat_lt w 4096) values (v ∷ []) ∙ rw (has.small, one) refl;
      words = λ word rest is ends.
          ap (λ t. words_of is_space (word ++ t)) (append_assoc text (32 ∷ decimal v) rest)
          ∙ has.words word (32 ∷ (decimal v ++ rest)) is refl
          ∙ ap (λ ws. word ∷ (map decimal values ++ ws)) (words_by (decimal v) rest digits.some digits.bytes ends)
          ∙ ap (λ ws. word ∷ ws)
          (sym (ap (λ m. m ++ words_of is_space rest) (map-append decimal values (v ∷ []))
          ∙ append_assoc (map decimal values) (decimal v ∷ []) (words_of is_space rest)));
      printable = both_parts is_printable text (32 ∷ decimal v) has.printable (word_printable (decimal v) digits);
      short =
          let old = has.short in
          omega (arith, length-append text (32 ∷ decimal v), length-decimal-le 4 v (omega arith) (omega arith) (omega arith));
    }

value_more : (n : ℕ) (text : List ℕ) (x : ℕ) → n < 8 → HasValues n text → HasValues (suc n) (text ++ (value_word n x).0)
value_more n text x h has = value_read n (next_state x / 2 ^ 33 % 4096) text (omega arith) has

ints_read : (values : List ℕ) → list_all (λ v. nat_lt v 4096) values ≡ true → ints_of (map decimal values) ≡ Some (map pos values)
ints_read [] small = refl
ints_read (v ∷ vs) small =
    let parts = and_true (nat_lt v 4096) (list_all (λ w. nat_lt w 4096) vs) small in
    let below : v < 4096 = ltb-true v 4096 parts.0 in
    rw (int_decimal v (omega arith), ints_read vs parts.1) refl

-- ---- rows

row_said : (drivers : ℕ) (formats : List Format) (moments values : List ℤ) (line t : List ℕ) (vs : List (List ℕ)) (m : ℤ) (xs : List ℤ)
    → words_of_line line ≡ Ok (codes "row" ∷ t ∷ vs) → nat_lt 0 (length (channels_from 0 formats)) ≡ true
    → (length (t ∷ vs) == row_width (device formats (Some Little) moments values) + 1) ≡ true
    → int_of t ≡ Some m → rises moments m ≡ true → ints_of vs ≡ Some xs → nat_lt (0 + length moments) 1000000 ≡ true
    → after_line (so_far drivers (device formats (Some Little) moments values)) line
    ≡ Ok (so_far drivers (device formats (Some Little) (moments ++ m ∷ []) (values ++ xs)))
row_said drivers formats moments values line t vs m xs words some width is risen ints few = rw (words, some, width, is, risen, ints, few) refl

-- that many rows were read, each 1,000 moments after the row before it
pub record HasRows (drivers i : ℕ) (formats : List Format) (text : List ℕ) : Type 0 where
  pub moments : List ℤ
  pub values : List ℤ
  pub count : length moments ≡ i
  pub past : (t : ℕ) → 1000 * i ≤ t → rises moments (pos t) ≡ true
  pub short : length text ≤ 550 + 64 * i
  pub reads : Reads drivers text (so_far drivers (device formats (Some Little) moments values))

last_pushed : (moments : List ℤ) (m : ℤ) → slice_get (moments ++ m ∷ []) (length (moments ++ m ∷ []) - 1) ≡ Some m
last_pushed moments m =
    let e : length (moments ++ m ∷ []) - 1 ≡ length moments = omega (arith, length-append moments (m ∷ [])) in
    rw e (at_seam moments)
  where
    at_seam : (xs : List ℤ) → slice_get (xs ++ m ∷ []) (length xs) ≡ Some m
    at_seam [] = refl
    at_seam (x ∷ xs) = at_seam xs

rises_past : (moments : List ℤ) (m t : ℕ) → m < t → rises (moments ++ pos m ∷ []) (pos t) ≡ true
rises_past moments m t h =
    let below : int_lt (pos m) (pos t) ≡ true = lt-ltb m t h in
    rw (last_pushed moments (pos m), below) refl

-- the line of a row
row_is_line : (t : ℕ) (text : List ℕ) (has : HasValues 8 text) → t < 100000
    → IsLine (codes "row " ++ (decimal t ++ text)) (codes "row" ∷ decimal t ∷ map decimal has.values)
row_is_line t text has h =
    let digits = decimal_word t (omega arith) in
    let values : words_of is_space (decimal t ++ text) ≡ decimal t ∷ map decimal has.values =
    ap (λ s. words_of is_space (decimal t ++ s)) (sym (append-nil text)) ∙ has.words (decimal t) [] digits refl
    ∙ ap (λ ws. decimal t ∷ ws) (append-nil (map decimal has.values)) in record {
      printable = both_parts is_printable (decimal t) text (word_printable (decimal t) digits) has.printable;
      short =
          let size = has.short in
          omega (arith, length-append (decimal t) text, length-decimal-le 5 t (omega arith) (omega arith) (omega arith));
      said = word_then (codes "row") (decimal t ++ text) (record { some = omega arith; bytes = refl }) ∙ ap (λ ws. codes "row" ∷ ws) values;
    }

-- a device of eight channels of one element
pub record HasEight (formats : List Format) : Type 0 where
  pub some : nat_lt 0 (length (channels_from 0 formats)) ≡ true
  pub few : nat_lt (length (channels_from 0 formats)) 64 ≡ true
  pub width : sum_by (λ (c : Channel). c.ty.repeat) (channels_from 0 formats) ≡ 8

has_eight : (formats : List Format) → length formats ≡ 8 → sum_by (λ (f : Format). f.repeat) formats ≡ 8 → HasEight formats
has_eight formats count width =
    let n = length-channels 0 formats in record {
      some = lt-ltb 0 (length (channels_from 0 formats)) (omega arith);
      few = lt-ltb (length (channels_from 0 formats)) 64 (omega arith);
      width = width-channels 0 formats ∙ width;
    }

row_read : (drivers i : ℕ) (formats : List Format) (text part : List ℕ) → HasEight formats → i < 64 → HasValues 8 part → HasRows drivers i formats text
    → HasRows drivers (suc i) formats (text ++ ((codes "row " ++ (decimal (1000 * i) ++ part)) ++ 10 ∷ []))
row_read drivers i formats text part eight h values has =
    let t = 1000 * i in
    let line = row_is_line t part values (omega arith) in
    let row = codes "row " ++ (decimal t ++ part) in
    let few : nat_lt (0 + length has.moments) 1000000 ≡ true = lt-ltb (0 + length has.moments) 1000000 (let n = has.count in omega arith) in
    let width : (length (decimal t ∷ map decimal values.values) == row_width (device formats (Some Little) has.moments has.values) + 1) ≡ true =
    eq-eqb (length (decimal t ∷ map decimal values.values)) (row_width (device formats (Some Little) has.moments has.values) + 1)
    (let n = values.count in let w = eight.width in omega (arith, length-map values.values decimal)) in record {
      moments = has.moments ++ pos t ∷ [];
      values = has.values ++ map pos values.values;
      count = let n = has.count in omega (arith, length-append has.moments (pos t ∷ []));
      past = λ u after. rises_past has.moments t u (omega arith);
      short =
          let old = has.short in
          let size = line.short in
          omega (arith, length-append text (row ++ 10 ∷ []), length-append row (10 ∷ []));
      reads =
          reads_more drivers text row (so_far drivers (device formats (Some Little) has.moments has.values)) _ has.reads line.printable
          (ap begins_end line.said)
          (row_said drivers formats has.moments has.values row (decimal t) (map decimal values.values) (pos t) (map pos values.values)
          (line_words row _ line refl) eight.some width
          (int_decimal t (omega arith)) (has.past t (omega arith)) (ints_read values.values values.small) few);
    }

row_more : (drivers i : ℕ) (formats : List Format) (text : List ℕ) (x : ℕ) → HasEight formats → i < 64 → HasRows drivers i formats text
    → HasRows drivers (suc i) formats (text ++ (row_line i x).0)
row_more drivers i formats text x eight h has =
    row_read drivers i formats text (several value_word 8 x).0 eight h (by_each value_word HasValues 8 [] values_none value_more 8 x (omega arith)) has

rows_none : (drivers : ℕ) (formats : List Format) (text : List ℕ) → HasEight formats → length text ≤ 540
    → Reads drivers text (so_far drivers (device formats None [] []))
    → HasRows drivers 0 formats (text ++ codes "timestamp\n")
rows_none drivers formats text eight short reads = record {
  moments = [];
  values = [];
  count = refl;
  past = λ t after. refl;
  short = omega (arith, length-append text (codes "timestamp\n"));
  reads = reads_more drivers text (codes "timestamp") _ _ reads refl refl (stamp_said drivers formats eight.some eight.few);
}

-- ---- the whole description

-- a text is a description with the trigger, whatever comes after it
pub record Opens (drivers : ℕ) (text : List ℕ) : Type 0 where
  pub desc : Description
  pub first : ℕ
  pub triggers : desc.triggers ≡ t0 ∷ []
  pub head : (more : List ℕ) → head_from false (new_reader drivers) 1 (lines_of (text ++ more)) ≡ Described desc first (lines_of more)
  pub short : length text ≤ 5000

-- the line that ends the description
ended : (drivers lines number : ℕ) (d : PartialDevice) (rest : List (List ℕ)) → d.direction ≡ Input → has_channels d ≡ true
    → head_from false (Ok (record { lines = lines; desc = so_far drivers d })) number (codes "%%" ∷ rest)
    ≡ Described (record { context = []; triggers = t0 ∷ []; devices = device_of d ∷ []; outputs = []; averages = [] }) (number + 1) rest
ended drivers lines number d rest inward some = rw (some, inward) refl

described : (drivers : ℕ) (formats : List Format) (text : List ℕ) → HasEight formats → HasRows drivers 64 formats text → Opens drivers (text ++ codes "%%\n")
described drivers formats text eight has =
    let d = device formats (Some Little) has.moments has.values in
    let reads = has.reads in record {
      desc = record { context = []; triggers = t0 ∷ []; devices = device_of d ∷ []; outputs = []; averages = [] };
      first = reads.number + 1;
      triggers = refl;
      head = λ more.
          ap (λ t. head_from false (new_reader drivers) 1 (lines_of t)) (append_assoc text (codes "%%\n") more)
          ∙ reads.reads (codes "%%\n" ++ more)
          ∙ ended drivers reads.lines reads.number d (lines_of more) refl eight.some;
      short = let old = has.short in omega (arith, length-append text (codes "%%\n"));
    }

pub opens : (drivers x : ℕ) → Opens drivers (description x).0
opens drivers x =
    let start = codes "trigger t0 2\ndevice dev0 t0\n" in
    let cs = several channel_line 8 x in
    let rs = several row_line 64 cs.1 in
    let channels = by_each channel_line (HasChannels drivers) 8 start (channels_none drivers) (channel_more drivers) 8 x (omega arith) in
    let eight = has_eight channels.formats channels.count channels.width in
    let rows =
    by_each row_line (λ i text. HasRows drivers i channels.formats text) 64 ((start ++ cs.0) ++ codes "timestamp\n")
    (rows_none drivers channels.formats (start ++ cs.0) eight (let size = channels.short in omega arith) channels.reads)
    (λ i text y h has. row_more drivers i channels.formats text y eight h has) 64 cs.1 (omega arith) in
    let whole : (((start ++ cs.0) ++ codes "timestamp\n") ++ rs.0) ++ codes "%%\n" ≡ start ++ (cs.0 ++ (codes "timestamp\n" ++ (rs.0 ++ codes "%%\n"))) =
    simp append_assoc in
    subst (Opens drivers) whole (described drivers channels.formats (((start ++ cs.0) ++ codes "timestamp\n") ++ rs.0) eight rows)
