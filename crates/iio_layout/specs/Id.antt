-- The ID of a channel: its kind, and after it nothing, a number, or an axis. (Kernel ABI, sysfs-bus-iio: the names
-- of channels, such as `voltage0` and `accel_x`.)
use Rattle.std.specs.Prelude.{ℕ, ◌+◌, ◌<◌, ◌==◌, nat_eq, nat_lt, Bool, false, not, if◌then◌else◌, ◌&&◌, ◌||◌, List, [], ◌∷◌, ◌++◌, length, drop, codes, Option, Some, None, option_map}
use Rattle.std.specs.List.{starts_with}
use Rattle.std.specs.Fmt.{decimal}
use Rattle.std.specs.Str.{all_ascii_digits}
use Rattle.std.specs.Str.Parse.{digits_value}
use Rattle.iio_layout.specs.declared.channel.Kind.{Kind}
use Rattle.iio_layout.specs.declared.channel.Kind.TheVariants.{Voltage, Current, Accel, Anglvel, Magn, Temp}
use Rattle.iio_layout.specs.declared.channel.Suffix.{Suffix}
use Rattle.iio_layout.specs.declared.channel.Suffix.TheVariants.{Bare, Number, X, Y, Z}

-- the word of a kind
abbrev pub kind_text : Kind → List ℕ
kind_text Voltage = codes "voltage"
kind_text Current = codes "current"
kind_text Accel = codes "accel"
kind_text Anglvel = codes "anglvel"
kind_text Magn = codes "magn"
kind_text Temp = codes "temp"

-- what stands after it; a number has no leading zero
abbrev pub suffix_text : Suffix → List ℕ
suffix_text Bare = []
suffix_text (Number n) = decimal n
suffix_text X = codes "_x"
suffix_text Y = codes "_y"
suffix_text Z = codes "_z"

-- the text of an ID
abbrev pub id_text : Kind → Suffix → List ℕ
id_text kind suffix = kind_text kind ++ suffix_text suffix

-- a number after a kind has 16 bits
abbrev pub FitsSuffix : Suffix → Type 0
FitsSuffix Bare = Unit {0}
FitsSuffix (Number n) = n < 65536
FitsSuffix X = Unit {0}
FitsSuffix Y = Unit {0}
FitsSuffix Z = Unit {0}

-- ---- reading an ID

-- all kinds; the word of none begins with that of another
abbrev pub kinds : List Kind
kinds = Voltage ∷ Current ∷ Accel ∷ Anglvel ∷ Magn ∷ Temp ∷ []

-- the axis that a letter names
abbrev pub axis_of : List ℕ → Option Suffix
axis_of [] = None
axis_of (c ∷ []) = if c == 120 then Some X else (if c == 121 then Some Y else (if c == 122 then Some Z else None))
axis_of (c ∷ d ∷ rest) = None

-- there is a first digit, and it isn't 0 if there are several
abbrev pub starts_number : List ℕ → Bool
starts_number [] = false
starts_number (c ∷ cs) = not (c == 48) || length cs == 0

-- the number of 16 bits that digits spell
abbrev pub number_of : List ℕ → Option ℕ
number_of text =
    if starts_number text && (all_ascii_digits text && nat_lt (digits_value 10 text) 65536) then Some (digits_value 10 text)
    else None

-- what the bytes after a kind say: nothing, `_` and an axis, or a number
abbrev pub suffix_of : List ℕ → Option Suffix
suffix_of [] = Some Bare
suffix_of (c ∷ cs) = if c == 95 then axis_of cs else option_map (λ n. Number n) (number_of (c ∷ cs))

-- the ID of this kind that a text spells
abbrev pub suffix_after : Kind → List ℕ → Option Suffix
suffix_after kind text =
    if starts_with nat_eq text (kind_text kind) then suffix_of (drop (length (kind_text kind)) text) else None

-- the first value, or else the second
abbrev pub first_some : {A : Type 0} → Option A → Option A → Option A
first_some (Some x) o = Some x
first_some None o = o

-- the ID of one of these kinds that a text spells
abbrev pub id_among : List Kind → List ℕ → Option (Kind × Suffix)
id_among [] text = None
id_among (kind ∷ others) text = first_some (option_map (λ suffix. (kind, suffix)) (suffix_after kind text)) (id_among others text)

-- the ID that a text spells, if it spells one
abbrev pub id_of : List ℕ → Option (Kind × Suffix)
id_of text = id_among kinds text

-- numbers that tell kinds and suffixes apart
abbrev pub kind_rank : Kind → ℕ
kind_rank Voltage = 0
kind_rank Current = 1
kind_rank Accel = 2
kind_rank Anglvel = 3
kind_rank Magn = 4
kind_rank Temp = 5

abbrev pub suffix_rank : Suffix → ℕ
suffix_rank Bare = 0
suffix_rank X = 1
suffix_rank Y = 2
suffix_rank Z = 3
suffix_rank (Number n) = n + 4

-- whether two IDs are the same
abbrev pub same_id : Kind × Suffix → Kind × Suffix → Bool
same_id a b = kind_rank a.0 == kind_rank b.0 && suffix_rank a.1 == suffix_rank b.1
