-- Worked scripts: two that meet the rules, and for each part of the rules one against it, whose two texts differ.
use Rattle.std.proofs.Common.{◌≡◌, ℕ, pos, true, List, [], ◌∷◌, ◌++◌, map, refl, codes, Some, None, Ok, Err}
use Rattle.std.specs.Fmt.{digits}
use Rattle.iio_desc.specs.Description.{Description, DeviceRecord}
use Rattle.iio_desc.specs.DescReader.{read_of}
use Rattle.iio_history.specs.Registry.{Setup}
use Rattle.iio_history.specs.Transcript.{Step, Feed, Fire, Drop, transcript, with_steps}
use Rattle.iio_worlds.specs.Bystanders.{only_bystanders}
use Rattle.iio_worlds.specs.Worlds.{without_others, transcript_kept, first_offence}

abbrev described : List ℕ → Description
described text = elim (read_of 4 text) [ Ok d ↦ d | Err e ↦ record { context = []; triggers = []; devices = []; outputs = []; averages = [] } ]

abbrev setup : List ℕ → Setup
setup text = record { desc = described text; drivers = [] }

abbrev A : List ℕ
A = codes "A"

abbrev a : List ℕ → Step
a line = Feed A (line ++ 10 ∷ [])

abbrev b : List ℕ → Step
b line = Feed (codes "B") (line ++ 10 ∷ [])

abbrev fire : ℕ → Step
fire t = Fire 0 (pos t)

-- one device; and one with listed masks
abbrev one : Setup
one = setup (codes "trigger t0 2\ndevice a t0\nchannel voltage0 le:u8/8>>0\nchannel voltage1 le:u8/8>>0\nrow 0 1 2\n")

abbrev listed : Setup
listed = setup (codes "trigger t0 2\ndevice a t0\nchannel voltage0 le:u8/8>>0\nchannel voltage1 le:u8/8>>0\nmasks 00000001 00000002\nrow 0 1 2\n")

-- B sets, opens, reads and closes beside A
abbrev beside : List Step
beside =
    a (codes "OPEN a 1 00000001") ∷ b (codes "SET a BUFFERS_COUNT 1") ∷ b (codes "OPEN a 1 00000002") ∷ fire 1 ∷ b (codes "READBUF a 1") ∷ fire 2
    ∷ b (codes "CLOSE a")
    ∷ a (codes "READBUF a 2") ∷ Drop (codes "B") ∷ a (codes "CLOSE a") ∷ fire 3 ∷ []

beside_meets : (only_bystanders one A (with_steps one [] beside) ≡ true) × (first_offence one A [] beside ≡ None)
unfolding digits
beside_meets = (refl, refl)

beside_with : transcript one [] beside
    ≡ codes "A \"0\\n\"\nB \"0\\n\"\nB \"0\\n\"\npoll t0 accepted 1\nhandle t0 a captured\nB \"1\\n00000002\\n\\x02\"\npoll t0 accepted 1\nhandle t0 a captured\nB \"0\\n\"\nA \"2\\n00000001\\n\\x01\\x01\"\nB dropped\nA \"0\\n\"\npoll t0 accepted 0\n"
unfolding digits
beside_with = refl

beside_without : transcript one [] (without_others A beside)
    ≡ codes "A \"0\\n\"\npoll t0 accepted 1\nhandle t0 a captured\npoll t0 accepted 1\nhandle t0 a captured\nA \"2\\n00000001\\n\\x01\\x01\"\nA \"0\\n\"\npoll t0 accepted 0\n"
unfolding digits
beside_without = refl

-- ---- against the rules: the texts with and without B differ

-- A ends its membership beside B: the poll finds that of B
abbrev parting : List Step
parting = a (codes "OPEN a 1 00000001") ∷ b (codes "OPEN a 1 00000001") ∷ a (codes "CLOSE a") ∷ fire 1 ∷ []

ending_differs : (first_offence one A [] parting ≡ Some 2)
    × (transcript_kept one A [] parting ≡ codes "A \"0\\n\"\nA \"0\\n\"\npoll t0 accepted 1\nhandle t0 a captured\n")
    × (transcript one [] (without_others A parting) ≡ codes "A \"0\\n\"\nA \"0\\n\"\npoll t0 accepted 0\n")
unfolding digits
ending_differs = (refl, refl, refl)

-- A is lost beside B
abbrev losing : List Step
losing = a (codes "OPEN a 1 00000001") ∷ b (codes "OPEN a 1 00000001") ∷ Drop A ∷ a (codes "VERSION") ∷ fire 1 ∷ []

losing_differs : (first_offence one A [] losing ≡ Some 2)
    × (transcript_kept one A [] losing ≡ codes "A \"0\\n\"\nA dropped\nA closed\npoll t0 accepted 1\nhandle t0 a captured\n")
    × (transcript one [] (without_others A losing) ≡ codes "A \"0\\n\"\nA dropped\nA closed\npoll t0 accepted 0\n")
unfolding digits
losing_differs = (refl, refl, refl)

-- B opens what A doesn't have open: no listed mask has both
abbrev opening : List Step
opening = b (codes "OPEN a 1 00000002") ∷ a (codes "OPEN a 1 00000001") ∷ []

opening_differs : (first_offence listed A [] opening ≡ Some 0) × (transcript_kept listed A [] opening ≡ codes "A \"-22\\n\"\n")
    × (transcript listed [] (without_others A opening) ≡ codes "A \"0\\n\"\n")
unfolding digits
opening_differs = (refl, refl, refl)

-- B writes a bias beside A
abbrev writing : List Step
writing = a (codes "OPEN a 1 00000001") ∷ b (codes "WRITE a INPUT voltage0 calibbias 2\n3") ∷ fire 1 ∷ a (codes "READBUF a 1") ∷ []

writing_differs : (first_offence one A [] writing ≡ Some 1)
    × (transcript_kept one A [] writing ≡ codes "A \"0\\n\"\npoll t0 accepted 1\nhandle t0 a captured\nA \"1\\n00000001\\n\\x04\"\n")
    × (transcript one [] (without_others A writing) ≡ codes "A \"0\\n\"\npoll t0 accepted 1\nhandle t0 a captured\nA \"1\\n00000001\\n\\x01\"\n")
unfolding digits
writing_differs = (refl, refl, refl)

-- B holds the events of a device that A has open
abbrev holding : List Step
holding = a (codes "OPEN a 1 00000001") ∷ b (codes "EVOPEN a") ∷ a (codes "EVOPEN a") ∷ []

holding_differs : (first_offence one A [] holding ≡ Some 1) × (transcript_kept one A [] holding ≡ codes "A \"0\\n\"\nA \"-16\\n\"\n")
    × (transcript one [] (without_others A holding) ≡ codes "A \"0\\n\"\nA \"0\\n\"\n")
unfolding digits
holding_differs = (refl, refl, refl)

-- B removes the trigger of a device that A doesn't have open
abbrev retriggering : List Step
retriggering = b (codes "SETTRIG a") ∷ a (codes "OPEN a 1 00000001") ∷ []

retriggering_differs : (first_offence one A [] retriggering ≡ Some 0) × (transcript_kept one A [] retriggering ≡ codes "A \"-22\\n\"\n")
    × (transcript one [] (without_others A retriggering) ≡ codes "A \"0\\n\"\n")
unfolding digits
retriggering_differs = (refl, refl, refl)

-- A changes its mask beside B: the refusal for the union depends on B's mask
abbrev remasking : List Step
remasking = a (codes "OPEN a 1 00000001") ∷ b (codes "OPEN a 1 00000001") ∷ a (codes "REMASK a 00000002") ∷ []

remasking_differs : (first_offence listed A [] remasking ≡ Some 2) × (transcript_kept listed A [] remasking ≡ codes "A \"0\\n\"\nA \"-22\\n\"\n")
    × (transcript listed [] (without_others A remasking) ≡ codes "A \"0\\n\"\nA \"0\\n\"\n")
unfolding digits
remasking_differs = (refl, refl, refl)

-- B may change its own mask beside A
abbrev remasked : List Step
remasked = a (codes "OPEN a 1 00000001") ∷ b (codes "OPEN a 1 00000001") ∷ b (codes "REMASK a 00000002") ∷ fire 1 ∷ a (codes "READBUF a 1") ∷ []

remasked_meets : (only_bystanders one A (with_steps one [] remasked) ≡ true)
    × (transcript_kept one A [] remasked ≡ transcript one [] (without_others A remasked))
unfolding digits
remasked_meets = (refl, refl)

-- ---- output devices and averaging devices

-- device a, an averaging device over it, and an output device on its trigger
abbrev all_kinds : Setup
all_kinds = record one {
  desc = record one.desc {
    outputs = map (λ (d : DeviceRecord). record { name = codes "o"; trigger = d.trigger; shape = d.shape }) one.desc.devices;
    averages = record { name = codes "m"; base = 0; window = 2 } ∷ [];
  };
}

-- an inner member belongs to nobody: A may leave its averaging device beside B, and nobody sees B's place at the base
abbrev averaging : List Step
averaging =
    a (codes "OPEN a 1 00000001") ∷ b (codes "OPEN a 1 00000002") ∷ a (codes "OPEN m 1 00000001") ∷ fire 1 ∷ fire 2 ∷ a (codes "READBUF m 1")
    ∷ a (codes "CLOSE m") ∷ b (codes "REMASK a 00000001")
    ∷ b (codes "CLOSE a") ∷ a (codes "OPEN m 1 00000002") ∷ a (codes "CLOSE a") ∷ fire 3 ∷ fire 4 ∷ a (codes "READBUF m 1") ∷ []

averaging_meets : (only_bystanders all_kinds A (with_steps all_kinds [] averaging) ≡ true)
    × (transcript_kept all_kinds A [] averaging ≡ transcript all_kinds [] (without_others A averaging))
    × (transcript all_kinds [] (without_others A averaging)
    ≡ codes "A \"0\\n\"\nA \"0\\n\"\npoll t0 accepted 1\nhandle t0 a captured\npoll t0 accepted 1\nhandle t0 a captured\nA \"1\\n00000001\\n\\x01\"\nA \"0\\n\"\nA \"0\\n\"\nA \"0\\n\"\npoll t0 accepted 1\nhandle t0 a captured\npoll t0 accepted 1\nhandle t0 a captured\nA \"1\\n00000002\\n\\x02\"\n")
unfolding digits
averaging_meets = (refl, refl, refl)

-- no other connection may name them, whoever has them open
naming_offends : (first_offence all_kinds A [] (a (codes "OPEN m 1 00000001") ∷ b (codes "READ m name") ∷ []) ≡ Some 1)
    × (first_offence all_kinds A [] (a (codes "OPEN o 1 00000001") ∷ b (codes "GETTRIG o") ∷ []) ≡ Some 1)
    × (first_offence all_kinds A [] (a (codes "OPEN o 1 00000001") ∷ b (codes "WRITEBUF o 0") ∷ []) ≡ Some 1)
    × (first_offence all_kinds A [] (a (codes "OPEN m 1 00000001") ∷ b (codes "OPEN a 1 00000001") ∷ []) ≡ Some 1)
unfolding digits
naming_offends = (refl, refl, refl, refl)

-- an output device that another connection has open is taken
taking : List Step
taking = b (codes "OPEN o 1 00000001") ∷ a (codes "OPEN o 1 00000001") ∷ []

taking_differs : (first_offence all_kinds A [] taking ≡ Some 0) × (transcript_kept all_kinds A [] taking ≡ codes "A \"-16\\n\"\n")
    × (transcript all_kinds [] (without_others A taking) ≡ codes "A \"0\\n\"\n")
unfolding digits taking
taking_differs = (refl, refl, refl)
