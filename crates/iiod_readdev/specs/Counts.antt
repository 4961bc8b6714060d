-- What the counts of faults of the input, of the link and of the output show about a status. (This project's own.)
use Rattle.std.specs.Prelude.{◌≡◌, ℕ, ◌≤◌}
use Rattle.iio_base.specs.Faults.{Rose}
use Rattle.iiod_readdev.specs.declared.read_status.ReadStatus.{ReadStatus}
use Rattle.iiod_readdev.specs.declared.read_status.ReadStatus.TheVariants.{LinkFault, NoAddress, ReadFault, Refused, TooLong, Usage, WriteFault}

-- a failed call is reported only if one failed; if something was read over the link, or memory ran out, none failed. No count
-- falls, and that of the link stays if nothing was asked of it
abbrev pub ShowsCounts : ReadStatus → (input input' link link' output output' : ℕ) → Type 0
ShowsCounts ReadFault input input' link link' output output' = Rose input input' × (link' ≡ link) × (output' ≡ output)
ShowsCounts WriteFault input input' link link' output output' = (input ≤ input') × (link ≤ link') × Rose output output'
ShowsCounts NoAddress input input' link link' output output' = (input' ≡ input) × Rose link link' × (output' ≡ output)
ShowsCounts LinkFault input input' link link' output output' = (input' ≡ input) × Rose link link' × (output' ≡ output)
ShowsCounts Usage input input' link link' output output' = (input' ≡ input) × (link' ≡ link) × (output ≤ output')
ShowsCounts (Refused line why) input input' link link' output output' = (input ≤ input') × (link' ≡ link) × (output ≤ output')
ShowsCounts TooLong input input' link link' output output' = (input ≤ input') × (link' ≡ link) × (output ≤ output')
ShowsCounts end input input' link link' output output' = (input' ≡ input) × (link' ≡ link) × (output' ≡ output)
