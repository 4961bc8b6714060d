-- What an OPEN and a REMASK ask for, as contracts see it. Cited only by private functions.
use Rattle.std.specs.Prelude.{ℕ, Result, Ok, Err}
use Rattle.iio_text.specs.declared.errors.Errno.{Errno}
use Rattle.iiod_commands.specs.declared.wanted.Wanted.{Wanted as CodeWanted}
use Rattle.iiod_commands.specs.Client.{Wanted}

abbrev pub wanted_of_code : CodeWanted → Wanted
wanted_of_code x = record { mask = x.mask.bits; capacity = x.capacity }

abbrev pub wanted_view : Result CodeWanted Errno → Result Wanted Errno
wanted_view (Ok x) = Ok (wanted_of_code x)
wanted_view (Err e) = Err e

-- the mask alone
abbrev pub mask_view : Result CodeWanted Errno → Result ℕ Errno
mask_view (Ok x) = Ok x.mask.bits
mask_view (Err e) = Err e
