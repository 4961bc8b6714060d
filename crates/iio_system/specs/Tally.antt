-- What a system counted, as its callers see it.
use Rattle.std.specs.Prelude.{◌-◌}
use Rattle.iio_history.specs.Summary.{Summary}
use Rattle.iio_kinds.specs.declared.tally.Tally.{Tally}
use Rattle.iio_kinds.specs.Tally.{shown}

-- a summary with its counts as they are shown
abbrev pub tally_of : Summary → Tally
tally_of x = record { captures = shown x.captures; scans = shown x.scans; overruns = shown x.overruns; bytes = x.bytes }
