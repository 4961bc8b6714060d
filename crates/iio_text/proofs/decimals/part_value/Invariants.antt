use Rattle.std.proofs.Common.{◌≡◌, ◌<◌, ◌^◌, ◌++◌, take, replicate}
use Rattle.std.specs.Str.Parse.{digits_value}
use Rattle.iio_text.proofs.decimals.part_value.Given as goal

abbrev pub invariant-loop-i : goal.invariant-loop-i
invariant-loop-i l = record {
  value : l.value ≡ digits_value 10 (take l.i (l.digits ++ replicate l.places 48));
  within : l.value < 10 ^ l.i;
}
