use Rattle.std.proofs.Common.{◌≡◌, ◌≤◌, ◌+◌, ◌/◌, drop}
use Rattle.std.specs.List.{list_all}
use Rattle.std.specs.Char.{is_ascii_digit}
use Rattle.std.specs.Str.Parse.{digits_value, digits_value_after}
use Rattle.iio_text.proofs.numbers.value_up_to.Given as goal

abbrev pub invariant-loop-byte : goal.invariant-loop-byte
invariant-loop-byte l = record {
  most : l.most ≡ l.fn.limit / 10;
  bound : l.value ≤ l.fn.limit + 9;
  value : digits_value 10 l.text ≡ digits_value_after 10 l.value (drop l.byte-index l.text);
  digits : list_all is_ascii_digit l.text ≡ list_all is_ascii_digit (drop l.byte-index l.text);
}
