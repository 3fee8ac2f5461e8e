use Rattle.std.proofs.Common.{◌≡◌, ◌<◌, ◌^◌, drop}
use Rattle.std.specs.Str.{all_ascii_digits}
use Rattle.std.specs.Str.Parse.{digits_value, digits_value_after}
use Rattle.dstm_text.proofs.number.short_value.Given as goal

-- the bytes so far are digits, and the number is theirs
abbrev pub invariant-loop-byte : goal.invariant-loop-byte
invariant-loop-byte l = record {
  digits : all_ascii_digits l.field ≡ all_ascii_digits (drop l.byte-index l.field);
  value : digits_value 10 l.field ≡ digits_value_after 10 l.number (drop l.byte-index l.field);
  small : l.number < 10 ^ l.byte-index;
}
