use Rattle.std.proofs.Common.{◌≡◌, ◌≤◌, ◌+◌, ◌-◌, drop, length, take}
use Rattle.std.specs.Char.{is_ascii_hexdigit}
use Rattle.std.specs.List.{prefix_len}
use Rattle.filter_parse.specs.Token.{capped, value_of}
use Rattle.filter_parse.proofs.number.leading_hexadecimal.Given as goal

abbrev pub invariant-loop-len : goal.invariant-loop-len
invariant-loop-len l = record {
  within : l.len ≤ length l.text;
  same : prefix_len is_ascii_hexdigit l.text ≡ l.len + prefix_len is_ascii_hexdigit (drop l.len l.text);
  worth : l.worth ≡ capped (value_of 16 (take l.len l.text));
}

abbrev pub decreases-loop-len : goal.decreases-loop-len
decreases-loop-len l = length l.text - l.len
