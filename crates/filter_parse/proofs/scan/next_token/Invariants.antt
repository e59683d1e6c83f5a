use Rattle.std.proofs.Common.{◌≡◌, ◌≤◌, ◌-◌, drop, length}
use Rattle.filter_parse.specs.body.Scan.{tokens_from}
use Rattle.filter_parse.proofs.scan.next_token.Given as goal

abbrev pub invariant-loop-place : goal.invariant-loop-place
invariant-loop-place l = record {
  forward : l.at ≤ l.place;
  within : l.place ≤ length l.text;
  same : tokens_from 0 l.at (drop l.at l.text) ≡ tokens_from 0 l.place (drop l.place l.text);
}

abbrev pub decreases-loop-place : goal.decreases-loop-place
decreases-loop-place l = length l.text - l.place
