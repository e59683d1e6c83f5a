use Rattle.std.proofs.Common.{◌≡◌, ◌+◌, ◌*◌, ◌≤◌, vec_len}
use Rattle.test_config.proofs.tests.searching.row.Given as goal

abbrev pub invariant-loop-i : goal.invariant-loop-i
invariant-loop-i l = record {
  entries : vec_len l.entries ≡ l.i;
  start : l.start ≤ 260 + 16 * l.i;
}
