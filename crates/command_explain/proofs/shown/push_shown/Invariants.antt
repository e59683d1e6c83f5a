use Rattle.std.proofs.Common.{◌≡◌, ◌≤◌, ◌++◌, ◌+◌, ◌*◌, take, vec_capacity, vec_len}
use Rattle.command_explain.specs.Shown.{shown_text}
use Rattle.command_explain.proofs.shown.push_shown.Given as goal

abbrev pub invariant-loop-byte : goal.invariant-loop-byte
invariant-loop-byte l =
    (l.text.items ≡ l.initial.text.items ++ shown_text (take l.byte-index l.bytes))
    × (vec_len l.text ≤ vec_len l.initial.text + 4 * l.byte-index)
    × (vec_capacity l.initial.text ≤ vec_capacity l.text)
