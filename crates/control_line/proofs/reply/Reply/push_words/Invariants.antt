use Rattle.std.proofs.Common.{◌≡◌, ◌+◌, ◌*◌, ◌++◌, length, take}
use Rattle.std.specs.List.{flat_map}
use Rattle.control_line.specs.Reply.{spaced_word}
use Rattle.control_line.proofs.reply.Reply.push_words.Given as goal

abbrev pub invariant-loop-word : goal.invariant-loop-word
invariant-loop-word l = record {
  text : l.self ≡ l.fn.self ++ flat_map spaced_word (take l.word-index l.words);
  len : length l.self ≡ length l.fn.self + 17 * l.word-index;
}
