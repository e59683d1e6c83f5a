use Rattle.std.proofs.Common.{◌≡◌, ◌++◌, take}
use Rattle.control_summary.specs.body.PutText.{text_of}
use Rattle.control_summary.proofs.put_text.PutText.add.Given as goal

abbrev pub invariant-loop-byte : goal.invariant-loop-byte
invariant-loop-byte l = text_of l.self-inside.last ≡ l.fn.self ++ take l.byte-index l.bytes
