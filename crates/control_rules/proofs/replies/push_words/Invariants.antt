use Rattle.std.proofs.Common.{◌≡◌, ◌++◌, List, ℕ}
use Rattle.std.specs.List.{AllZip}
use Rattle.bpf_formats.specs.Hex.{SpellsDigits}
use Rattle.control_rules.proofs.replies.push_words.Given as goal

-- the fields that were read, and the words that they are
abbrev pub invariant-loop-word : goal.invariant-loop-word
invariant-loop-word l =
    (gone : List (List ℕ)) × (more : List ℕ) × AllZip SpellsDigits gone more × (l.fn.fields ≡ gone ++ l.fields) × (l.words.items ≡ l.fn.words.items ++ more)
