use Rattle.std.proofs.Common.{◌≡◌, ◌++◌, string_bytes, take}
use Rattle.std.specs.List.{flat_map}
use Rattle.bpf_formats.specs.body.View.{line_of}
use Rattle.bpf_formats.proofs.printing.push_lines.Given as goal

abbrev pub invariant-loop-word : goal.invariant-loop-word
invariant-loop-word g l =
    string_bytes l.text ≡ string_bytes l.initial.text ++ flat_map (line_of l.layout) (take l.word-index l.words)
