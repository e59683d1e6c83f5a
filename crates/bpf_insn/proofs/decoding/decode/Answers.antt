use Rattle.std.proofs.Common.{◌∙◌}
use Rattle.bpf_insn.proofs.WordLemmas.{decoded_with-masked}
use Rattle.bpf_insn.proofs.decoding.decode.Goals as goal

pub returns : goal.returns
returns c = c.decode_fields.ensures ∙ decoded_with-masked c.args.word
