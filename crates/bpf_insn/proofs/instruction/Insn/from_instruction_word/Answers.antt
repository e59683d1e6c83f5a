use Rattle.std.proofs.Common.{◌∙◌, sym}
use Rattle.bpf_insn.proofs.WordLemmas.{decoded_instruction}
use Rattle.bpf_insn.proofs.instruction.Insn.from_instruction_word.Goals as goal

pub returns : goal.returns
returns c = decoded_instruction c.args.word c.in-Some.decoded c.requires (sym c.decode.ensures ∙ c.in-Some.is)
