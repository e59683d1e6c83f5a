use Rattle.std.proofs.Common.{◌≡◌, ◌∙◌, ap}
use Rattle.bpf_insn.specs.body.Decoded.{tested}
use Rattle.bpf_insn.specs.Word.{instruction_of}
use Rattle.bpf_insn.proofs.WordLemmas.{IfOk-back, bad_opcode, instruction_of-exact, stray_field, tested-decoded_of}
use Rattle.bpf_insn.proofs.instruction.Insn.from_word.Goals as goal

read : (c : goal.After-tested) → c.tested.result ≡ instruction_of c.args.word
read c = c.tested.ensures ∙ ap tested c.decode.ensures ∙ tested-decoded_of c.args.word

pub returns-clause-instruction : goal.returns-clause-instruction
returns-clause-instruction c = read c

pub returns-clause-word_exact : goal.returns-clause-word_exact
returns-clause-word_exact c = rw (read c) (instruction_of-exact c.args.word)

pub returns-clause-word_round_trip : goal.returns-clause-word_round_trip
returns-clause-word_round_trip c = IfOk-back c.args.word _ (read c)

pub returns-clause-bad_opcode : goal.returns-clause-bad_opcode
returns-clause-bad_opcode c = rw (read c) (bad_opcode c.args.word)

pub returns-clause-stray_field : goal.returns-clause-stray_field
returns-clause-stray_field c = rw (read c) (stray_field c.args.word)
