use Rattle.std.proofs.Common.{rules}
use Rattle.std.proofs.lemmas.Nat.{be_bytes_8}
use Rattle.bpf_insn.proofs.WordLemmas.{IfOk-bytes}
use Rattle.bpf_insn.proofs.instruction.Insn.from_bytes.Goals as goal

pub returns-clause-bytes_round_trip : goal.returns-clause-bytes_round_trip
returns-clause-bytes_round_trip c =
    IfOk-bytes _ c.args.bytes _ (be_bytes_8 c.args.bytes _ (search rules) (search (rules, c.well_formed)) c.from_be_bytes.ensures) c.from_word.ensures.word_round_trip
