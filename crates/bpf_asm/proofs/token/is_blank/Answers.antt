use Rattle.std.proofs.Common.{◌∙◌, sym}
use Rattle.bpf_asm.proofs.TokenLemmas.{blank-is_end}
use Rattle.bpf_asm.proofs.token.is_blank.Goals as goal

pub returns : goal.returns
returns c = c.is_empty.ensures ∙ sym (blank-is_end c.args.line.now c.behind_gap.result.now c.behind_gap.ensures)
