use Rattle.bpf_asm.proofs.CutLemmas.{with_fronts-nil}
use Rattle.bpf_asm.proofs.line.first_line.Goals as goal

pub loop-i-init : goal.loop-i-init
loop-i-init c = with_fronts-nil c.args.text.now
