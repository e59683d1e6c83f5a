use Rattle.bpf_formats.proofs.CutLemmas.{with_fronts-nil}
use Rattle.bpf_formats.proofs.item.first_item.Goals as goal

pub loop-i-init : goal.loop-i-init
loop-i-init c = with_fronts-nil c.args.text.now
