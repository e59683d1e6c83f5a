use Rattle.bpf_machine.proofs.SafeLemmas.{is_sound}
use Rattle.bpf_machine.proofs.sound.Goals as goal

pub returns : goal.returns
returns c = is_sound
