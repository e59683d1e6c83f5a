use Rattle.bpf_verify.proofs.FaultLemmas.{accepts_exactly}
use Rattle.bpf_verify.proofs.verify.Goals as goal

pub returns-clause-accepts_exactly : goal.returns-clause-accepts_exactly
returns-clause-accepts_exactly g c = accepts_exactly _ _ c.check_program.ensures.accepted c.check_program.ensures.first_fault
