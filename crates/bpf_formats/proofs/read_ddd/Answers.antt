use Rattle.bpf_formats.specs.Ddd.{IsDdd}
use Rattle.bpf_formats.specs.Fault.{IsFaultOfDdd}
use Rattle.bpf_formats.proofs.MeaningLemmas.{ddd_meaning, refuses_none}
use Rattle.bpf_formats.proofs.read_ddd.Goals as goal

pub returns-clause-refuses_no_ddd : goal.returns-clause-refuses_no_ddd
returns-clause-refuses_no_ddd g c =
    refuses_none IsDdd IsFaultOfDdd c.args.text.now c.ddd_words.result ddd_meaning c.ddd_words.ensures.fault
