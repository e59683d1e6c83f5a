use Rattle.bpf_formats.specs.Fault.{IsFaultOfHex}
use Rattle.bpf_formats.specs.Hex.{IsHex}
use Rattle.bpf_formats.proofs.MeaningLemmas.{hex_meaning, refuses_none}
use Rattle.bpf_formats.proofs.read_hex.Goals as goal

pub returns-clause-refuses_no_hex : goal.returns-clause-refuses_no_hex
returns-clause-refuses_no_hex g c =
    refuses_none IsHex IsFaultOfHex c.args.text.now c.hex_words.result hex_meaning c.hex_words.ensures.fault
