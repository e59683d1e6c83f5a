use Rattle.bpf_formats.specs.body.View.{Spells, items_left}
use Rattle.bpf_formats.proofs.ItemLemmas.{ends}
use Rattle.bpf_formats.proofs.reading.read_words.Goals as goal

pub returns-clause-words : goal.returns-clause-words
returns-clause-words g c =
    ends (Spells c.args.form) (items_left c.args.text) c.args.first c.loop-left.n c.loop-left.words.items (rw c.in_default.is at c.loop-left.invariant.0)
