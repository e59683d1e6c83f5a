use Rattle.read_section.proofs.SectionLemmas as section
use Rattle.read_section.proofs.whole.sections_are_whole.Goals as goal

pub returns : goal.returns
returns c = section.sections_are_whole
