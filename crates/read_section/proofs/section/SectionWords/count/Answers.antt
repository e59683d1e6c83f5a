use Rattle.std.proofs.Common.{sym, ◌∙◌}
use Rattle.versions.proofs.ShapeLemmas.{row_words_is}
use Rattle.read_section.proofs.section.SectionWords.count.Goals as goal

pub returns-then-is_inside : goal.returns-then-is_inside
returns-then-is_inside c = sym (c.if-is_inside.ensures ∙ row_words_is)
