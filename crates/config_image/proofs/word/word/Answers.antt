use Rattle.std.proofs.Common.{◌∙◌, ap, arith, sym, ℕ, Some}
use Rattle.config_image.specs.Image.{image}
use Rattle.std.specs.List.{slice_get}
use Rattle.config_image.proofs.ImageLemmas.{length_word, word_in_programs}
use Rattle.config_image.proofs.LengthLemmas.{length_image}
use Rattle.config_image.proofs.word.word.Goals as goal

pub program_word-requires-clause-inside : goal.program_word-requires-clause-inside
program_word-requires-clause-inside g c =
    let size = length_image c.args.groups.now in
    let inside = c.requires.inside in
    let members = c.members_in.ensures.members in
    let past = c.if-i-programs_at.false in
    omega arith

pub returns-then-i-eq0 : goal.returns-then-i-eq0
returns-then-i-eq0 g c =
    ap (slice_get (image c.args.groups.now)) c.if-i-eq0.true ∙ length_word c.args.groups.now ∙ ap (λ (n : ℕ). Some n) (sym c.words_in.ensures.length)

pub returns-else-i-programs_at : goal.returns-else-i-programs_at
returns-else-i-programs_at g c =
    let past = c.if-i-programs_at.false in
    let members = c.members_in.ensures.members in
    word_in_programs c.args.groups.now c.args.i (omega arith) ∙ (rw c.members_in.ensures.members at c.program_word.ensures)
