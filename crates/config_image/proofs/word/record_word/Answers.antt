use Rattle.std.proofs.Common.{◌∙◌, ap, arith}
use Rattle.config_image.specs.Image.{image}
use Rattle.std.specs.List.{slice_get}
use Rattle.config_image.proofs.ImageLemmas.{count_word, word_in_groups, word_in_members}
use Rattle.config_image.proofs.LengthLemmas.{members_limited}
use Rattle.config_image.proofs.word.record_word.Goals as goal

pub group_word-requires-clause-programs : goal.group_word-requires-clause-programs
group_word-requires-clause-programs g c =
    let programs = c.requires.programs in
    let few = c.requires.config.limited in
    let members = members_limited c.args.groups.now c.requires.config in omega arith

pub members_word-requires-clause-programs : goal.members_word-requires-clause-programs
members_word-requires-clause-programs g c =
    let programs = c.requires.programs in
    let few = c.requires.config.limited in
    let members = members_limited c.args.groups.now c.requires.config in omega arith

pub returns-then-i-eq1 : goal.returns-then-i-eq1
returns-then-i-eq1 g c = ap (slice_get (image c.args.groups.now)) c.if-i-eq1.true ∙ count_word c.args.groups.now

pub returns-then-i-members_at : goal.returns-then-i-members_at
returns-then-i-members_at g c =
    let behind = c.requires.behind in
    let past_count = c.if-i-eq1.false in
    let members = c.requires.members in
    let before = c.if-i-members_at.true in
    word_in_groups c.args.groups.now c.args.i (omega arith) (omega arith) ∙ (rw (c.requires.members, c.requires.programs) at c.group_word.ensures)

pub returns-else-i-members_at : goal.returns-else-i-members_at
returns-else-i-members_at g c =
    let members = c.requires.members in
    let programs = c.requires.programs in
    let past = c.if-i-members_at.false in
    let before = c.requires.before in
    word_in_members c.args.groups.now c.args.i (omega arith) (omega arith) ∙ (rw (c.requires.members, c.requires.programs) at c.members_word.ensures)
