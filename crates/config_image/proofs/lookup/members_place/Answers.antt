use Rattle.std.proofs.lemmas.Option.{slice_get_within}
use Rattle.config_image.proofs.LookupLemmas.{group_index_fits, members_word_is}
use Rattle.config_image.proofs.lookup.members_place.Goals as goal

pub record-requires : goal.record-requires
record-requires g c = group_index_fits _ c.requires.0 c.requires.2 c.args.group c.requires.1 c.requires.3

pub word-requires : goal.word-requires
word-requires g c =
    rw c.record.ensures (slice_get_within _ _ _ (members_word_is _ c.requires.0 c.requires.2 c.args.group c.requires.1 c.requires.3))

pub returns-clause-place : goal.returns-clause-place
returns-clause-place g c config at begins has =
    let is = members_word_is _ config begins c.args.group at has in
    let read = rw c.record.ensures at c.word.ensures.value in cc
