use Rattle.std.proofs.Common.{◌≡◌, arith, refl}
use Rattle.std.proofs.lemmas.Option.{slice_get_within}
use Rattle.member_group.specs.Group.{IsGroup}
use Rattle.config_image.specs.Image.{reference}
use Rattle.config_image.specs.Lookup.{programs_at}
use Rattle.config_image.proofs.LookupLemmas.{found_program, group_index_fits, group_word_is, item_at, selector_part}
use Rattle.config_image.proofs.lookup.selector_of.Goals as goal

pub record-requires : goal.record-requires
record-requires g c = group_index_fits _ c.requires.0 c.requires.2 c.args.group c.requires.1 c.requires.3

pub word-requires : goal.word-requires
word-requires g c =
    rw c.record.ensures (slice_get_within _ _ _ (group_word_is _ c.requires.0 c.requires.2 c.args.group c.requires.1 c.requires.3 3 _ (omega arith) refl))

pub returns-clause-selector_found : goal.returns-clause-selector_found
returns-clause-selector_found g c config at begins has =
    let read = rw c.record.ensures at c.word.ensures.value in
    let is = group_word_is _ config begins c.args.group at has 3 (reference (programs_at config c.args.group) at.selector) (omega arith) refl in
    let same : c.word.result ≡ reference (programs_at config c.args.group) at.selector = cc in
    found_program _ _ _ at.selector c.place.result
    (selector_part _ config begins c.args.group at has)
    (item_at IsGroup config c.args.group at has begins.is_config.groups).selector same c.place.ensures.none c.place.ensures.some c.place.ensures.found
