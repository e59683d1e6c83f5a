use Rattle.std.proofs.Common.{◌≡◌, arith}
use Rattle.std.proofs.lemmas.Option.{slice_get_within}
use Rattle.config_image.specs.Image.{reference}
use Rattle.config_image.proofs.LookupLemmas.{entry_fits, filter_at, filter_stands, filter_word, found_program, is_member}
use Rattle.config_image.proofs.lookup.read_filter.Goals as goal

pub overflow_add-entry : goal.overflow_add-entry
overflow_add-entry g c =
    let r = c.requires.1 in let place = r.place in
    let small = entry_fits _ r.config r.begins r.group r.index c.requires.0 r.has in omega arith

pub word-requires : goal.word-requires
word-requires g c =
    let r = c.requires.1 in rw (r.place) (slice_get_within _ _ _ (filter_word _ r.config r.begins r.group r.index c.requires.0 r.has))

pub returns-clause-filter_found : goal.returns-clause-filter_found
returns-clause-filter_found g c member r =
    let read = rw (r.place) at c.word.ensures.value in
    let is = filter_word _ r.config r.begins r.group r.index member r.has in
    let same : c.word.result ≡ reference (filter_at r.config r.group r.has.of r.index) member.filter = cc in
    found_program _ _ _ member.filter c.place.result
    (filter_stands _ r.config r.begins r.group r.has.of r.has.group_at r.index member r.has.member_at)
    (is_member _ r.config r.begins r.group r.index member r.has).filter same c.place.ensures.none c.place.ensures.some c.place.ensures.found
