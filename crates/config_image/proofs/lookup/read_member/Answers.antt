use Rattle.std.proofs.Common.{◌≡◌, arith}
use Rattle.ipv4_fields.specs.Endpoint.{endpoint_number}
use Rattle.std.proofs.lemmas.Option.{slice_get_within}
use Rattle.config_image.proofs.LookupLemmas.{entry_fits, found_member, id_word, is_member, to_fits, to_word}
use Rattle.config_image.proofs.lookup.read_member.Goals as goal

pub overflow_add-entry : goal.overflow_add-entry
overflow_add-entry g c =
    let r = c.requires.1 in let place = r.place in
    let small = entry_fits _ r.config r.begins r.group r.index c.requires.0 r.has in omega arith

pub word-id-requires : goal.word-id-requires
word-id-requires g c =
    let r = c.requires.1 in rw (r.place) (slice_get_within _ _ _ (id_word _ r.config r.begins r.group r.index c.requires.0 r.has))

pub overflow_cast-id : goal.overflow_cast-id
overflow_cast-id g c =
    let r = c.requires.1 in
    let read = rw (r.place) at c.word-id.ensures.value in
    let is = id_word _ r.config r.begins r.group r.index c.requires.0 r.has in
    let same : c.word-id.result ≡ c.requires.0.id = cc in
    let small = (is_member _ r.config r.begins r.group r.index c.requires.0 r.has).id in omega arith

pub word-requires : goal.word-requires
word-requires g c =
    let r = c.requires.1 in
    rw (c.word-id.ensures.words_kept, r.place) (slice_get_within _ _ _ (to_word _ r.config r.begins r.group r.index c.requires.0 r.has))

pub from_number-to-requires : goal.from_number-to-requires
from_number-to-requires g c =
    let r = c.requires.1 in
    let read = rw (c.word-id.ensures.words_kept, r.place) at c.word.ensures.value in
    let is = to_word _ r.config r.begins r.group r.index c.requires.0 r.has in
    let small = to_fits _ r.config r.begins r.group r.index c.requires.0 r.has in
    let same : c.word.result ≡ endpoint_number c.requires.0.to = cc in omega arith

pub returns-clause-member_found : goal.returns-clause-member_found
returns-clause-member_found g c member r =
    let id = rw (r.place) at c.word-id.ensures.value in
    let to = rw (c.word-id.ensures.words_kept, r.place, ← c.from_number-to.ensures.number) at c.word.ensures.value in
    found_member _ r.config r.begins r.group r.index member r.has c.word-id.result c.from_number-to.result id to c.from_number-to.ensures.fits
