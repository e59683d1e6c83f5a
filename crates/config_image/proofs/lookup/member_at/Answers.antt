use Rattle.config_image.proofs.LookupLemmas.{record_there}
use Rattle.config_image.proofs.lookup.member_at.Goals as goal

pub read_member-requires : goal.read_member-requires
read_member-requires g c =
    let r = c.requires in
    (r.1, record_there _ _ r.0 _ _ r.1 _ c.member_place-entry.ensures.words_kept r.2 r.3 (c.member_place-entry.ensures.place r.0 r.1 r.2 r.3))

pub returns-clause-member_found : goal.returns-clause-member_found
returns-clause-member_found g c config member begins has =
    c.read_member.ensures.member_found member
    (record_there _ _ config _ _ member _ c.member_place-entry.ensures.words_kept begins has (c.member_place-entry.ensures.place config member begins has))
