use Rattle.std.proofs.Common.{List, subst, ℕ}
use Rattle.config_image.specs.Lookup.{IsProgramFound}
use Rattle.config_image.proofs.LookupLemmas.{record_there}
use Rattle.config_image.proofs.lookup.filter_of.Goals as goal

pub read_filter-requires : goal.read_filter-requires
read_filter-requires g c =
    let r = c.requires in
    (r.1, record_there _ _ r.0 _ _ r.1 _ c.member_place-entry.ensures.words_kept r.2 r.3 (c.member_place-entry.ensures.place r.0 r.1 r.2 r.3))

pub returns-clause-filter_found : goal.returns-clause-filter_found
returns-clause-filter_found g c config member begins has =
    subst (λ (words : List ℕ). IsProgramFound words member.filter c.read_filter.result) c.member_place-entry.ensures.words_kept
    (c.read_filter.ensures.filter_found member
    (record_there _ _ config _ _ member _ c.member_place-entry.ensures.words_kept begins has (c.member_place-entry.ensures.place config member begins has)))
