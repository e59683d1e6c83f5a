use Rattle.std.proofs.Common.{◌≡◌, ◌∙◌, arith, length, sym}
use Rattle.std.proofs.lemmas.Option.{slice_get_within}
use Rattle.ipv4_fields.specs.Endpoint.{endpoint_number}
use Rattle.config_image.proofs.LookupLemmas.{count_is, key_is, members_count_is}
use Rattle.config_image.proofs.SearchLemmas.{between_above, between_below, between_ends, found_group, found_none, middle_of}
use Rattle.config_image.proofs.lookup.find_group.Goals as goal

pub word-high-requires : goal.word-high-requires
word-high-requires g c = slice_get_within _ _ _ (count_is _ c.requires.0 c.requires.1)

pub halving-init : goal.halving-init
halving-init g c = (
  c.word-high.ensures.words_kept,
  c.word-high.ensures.rest_kept,
  λ config begins.
      let is = count_is _ config begins in
      let read = c.word-high.ensures.value in
      let high : c.word-high.result ≡ length config = cc in
      rw high (between_ends c.args.key config),
)

pub word-other-requires : goal.word-other-requires
word-other-requires g c =
    let middle = middle_of _ _ _ _ (c.halving.invariant.2 c.requires.0 c.requires.1) c.halving-test.true in
    rw (c.record.ensures, c.halving.invariant.0) (slice_get_within _ _ _ (key_is _ c.requires.0 c.requires.1 _ middle.group middle.has))

pub word-members-requires : goal.word-members-requires
word-members-requires g c =
    let middle = middle_of _ _ _ _ (c.halving.invariant.2 c.requires.0 c.requires.1) c.halving-test.true in
    rw (c.record-then-other-number.ensures, c.word-other.ensures.words_kept, c.halving.invariant.0) (slice_get_within _ _ _ (members_count_is _ c.requires.0 c.requires.1 _ middle.group middle.has))

pub returns-then-other-number-clause-group_found : goal.returns-then-other-number-clause-group_found
returns-then-other-number-clause-group_found g c config begins =
    let middle = middle_of _ _ _ _ (c.halving.invariant.2 config begins) c.halving-test.true in
    let read = rw (c.record.ensures, c.halving.invariant.0) at c.word-other.ensures.value in
    let is = key_is _ config begins _ middle.group middle.has in
    let other : c.word-other.result ≡ endpoint_number middle.group.key = cc in
    let counted = rw (c.record-then-other-number.ensures, c.word-other.ensures.words_kept, c.halving.invariant.0) at c.word-members.ensures.value in
    let count = members_count_is _ config begins _ middle.group middle.has in
    let members : c.word-members.result ≡ length middle.group.members = cc in
    (middle.group, found_group c.args.key config begins.is_config.rising _ middle.group middle.has (sym other ∙ c.if-other-number.true ∙ c.number-number.ensures), middle.has, members)

pub halving-preserved-then-other-number-2 : goal.halving-preserved-then-other-number-2
halving-preserved-then-other-number-2 g c = (
  c.word-other.ensures.words_kept ∙ c.halving.invariant.0,
  c.word-other.ensures.rest_kept ∙ c.halving.invariant.1,
  λ config begins.
      let between = c.halving.invariant.2 config begins in
      let middle = middle_of _ _ _ _ between c.halving-test.true in
      let read = rw (c.record.ensures, c.halving.invariant.0) at c.word-other.ensures.value in
      let is = key_is _ config begins _ middle.group middle.has in
      let other : c.word-other.result ≡ endpoint_number middle.group.key = cc in
      let number = c.number-number.ensures in
      let less = c.if-other-number-2.true in
      between_above c.args.key config begins.is_config.rising _ _ _ between middle.group middle.has middle.from middle.to (omega arith),
)

pub halving-preserved : goal.halving-preserved
halving-preserved g c = (
  c.word-other.ensures.words_kept ∙ c.halving.invariant.0,
  c.word-other.ensures.rest_kept ∙ c.halving.invariant.1,
  λ config begins.
      let between = c.halving.invariant.2 config begins in
      let middle = middle_of _ _ _ _ between c.halving-test.true in
      let read = rw (c.record.ensures, c.halving.invariant.0) at c.word-other.ensures.value in
      let is = key_is _ config begins _ middle.group middle.has in
      let other : c.word-other.result ≡ endpoint_number middle.group.key = cc in
      let number = c.number-number.ensures in
      let not_less = c.if-other-number-2.false in
      let apart = c.if-other-number.false in
      between_below c.args.key config begins.is_config.rising _ _ _ between middle.group middle.has middle.from middle.to (omega arith),
)

pub returns-clause-group_found : goal.returns-clause-group_found
returns-clause-group_found g c config begins =
    let between = c.halving.invariant.2 config begins in
    let ordered = between.ordered in
    let met = c.halving-test.false in
    let same : c.halving.high ≡ c.halving.low = omega arith in
    found_none c.args.key config c.halving.low (rw same at between)
