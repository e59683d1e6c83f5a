use Rattle.std.proofs.Common.{◌≡◌, ◌∙◌, ◌+◌, ◌-◌, ◌*◌, List, ap, arith, get_or, length, sym, ℕ}
use Rattle.std.specs.List.{flat_map}
use Rattle.std.proofs.lemmas.Option.{get_or_from_slice_get}
use Rattle.member_group.specs.declared.TheConstants.{GROUP_WORDS, HEAD_WORDS, MEMBER_WORDS}
use Rattle.config_image.specs.Image.{image, programs_begin}
use Rattle.config_image.specs.Pooled.{parts_of, pooled_row}
use Rattle.config_image.proofs.PartsLemmas.{size_of}
use Rattle.config_image.proofs.EntryLemmas.{before_part}
use Rattle.config_image.proofs.PooledRowLemmas.{form_of_row, entry_word_at, record_of_row, zero_of_row}
use Rattle.config_image.proofs.ProgramLemmas.{image_limited, length-by_words, parts-by_words}
use Rattle.config_image.proofs.pooled.stored.Goals as goal

pub part_place-place-requires-clause-inside : goal.part_place-place-requires-clause-inside
part_place-place-requires-clause-inside g c =
    let walked = ap (λ (all : List (List ℕ)). length (flat_map parts_of all)) c.of_groups.ensures.all in
    let same = ap (λ (all : List (List ℕ)). length all) (parts-by_words c.args.groups.now) in
    let counted = c.requires.pages.counted in
    let inside = c.if-part-count.true in omega arith

pub part_place-place-requires-clause-limited : goal.part_place-place-requires-clause-limited
part_place-place-requires-clause-limited g c =
    let walked = ap size_of c.of_groups.ensures.all in
    let size = length-by_words c.args.groups.now in
    let limited = image_limited c.args.groups.now c.requires.config in
    let members = c.members_in.ensures.members in omega arith

pub new-requires : goal.new-requires
new-requires g c =
    let walked = ap size_of c.of_groups.ensures.all in
    let size = length-by_words c.args.groups.now in
    let limited = image_limited c.args.groups.now c.requires.config in
    let members = c.members_in.ensures.members in
    let place = c.part_place-place.ensures in
    let before = before_part (c.args.i - (HEAD_WORDS + GROUP_WORDS * length c.args.groups.now + MEMBER_WORDS * c.members_in.result)) c.of_groups.result in omega arith

pub returns-then-i-eq0 : goal.returns-then-i-eq0
returns-then-i-eq0 g c =
    c.form_word.ensures ∙ sym (form_of_row c.args.groups.now c.args.pages.now) ∙ ap (λ (n : ℕ). get_or (pooled_row c.args.groups.now c.args.pages.now) n 0) (sym c.if-i-eq0.true)

pub returns-then-i-programs_at : goal.returns-then-i-programs_at
returns-then-i-programs_at g c =
    let members = c.members_in.ensures.members in
    let behind = c.if-i-eq0.false in
    let before = c.if-i-programs_at.true in
    sym (record_of_row c.args.groups.now c.args.pages.now c.args.i (omega arith) (omega arith) c.requires.inside ∙ get_or_from_slice_get (image c.args.groups.now) c.args.i c.record_word.result 0 c.record_word.ensures)

pub returns-then-part-count : goal.returns-then-part-count
returns-then-part-count g c =
    let members = c.members_in.ensures.members in
    let past = c.if-i-programs_at.false in
    let at : HEAD_WORDS + GROUP_WORDS * length c.args.groups.now + MEMBER_WORDS * c.members_in.result ≡ programs_begin c.args.groups.now = omega arith in
    let part = c.args.i - (HEAD_WORDS + GROUP_WORDS * length c.args.groups.now + MEMBER_WORDS * c.members_in.result) in
    let stands : part + (HEAD_WORDS + GROUP_WORDS * length c.args.groups.now + MEMBER_WORDS * c.members_in.result) ≡ c.args.i = omega arith in
    c.new.ensures
    ∙ entry_word_at c.args.groups.now c.args.pages.now c.of_groups.result c.args.i _ part c.part_place-place.result c.requires.pages.counted c.of_groups.ensures.all at stands c.if-part-count.true c.requires.inside c.part_place-place.ensures

pub returns-else-part-count : goal.returns-else-part-count
returns-else-part-count g c =
    let members = c.members_in.ensures.members in
    let past = c.if-i-programs_at.false in
    let counted = c.requires.pages.counted in
    let behind = c.if-part-count.false in
    sym (zero_of_row c.args.groups.now c.args.pages.now c.args.i counted (omega arith) c.requires.inside)
