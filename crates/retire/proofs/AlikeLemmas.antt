-- Configurations that are alike: what their rows have in common.
use Rattle.std.proofs.Common.{◌≡◌, ◌∙◌, ◌∷◌, ◌+◌, ◌++◌, ◌*◌, ◌<◌, List, None, Option, Some, [], ap, arith, drop, get_or, length, length-append, length-drop, length-take, map, refl, slice_get, slice_index, subst, suc, sym, take, zero, ℕ}
use Rattle.std.specs.List.{cons_option, filter_map, flat_map, sum_by}
use Rattle.std.specs.Option.{option_to_list}
use Rattle.std.proofs.lemmas.List.{drop_more, map-append}
use Rattle.std.proofs.lemmas.List.Concat.{flat_map-cons}
use Rattle.std.proofs.lemmas.List.Sums.{sum_by-cons}
use Rattle.std.proofs.lemmas.Option.{get_or_from_slice_get, slice_get-get_or}
use Rattle.bpf_verify.specs.Program.{ProgramValue}
use Rattle.member_group.specs.declared.TheConstants.{GROUP_WORDS, HEAD_WORDS, MEMBER_WORDS}
use Rattle.member_group.specs.declared.member.Member.{Member}
use Rattle.member_group.specs.Charge.{members_of, programs_of_group}
use Rattle.config_image.specs.declared.TheConstants.{PAGE_WORDS}
use Rattle.config_image.specs.Image.{Group, all_member_records, filter_words, group_program_words, group_records, image, lock_word, member_records, members_begin, program_words, programs_begin, reference, words_of}
use Rattle.config_image.specs.PageTable.{entry_word, header_word, start_of}
use Rattle.config_image.specs.Pooled.{PooledRowTells, form_word, pages_for, part_begin, parts, parts_from, parts_of, pooled_row}
use Rattle.config_image.specs.Walk.{words_of_programs}
use Rattle.config_image.proofs.ImageLemmas.{image-before_programs}
use Rattle.config_image.proofs.LengthLemmas.{length-all_member_records, length-group_records, length_image, members_of-cons}
use Rattle.config_image.proofs.ProgramLemmas.{parts-by_words, words_of_programs-more}
use Rattle.config_image.proofs.WordLemmas.{slice_get-append_left}
use Rattle.retire.specs.body.Alike.{AllAlike, AreAlike, AreAlikeGroups, AreAlikeMembers, AreOfOneLength}

-- ---- one element more of two lists

pub alike_from : {A : Type 0} (P : A → A → Type 0) (xs ys : List A) (i : ℕ) (x y : A) → i < length xs → i < length ys → x ≡ get_or xs i x → y ≡ get_or ys i y → P x y
    → AllAlike P (drop (i + 1) xs) (drop (i + 1) ys) → AllAlike P (drop i xs) (drop i ys)
alike_from P xs ys i x y inside within x_is y_is alike rest =
    subst (λ l. AllAlike P l (drop i ys)) (sym (drop_more xs i x inside)) (subst (λ l. AllAlike P (get_or xs i x ∷ drop (i + 1) xs) l) (sym (drop_more ys i y within))
    (subst (λ a. P a (get_or ys i y)) x_is (subst (P x) y_is alike), rest))

-- ---- lists of words that have as many words each

abbrev HaveOneLength : List ℕ → List ℕ → Type 0
HaveOneLength words other = length words ≡ length other

abbrev AreSized : List (List ℕ) → List (List ℕ) → Type 0
AreSized xs ys = AllAlike HaveOneLength xs ys

sized-append : (xs ys us vs : List (List ℕ)) → AreSized xs ys → AreSized us vs → AreSized (xs ++ us) (ys ++ vs)
sized-append [] [] us vs h k = k
sized-append [] (y ∷ ys) us vs h k = absurd h
sized-append (x ∷ xs) [] us vs h k = absurd h
sized-append (x ∷ xs) (y ∷ ys) us vs h k = (h.0, sized-append xs ys us vs h.1 k)

sized-from : (n : ℕ) (words other : List ℕ) → length words ≡ length other → AreSized (parts_from n words) (parts_from n other)
sized-from zero words other same = tt
sized-from (suc n) words other same = (
  omega (arith, length-take PAGE_WORDS words, length-take PAGE_WORDS other),
  sized-from n (drop PAGE_WORDS words) (drop PAGE_WORDS other) (omega (arith, length-drop PAGE_WORDS words, length-drop PAGE_WORDS other)),
)

sized-parts_of : (words other : List ℕ) → length words ≡ length other → AreSized (parts_of words) (parts_of other)
sized-parts_of words other same = subst (λ (n : ℕ). AreSized (parts_of words) (parts_from (pages_for n) other)) same (sized-from (pages_for (length words)) words other same)

sized-flat : (xs ys : List (List ℕ)) → AreSized xs ys → AreSized (flat_map parts_of xs) (flat_map parts_of ys)
sized-flat [] [] h = tt
sized-flat [] (y ∷ ys) h = absurd h
sized-flat (x ∷ xs) [] h = absurd h
sized-flat (x ∷ xs) (y ∷ ys) h =
    subst (λ l. AreSized l (flat_map parts_of (y ∷ ys))) (sym (flat_map-cons parts_of x xs)) (subst (AreSized (parts_of x ++ flat_map parts_of xs)) (sym (flat_map-cons parts_of y ys))
    (sized-append (parts_of x) (parts_of y) (flat_map parts_of xs) (flat_map parts_of ys) (sized-parts_of x y h.0) (sized-flat xs ys h.1)))

sized-length : (xs ys : List (List ℕ)) → AreSized xs ys → length xs ≡ length ys
sized-length [] [] h = refl
sized-length [] (y ∷ ys) h = absurd h
sized-length (x ∷ xs) [] h = absurd h
sized-length (x ∷ xs) (y ∷ ys) h = let more = sized-length xs ys h.1 in omega arith

abbrev sum_of : List (List ℕ) → ℕ
sum_of xs = sum_by (λ (part : List ℕ). length part) xs

sized-sum : (xs ys : List (List ℕ)) (k : ℕ) → AreSized xs ys → sum_of (take k xs) ≡ sum_of (take k ys)
sized-sum [] [] k h = refl
sized-sum [] (y ∷ ys) k h = absurd h
sized-sum (x ∷ xs) [] k h = absurd h
sized-sum (x ∷ xs) (y ∷ ys) zero h = refl
sized-sum (x ∷ xs) (y ∷ ys) (suc k) h =
    let more = sized-sum xs ys k h.1 in let first = h.0 in
    let left = sum_by-cons (λ (part : List ℕ). length part) x (take k xs) in let right = sum_by-cons (λ (part : List ℕ). length part) y (take k ys) in omega arith

-- ---- programs of one length

length-one : (program other : Option ProgramValue) → AreOfOneLength program other → length (words_of program) ≡ length (words_of other)
length-one None None h = refl
length-one None (Some q) h = absurd h
length-one (Some p) None h = absurd h
length-one (Some p) (Some q) h = h

reference-one : (place : ℕ) (program other : Option ProgramValue) → AreOfOneLength program other → reference place program ≡ reference place other
reference-one place None None h = refl
reference-one place None (Some q) h = absurd h
reference-one place (Some p) None h = absurd h
reference-one place (Some p) (Some q) h = ap (λ (n : ℕ). place * 65536 + n) h

abbrev words_in_all : List ProgramValue → List (List ℕ)
words_in_all programs = map (λ (program : ProgramValue). program.words) programs

sized-one : (program other : Option ProgramValue) → AreOfOneLength program other → AreSized (words_in_all (option_to_list program)) (words_in_all (option_to_list other))
sized-one None None h = tt
sized-one None (Some q) h = absurd h
sized-one (Some p) None h = absurd h
sized-one (Some p) (Some q) h = (h, tt)

sized-more : (program other : Option ProgramValue) (rest others : List ProgramValue) → AreOfOneLength program other → AreSized (words_in_all rest) (words_in_all others)
    → AreSized (words_in_all (cons_option program rest)) (words_in_all (cons_option other others))
sized-more None None rest others h k = k
sized-more None (Some q) rest others h k = absurd h
sized-more (Some p) None rest others h k = absurd h
sized-more (Some p) (Some q) rest others h k = (h, k)

-- ---- members that are alike

abbrev Members : Type 0
Members = List (Member ProgramValue)

abbrev AlikeMembers : Members → Members → Type 0
AlikeMembers members others = AllAlike AreAlikeMembers members others

length-members : (members others : Members) → AlikeMembers members others → length members ≡ length others
length-members [] [] h = refl
length-members [] (other ∷ others) h = absurd h
length-members (member ∷ members) [] h = absurd h
length-members (member ∷ members) (other ∷ others) h = let more = length-members members others h.1 in omega arith

length-filters : (members others : Members) → AlikeMembers members others → length (filter_words members) ≡ length (filter_words others)
length-filters [] [] h = refl
length-filters [] (other ∷ others) h = absurd h
length-filters (member ∷ members) [] h = absurd h
length-filters (member ∷ members) (other ∷ others) h =
    let more = length-filters members others h.1 in let first = length-one member.filter other.filter h.0.filter in
    let left = length-append (words_of member.filter) (filter_words members) in let right = length-append (words_of other.filter) (filter_words others) in omega arith

records-members : (place : ℕ) (members others : Members) → AlikeMembers members others → member_records place members ≡ member_records place others
records-members place [] [] h = refl
records-members place [] (other ∷ others) h = absurd h
records-members place (member ∷ members) [] h = absurd h
records-members place (member ∷ members) (other ∷ others) h =
    let more = records-members (place + length (words_of member.filter)) members others h.1 ∙ ap (λ (n : ℕ). member_records (place + n) others) (length-one member.filter other.filter h.0.filter) in
    let filter = reference-one place member.filter other.filter h.0.filter in
    λ i. h.0.id i ∷ h.0.to i ∷ filter i ∷ lock_word (h.0.locked i) ∷ more i

sized-filters : (members others : Members) → AlikeMembers members others → AreSized (words_in_all (filter_map (λ member. member.filter) members)) (words_in_all (filter_map (λ member. member.filter) others))
sized-filters [] [] h = tt
sized-filters [] (other ∷ others) h = absurd h
sized-filters (member ∷ members) [] h = absurd h
sized-filters (member ∷ members) (other ∷ others) h =
    sized-more member.filter other.filter (filter_map (λ member. member.filter) members) (filter_map (λ member. member.filter) others) h.0.filter (sized-filters members others h.1)

-- ---- groups that are alike

length-programs : (group other : Group) → AreAlikeGroups group other → length (group_program_words group) ≡ length (group_program_words other)
length-programs group other h =
    let selector = length-one group.selector other.selector h.selector in let filters = length-filters group.members other.members h.members in
    let left = length-append (words_of group.selector) (filter_words group.members) in let right = length-append (words_of other.selector) (filter_words other.members) in omega arith

sized-group : (group other : Group) → AreAlikeGroups group other → AreSized (words_in_all (programs_of_group group)) (words_in_all (programs_of_group other))
sized-group group other h =
    subst (λ l. AreSized l (words_in_all (programs_of_group other))) (sym (map-append (λ (p : ProgramValue). p.words) (option_to_list group.selector) (filter_map (λ member. member.filter) group.members)))
    (subst (AreSized (words_in_all (option_to_list group.selector) ++ words_in_all (filter_map (λ member. member.filter) group.members)))
    (sym (map-append (λ (p : ProgramValue). p.words) (option_to_list other.selector) (filter_map (λ member. member.filter) other.members)))
    (sized-append (words_in_all (option_to_list group.selector)) (words_in_all (option_to_list other.selector)) (words_in_all (filter_map (λ member. member.filter) group.members)) (words_in_all (filter_map (λ member. member.filter) other.members))
    (sized-one group.selector other.selector h.selector) (sized-filters group.members other.members h.members)))

sized-programs : (config others : List Group) → AreAlike config others → AreSized (words_of_programs config) (words_of_programs others)
sized-programs [] [] h = tt
sized-programs [] (other ∷ others) h = absurd h
sized-programs (group ∷ config) [] h = absurd h
sized-programs (group ∷ config) (other ∷ others) h =
    subst (λ l. AreSized l (words_of_programs (other ∷ others))) (sym (words_of_programs-more group config)) (subst (AreSized (words_in_all (programs_of_group group) ++ words_of_programs config)) (sym (words_of_programs-more other others))
    (sized-append (words_in_all (programs_of_group group)) (words_in_all (programs_of_group other)) (words_of_programs config) (words_of_programs others) (sized-group group other h.0) (sized-programs config others h.1)))

length-groups : (config others : List Group) → AreAlike config others → length config ≡ length others
length-groups [] [] h = refl
length-groups [] (other ∷ others) h = absurd h
length-groups (group ∷ config) [] h = absurd h
length-groups (group ∷ config) (other ∷ others) h = let more = length-groups config others h.1 in omega arith

members-groups : (config others : List Group) → AreAlike config others → members_of config ≡ members_of others
members-groups [] [] h = refl
members-groups [] (other ∷ others) h = absurd h
members-groups (group ∷ config) [] h = absurd h
members-groups (group ∷ config) (other ∷ others) h =
    let more = members-groups config others h.1 in let first = length-members group.members other.members h.0.members in
    let left = members_of-cons group config in let right = members_of-cons other others in omega arith

words-groups : (config others : List Group) → AreAlike config others → length (program_words config) ≡ length (program_words others)
words-groups [] [] h = refl
words-groups [] (other ∷ others) h = absurd h
words-groups (group ∷ config) [] h = absurd h
words-groups (group ∷ config) (other ∷ others) h =
    let more = words-groups config others h.1 in let first = length-programs group other h.0 in
    let left = length-append (group_program_words group) (program_words config) in let right = length-append (group_program_words other) (program_words others) in omega arith

records-groups : (members place : ℕ) (config others : List Group) → AreAlike config others → group_records members place config ≡ group_records members place others
records-groups members place [] [] h = refl
records-groups members place [] (other ∷ others) h = absurd h
records-groups members place (group ∷ config) [] h = absurd h
records-groups members place (group ∷ config) (other ∷ others) h =
    let count = length-members group.members other.members h.0.members in
    let more = records-groups (members + MEMBER_WORDS * length group.members) (place + length (group_program_words group)) config others h.1
    ∙ (ap (λ (n : ℕ). group_records (members + MEMBER_WORDS * n) (place + length (group_program_words group)) others) count
    ∙ ap (λ (n : ℕ). group_records (members + MEMBER_WORDS * length other.members) (place + n) others) (length-programs group other h.0)) in
    let selector = reference-one place group.selector other.selector h.0.selector in
    λ i. h.0.key i ∷ members ∷ count i ∷ selector i ∷ more i

records-all_members : (place : ℕ) (config others : List Group) → AreAlike config others → all_member_records place config ≡ all_member_records place others
records-all_members place [] [] h = refl
records-all_members place [] (other ∷ others) h = absurd h
records-all_members place (group ∷ config) [] h = absurd h
records-all_members place (group ∷ config) (other ∷ others) h =
    let first = records-members (place + length (words_of group.selector)) group.members other.members h.0.members
    ∙ ap (λ (n : ℕ). member_records (place + n) other.members) (length-one group.selector other.selector h.0.selector) in
    let more = records-all_members (place + length (group_program_words group)) config others h.1
    ∙ ap (λ (n : ℕ). all_member_records (place + n) others) (length-programs group other h.0) in
    λ i. first i ++ more i

-- ---- their rows

same_index : (xs ys : List ℕ) (i : ℕ) → i < length ys → slice_get xs i ≡ slice_get ys i → slice_index xs i ≡ slice_index ys i
same_index xs ys i inside e = get_or_from_slice_get xs i (get_or ys i 0) 0 (e ∙ slice_get-get_or ys i 0 inside)

module _ (config other : List Group) (alike : AreAlike config other) where
  pub same_begin : programs_begin config ≡ programs_begin other
  same_begin = let groups = length-groups config other alike in let members = members-groups config other alike in omega arith

  pub same_length : length (image config) ≡ length (image other)
  same_length = let begin = same_begin in let words = words-groups config other alike in omega (arith, length_image config, length_image other)

  sized : AreSized (parts config) (parts other)
  sized = subst (λ l. AreSized l (parts other)) (sym (parts-by_words config)) (subst (AreSized (flat_map parts_of (words_of_programs config))) (sym (parts-by_words other))
      (sized-flat (words_of_programs config) (words_of_programs other) (sized-programs config other alike)))

  pub same_count : length (parts config) ≡ length (parts other)
  same_count = sized-length (parts config) (parts other) sized

  pub same_part_begin : (index : ℕ) → part_begin config index ≡ part_begin other index
  same_part_begin index = let sum = sized-sum (parts config) (parts other) index sized in let begin = same_begin in omega arith

  pub same_form : form_word config ≡ form_word other
  same_form = λ i. header_word (same_length i) (same_begin i) (same_count i)

  abbrev before_programs : List Group → List ℕ
  before_programs groups = ((programs_begin groups + length (program_words groups)) ∷ length groups ∷ []) ++ (group_records (members_begin groups) (programs_begin groups) groups ++ all_member_records (programs_begin groups) groups)

  same_before : before_programs config ≡ before_programs other
  same_before =
      let groups = length-groups config other alike in let words = words-groups config other alike in
      let records = records-groups (members_begin config) (programs_begin config) config other alike
      ∙ (ap (λ (n : ℕ). group_records (members_begin config) n other) same_begin ∙ ap (λ (n : ℕ). group_records (HEAD_WORDS + GROUP_WORDS * n) (programs_begin other) other) groups) in
      let members = records-all_members (programs_begin config) config other alike ∙ ap (λ (n : ℕ). all_member_records n other) same_begin in
      λ i. ((same_begin i + words i) ∷ groups i ∷ []) ++ (records i ++ members i)

  length-before : (groups : List Group) → length (before_programs groups) ≡ programs_begin groups
  length-before groups = omega (
    arith,
    length-append (group_records (members_begin groups) (programs_begin groups) groups) (all_member_records (programs_begin groups) groups),
    length-group_records (members_begin groups) (programs_begin groups) groups,
    length-all_member_records (programs_begin groups) groups,
  )

  front_word : (groups : List Group) (i : ℕ) → i < programs_begin groups → slice_get (image groups) i ≡ slice_get (before_programs groups) i
  front_word groups i low = ap (λ l. slice_get l i) (image-before_programs groups) ∙ slice_get-append_left (before_programs groups) (program_words groups) i (omega (arith, length-before groups))

  same_word : (i : ℕ) → i < programs_begin config → slice_get (image config) i ≡ slice_get (image other) i
  same_word i low = front_word config i low ∙ (ap (λ l. slice_get l i) same_before ∙ sym (front_word other i (omega (arith, same_begin))))

  module _ (pages current_pages : List ℕ) (tells : PooledRowTells config pages) (others : PooledRowTells other current_pages) where
    -- the words before the names are the same
    pub same_head : (i : ℕ) → i < programs_begin config → slice_index (pooled_row other current_pages) i ≡ slice_index (pooled_row config pages) i
    same_head zero low = same_index (pooled_row other current_pages) (pooled_row config pages) 0 (omega (arith, tells.whole)) (others.form ∙ (ap Some (sym same_form) ∙ sym tells.form))
    same_head (suc i) low = same_index (pooled_row other current_pages) (pooled_row config pages) (suc i) (omega (arith, tells.whole, tells.inside, tells.short))
        (others.image_words (suc i) (omega arith) (omega (arith, same_begin)) ∙ (sym (same_word (suc i) low) ∙ sym (tells.image_words (suc i) (omega arith) low)))

    -- and the names are, but for their pages
    pub same_name : (index page stood : ℕ) → slice_get pages index ≡ Some page → slice_get current_pages index ≡ Some stood → stood < 65536
        → entry_word (start_of (slice_index (pooled_row other current_pages) (programs_begin config + index))) page ≡ slice_index (pooled_row config pages) (programs_begin config + index)
    same_name index page stood at there low =
        let was : slice_index (pooled_row other current_pages) (programs_begin config + index) ≡ entry_word (part_begin other index) stood =
        ap (λ (n : ℕ). slice_index (pooled_row other current_pages) (n + index)) same_begin ∙ get_or_from_slice_get (pooled_row other current_pages) (programs_begin other + index) (entry_word (part_begin other index) stood) 0 (others.entries index stood there) in
        let is = get_or_from_slice_get (pooled_row config pages) (programs_begin config + index) (entry_word (part_begin config index) page) 0 (tells.entries index page at) in
        let begin = same_part_begin index in omega (arith, was, is, begin)
