-- What is appended to the text of the rules.
use Rattle.std.proofs.Common.{◌≡◌, ◌∙◌, ◌+◌, ◌<◌, ◌∷◌, ◌++◌, List, None, Option, Some, [], ap, append-nil, append_assoc, arith, drop, length, length-append, map, refl, subst, suc, sym, take, zero, ℕ}
use Rattle.std.specs.Prelude.{option_and_then, slice_get}
use Rattle.std.specs.List.{flat_map}
use Rattle.std.proofs.lemmas.Grind.{flat_map-append}
use Rattle.std.proofs.lemmas.List.{map-append}
use Rattle.ipv4_fields.specs.declared.endpoint.Endpoint.{Endpoint}
use Rattle.bpf_verify.specs.Program.{IsProgram, ProgramValue}
use Rattle.config_diff.specs.Rules.{commands_of, rules_of_group, rules_of_member}
use Rattle.config_image.specs.Image.{Group}
use Rattle.member_group.specs.Group.{IsConfig, group_of, member_of}
use Rattle.member_group.specs.Over.{config_over, group_over, member_over}
use Rattle.member_group.specs.declared.command.Command.{Command}
use Rattle.member_group.specs.declared.command.Command.TheVariants.{AddGroup, Join, SetFilter, SetSelector}
use Rattle.member_group.specs.declared.member.Member.{Member}
use Rattle.control_line.specs.declared.reply.TheConstants.{WINDOW}
use Rattle.control_rules.specs.Text.{change_text, changes_text}
use Rattle.control_rules.specs.body.Added.{Adds, AddsFilter, AddsGroup, AddsGroups, AddsMember, AddsMembers, AddsSelector, HasWordsOf, filter_rules, lock_rules, members_rules, selector_rules, words_of}
use Rattle.control_rules.specs.body.Progress.{AddsFirstGroups, AddsFirstMembers, AreFirstWords}
use Rattle.control_rules.specs.Shown.{AreWordsAt, IsGroupAt, IsMemberAt, program_at, words_in}
use Rattle.control_rules.specs.declared.replies.GroupShown.{GroupShown}
use Rattle.control_rules.specs.declared.replies.MemberShown.{MemberShown}
use Rattle.control_rules.specs.declared.replies.WordsShown.{WordsShown}
use Rattle.control_rules.proofs.FoundLemmas.{group_at_found, member_at_found, program_is}

-- ---- lines that are appended

abbrev pub line : Command (List ℕ) → List ℕ
line command = change_text command ++ 10 ∷ []

pub adds_none : (text : List ℕ) → Adds [] text text
adds_none text = sym (append-nil text)

pub adds_one : (command : Command (List ℕ)) (text text' : List ℕ) → text' ≡ text ++ line command → Adds (command ∷ []) text text'
adds_one command text text' is = is ∙ ap (λ it. text ++ it) (sym (append-nil (line command)))

pub adds_both : (one other : List (Command (List ℕ))) (text mid text' : List ℕ) → Adds one text mid → Adds other mid text' → Adds (one ++ other) text text'
adds_both one other text mid text' first then =
    then ∙ ap (λ it. it ++ changes_text other) first ∙ append_assoc text (changes_text one) (changes_text other)
    ∙ ap (λ it. text ++ it) (sym (flat_map-append line one other))

-- ---- words

take-nil : {X : Type 0} (k : ℕ) → take {A = X} k [] ≡ []
take-nil zero = refl
take-nil (suc k) = refl

take-split : (n m : ℕ) (words : List ℕ) → take (n + m) words ≡ take n words ++ take m (drop n words)
take-split zero m words = let same : 0 + m ≡ m = omega arith in ap (λ k. take k words) same
take-split (suc n) m [] = take-nil (suc n + m) ∙ sym (take-nil m)
take-split (suc n) m (w ∷ words) =
    let same : suc n + m ≡ suc (n + m) = omega arith in
    ap (λ k. take k (w ∷ words)) same ∙ ap (λ rest. w ∷ rest) (take-split n m words)

pub take_whole : {X : Type 0} (xs : List X) → take (length xs) xs ≡ xs
take_whole [] = refl
take_whole (x ∷ xs) = ap (λ rest. x ∷ rest) (take_whole xs)

got : {X : Type 0} (xs : List X) (i : ℕ) → i < length xs → (x : X) × (slice_get xs i ≡ Some x)
got [] i inside = absurd (omega arith)
got (x ∷ xs) zero inside = (x, refl)
got (x ∷ xs) (suc i) inside = got xs i (omega arith)

pub take-next : {X : Type 0} (xs : List X) (i : ℕ) (x : X) → slice_get xs i ≡ Some x → take (i + 1) xs ≡ take i xs ++ x ∷ []
take-next [] i x at = cc
take-next (y ∷ ys) zero x at = let same : y ≡ x = cc in ap (λ it. it ∷ []) same
take-next (y ∷ ys) (suc i) x at =
    let same : suc i + 1 ≡ suc (i + 1) = omega arith in
    ap (λ k. take k (y ∷ ys)) same ∙ ap (λ rest. y ∷ rest) (take-next ys i x at)

take-own : (k : ℕ) (words : List ℕ) → take (length (take k words)) words ≡ take k words
take-own zero words = refl
take-own (suc k) [] = refl
take-own (suc k) (w ∷ words) = ap (λ rest. w ∷ rest) (take-own k words)

pub some_is : {X : Type 0} (one other : X) (option : Option X) → option ≡ Some one → option ≡ Some other → one ≡ other
some_is one other option is also = let both : Some one ≡ Some other = sym is ∙ also in cc

words_more : (config : List Group) (key : Endpoint) (owner : Option ℕ) (place : ℕ) (words : List ℕ) (shown : WordsShown) → place ≡ length words →
    AreFirstWords config key owner words → AreWordsAt config key owner place shown → AreFirstWords config key owner (words ++ shown.words.items)
words_more config key owner place words shown at first more program found =
    let all = program.words in
    let more_words = shown.words.items in
    let same : more.program ≡ program = some_is more.program program (program_at key owner config) more.found found in
    let next : more_words ≡ take WINDOW (drop (length words) all) = more.words ∙ ap (λ it. take WINDOW (drop place it.words)) same ∙ ap (λ n. take WINDOW (drop n all)) at in
    let own : more_words ≡ take (length more_words) (drop (length words) all) =
    next ∙ sym (take-own WINDOW (drop (length words) all)) ∙ ap (λ it. take (length it) (drop (length words) all)) (sym next) in
    ap (λ front. front ++ more_words) (first program found)
    ∙ ap (λ back. take (length words) all ++ back) own
    ∙ sym (take-split (length words) (length more_words) all)
    ∙ ap (λ n. take n all) (sym (length-append words more_words))

pub words_more_at : (history : ℕ → List Group) (version : ℕ) (key : Endpoint) (owner : Option ℕ) {place : ℕ} (words : List ℕ) (shown : WordsShown) → shown.version ≡ version →
    place ≡ length words → AreFirstWords (history version) key owner words → AreWordsAt (history shown.version) key owner place shown →
    AreFirstWords (history version) key owner (words ++ shown.words.items)
words_more_at history version key owner {place} words shown same at first more =
    words_more (history version) key owner place words shown at first (subst (λ v. AreWordsAt (history v) key owner place shown) same more)

pub words_done : (config : List Group) (key : Endpoint) (owner : Option ℕ) (count : ℕ) (words all : List ℕ) → AreFirstWords config key owner words →
    all ≡ words → length all ≡ count → HasWordsOf config key owner count all
words_done config key owner count words all first same size program found fits =
    same ∙ first program found ∙ ap (λ n. take n program.words) (ap length (sym same) ∙ size ∙ fits) ∙ take_whole program.words

-- ---- programs

module _ (config : List Group) (is : IsConfig config) where
  some_words : (program : ProgramValue) → IsProgram program → 0 ≡ length program.words → ⊥
  some_words program of none = let some = of.accepted.not_empty in omega arith

  pub selector_none : (key : Endpoint) (count : ℕ) (text : List ℕ) → count ≡ 0 → AddsSelector config key count text text
  selector_none key count text none group found size = by_selector group.selector refl
    where
      by_selector : (selector : Option ProgramValue) → group.selector ≡ selector → Adds (selector_rules key group.selector) text text
      by_selector None at = rw at (adds_none text)
      by_selector (Some program) at =
          absurd (some_words program (program_is config is key None program (ap (λ it. option_and_then (λ group. group.selector) it) found ∙ at))
          (sym none ∙ size ∙ ap words_in at))

  pub selector_some : (key : Endpoint) (count : ℕ) (words text text' : List ℕ) → (count ≡ 0 → ⊥) → HasWordsOf config key None count words →
      text' ≡ text ++ line (SetSelector key words) → AddsSelector config key count text text'
  selector_some key count words text text' some has added group found size = by_selector group.selector refl
    where
      by_selector : (selector : Option ProgramValue) → group.selector ≡ selector → Adds (selector_rules key group.selector) text text'
      by_selector None at = absurd (some (size ∙ ap words_in at))
      by_selector (Some program) at =
          let same : words ≡ program.words = has program (ap (λ it. option_and_then (λ group. group.selector) it) found ∙ at) (size ∙ ap words_in at) in
          rw at (adds_one (SetSelector key program.words) text text' (added ∙ ap (λ it. text ++ line (SetSelector key it)) same))

  filter_found : (key : Endpoint) (id : ℕ) (group : Group) (member : Member ProgramValue) (program : ProgramValue) → group_of key config ≡ Some group →
      member_of id group ≡ Some member → member.filter ≡ Some program → program_at key (Some id) config ≡ Some program
  filter_found key id group member program found named at =
      ap (λ it. option_and_then (λ group. option_and_then (λ member. member.filter) (member_of id group)) it) found
      ∙ ap (λ it. option_and_then (λ member. member.filter) it) named ∙ at

  pub filter_none : (key : Endpoint) (id count : ℕ) (text : List ℕ) → count ≡ 0 → AddsFilter config key id count text text
  filter_none key id count text none group member found named size = by_filter member.filter refl
    where
      by_filter : (filter : Option ProgramValue) → member.filter ≡ filter → Adds (filter_rules key id member.filter) text text
      by_filter None at = rw at (adds_none text)
      by_filter (Some program) at =
          absurd (some_words program (program_is config is key (Some id) program (filter_found key id group member program found named at)) (sym none ∙ size ∙ ap words_in at))

  pub filter_some : (key : Endpoint) (id count : ℕ) (words text text' : List ℕ) → (count ≡ 0 → ⊥) → HasWordsOf config key (Some id) count words →
      text' ≡ text ++ line (SetFilter key id words) → AddsFilter config key id count text text'
  filter_some key id count words text text' some has added group member found named size = by_filter member.filter refl
    where
      by_filter : (filter : Option ProgramValue) → member.filter ≡ filter → Adds (filter_rules key id member.filter) text text'
      by_filter None at = absurd (some (size ∙ ap words_in at))
      by_filter (Some program) at =
          let same : words ≡ program.words = has program (filter_found key id group member program found named at) (size ∙ ap words_in at) in
          rw at (adds_one (SetFilter key id program.words) text text' (added ∙ ap (λ it. text ++ line (SetFilter key id it)) same))

  -- ---- members

  pub member_added : (key : Endpoint) (index : ℕ) (shown : MemberShown) (text joined filtered text' : List ℕ) → IsMemberAt config key index shown →
      joined ≡ text ++ line (Join key shown.id shown.to) → AddsFilter config key shown.id shown.filter joined filtered →
      Adds (lock_rules key shown.id shown.locked) filtered text' → AddsMember config key index text text'
  member_added key index shown text joined filtered text' it join filter lock group member found at =
      let groups : it.group ≡ group = some_is it.group group (group_of key config) it.found found in
      let here : slice_get group.members index ≡ Some it.member = subst (λ g. slice_get g.members index ≡ Some it.member) groups it.at in
      let same : it.member ≡ member = some_is it.member member (slice_get group.members index) here at in
      let id : shown.id ≡ member.id = it.id ∙ ap (λ m. m.id) same in
      let named : member_of shown.id group ≡ Some member = ap (λ n. member_of n group) id ∙ member_at_found config is key group index member found at in
      let size : shown.filter ≡ words_in member.filter = it.filter ∙ ap (λ m. words_in m.filter) same in
      let joins : Join key shown.id shown.to ≡ Join key member.id member.to = ap (λ n. Join key n shown.to) id ∙ ap (Join key member.id) (it.to ∙ ap (λ m. m.to) same) in
      let first : Adds (Join key member.id member.to ∷ []) text joined = adds_one (Join key member.id member.to) text joined (join ∙ ap (λ command. text ++ line command) joins) in
      let second : Adds (filter_rules key member.id member.filter) joined filtered = subst (λ n. Adds (filter_rules key n member.filter) joined filtered) id (filter group member found named size) in
      let third : Adds (lock_rules key member.id member.locked) filtered text' =
      subst (λ b. Adds (lock_rules key member.id b) filtered text') (it.locked ∙ ap (λ m. m.locked) same) (subst (λ n. Adds (lock_rules key n shown.locked) filtered text') id lock) in
      adds_both (Join key member.id member.to ∷ []) (filter_rules key member.id member.filter ++ lock_rules key member.id member.locked) text joined text' first
      (adds_both (filter_rules key member.id member.filter) (lock_rules key member.id member.locked) joined filtered text' second third)

  pub members_begin : (key : Endpoint) (members : ℕ) (text : List ℕ) → AddsFirstMembers config key members 0 text text
  members_begin key members text group found size = adds_none text

  pub members_more : (key : Endpoint) (members index : ℕ) (text mid text' : List ℕ) → index < members → AddsFirstMembers config key members index text mid →
      AddsMember config key index mid text' → AddsFirstMembers config key members (index + 1) text text'
  members_more key members index text mid text' inside first then group found size =
      let next = got group.members index (omega (arith, size, inside)) in
      let front = take index group.members in
      subst (λ rules. Adds rules text text')
      (sym (flat_map-append (λ member. rules_of_member key member) (map (member_over words_of) front) (member_over words_of next.0 ∷ []))
      ∙ ap (λ it. flat_map (λ member. rules_of_member key member) it) (sym (map-append (member_over words_of) front (next.0 ∷ [])))
      ∙ ap (members_rules key) (sym (take-next group.members index next.0 next.1)))
      (adds_both (members_rules key front) (members_rules key (next.0 ∷ [])) text mid text' (first group found size)
      (subst (λ rules. Adds rules mid text') (sym (append-nil (rules_of_member key (member_over words_of next.0)))) (then group next.0 found next.1)))

  pub members_end : (key : Endpoint) (members count : ℕ) (text text' : List ℕ) → count ≡ members → AddsFirstMembers config key members count text text' →
      AddsMembers config key members text text'
  members_end key members count text text' all first group found size =
      subst (λ it. Adds (members_rules key it) text text') (ap (λ n. take n group.members) (all ∙ size) ∙ take_whole group.members) (first group found size)

  -- ---- groups

  pub group_added : (index : ℕ) (shown : GroupShown) (text added selected text' : List ℕ) → IsGroupAt config index shown →
      added ≡ text ++ line (AddGroup shown.key) → AddsSelector config shown.key shown.selector added selected →
      AddsMembers config shown.key shown.members selected text' → AddsGroup config index text text'
  group_added index shown text added selected text' it add selector members group at =
      let same : it.group ≡ group = some_is it.group group (slice_get config index) it.at at in
      let key : shown.key ≡ group.key = it.key ∙ ap (λ g. g.key) same in
      let found : group_of shown.key config ≡ Some group = ap (λ k. group_of k config) key ∙ group_at_found config is index group at in
      let size : shown.selector ≡ words_in group.selector = it.selector ∙ ap (λ g. words_in g.selector) same in
      let count : shown.members ≡ length group.members = it.members ∙ ap (λ g. length g.members) same in
      let first : Adds (AddGroup group.key ∷ []) text added = adds_one (AddGroup group.key) text added (add ∙ ap (λ k. text ++ line (AddGroup k)) key) in
      let second : Adds (selector_rules group.key group.selector) added selected = subst (λ k. Adds (selector_rules k group.selector) added selected) key (selector group found size) in
      let third : Adds (members_rules group.key group.members) selected text' = subst (λ k. Adds (members_rules k group.members) selected text') key (members group found count) in
      adds_both (AddGroup group.key ∷ []) (selector_rules group.key group.selector ++ members_rules group.key group.members) text added text' first
      (adds_both (selector_rules group.key group.selector) (members_rules group.key group.members) added selected text' second third)

  pub groups_begin : (groups : ℕ) (text : List ℕ) → AddsFirstGroups config groups 0 text text
  groups_begin groups text size = adds_none text

  pub groups_more : (groups index : ℕ) (text mid text' : List ℕ) → index < groups → AddsFirstGroups config groups index text mid →
      AddsGroup config index mid text' → AddsFirstGroups config groups (index + 1) text text'
  groups_more groups index text mid text' inside first then size =
      let next = got config index (omega (arith, size, inside)) in
      let front = take index config in
      subst (λ rules. Adds rules text text')
      (sym (flat_map-append (λ group. rules_of_group group) (config_over words_of front) (group_over words_of next.0 ∷ []))
      ∙ ap (λ it. flat_map (λ group. rules_of_group group) it) (sym (map-append (group_over words_of) front (next.0 ∷ [])))
      ∙ ap (λ it. commands_of (config_over words_of it)) (sym (take-next config index next.0 next.1)))
      (adds_both (commands_of (config_over words_of front)) (commands_of (config_over words_of (next.0 ∷ []))) text mid text' (first size)
      (subst (λ rules. Adds rules mid text') (sym (append-nil (rules_of_group (group_over words_of next.0)))) (then next.0 next.1)))

  pub groups_end : (groups count : ℕ) (text text' : List ℕ) → count ≡ groups → AddsFirstGroups config groups count text text' → AddsGroups config groups text text'
  groups_end groups count text text' all first size =
      subst (λ it. Adds (commands_of (config_over words_of it)) text text') (ap (λ n. take n config) (all ∙ size) ∙ take_whole config) (first size)
