-- Commands that a list has more.
use Rattle.std.proofs.Common.{◌+◌, ◌++◌, ◌-◌, ◌<◌, ◌≤◌, ◌∙◌, ◌∷◌, ◌≡◌, Bool, List, None, Some, [], ap, append-nil, append_assoc, false, get_or, length, map, refl, reverse, subst, sym, take, ℕ}
use Rattle.std.specs.Prelude.{Option, flat_map, option_map}
use Rattle.std.specs.Borrow.{Bor}
use Rattle.std.proofs.lemmas.List.{get_or-reverse, length-reverse, map-append, reverse-append, take_all, take_more}
use Rattle.std.proofs.lemmas.Grind.{flat_map-append}
use Rattle.std.proofs.lemmas.List.Folds.{flat_map-map}
use Rattle.bpf_verify.specs.Program.{ProgramValue}
use Rattle.ipv4_fields.specs.declared.endpoint.Endpoint.{Endpoint}
use Rattle.member_group.specs.declared.command.Command.{Command}
use Rattle.member_group.specs.declared.command.Command.TheVariants.{Leave}
use Rattle.member_group.specs.declared.member.Member.{Member}
use Rattle.member_group.specs.Over.{command_over}
use Rattle.config_diff.specs.Words.{words_of_commands}
use Rattle.config_diff.specs.body.Appended.{HasMore, words_member, words_program}
use Rattle.config_diff.specs.body.Changes.{is_same_option, program_changes, set_or_clear}

abbrev Lent : Type 0
Lent = Command (Bor ProgramValue)

-- the words of a program that is lent, if there is one
pub lent_words : (lent : Option (Bor ProgramValue)) (program : Option ProgramValue) → option_map (λ one. one.now) lent ≡ program → words_program lent ≡ option_map (λ one. one.words) program
lent_words None program is = ap (option_map (λ one. one.words)) is
lent_words (Some one) program is = ap (option_map (λ one. one.words)) is

pub more_of_both : (a b c : List Lent) (one two : List (Command (List ℕ))) → HasMore a b one → HasMore b c two → HasMore a c (one ++ two)
more_of_both a b c one two first second = record { more = second.more ∙ ap (λ front. front ++ two) first.more ∙ append_assoc (words_of_commands a) one two }

pub more_of_push : (a b : List Lent) (command : Lent) → b ≡ a ++ command ∷ [] → HasMore a b (command_over (λ program. program.now.words) command ∷ [])
more_of_push a b command pushed = record { more = ap words_of_commands pushed ∙ map-append (command_over (λ program. program.now.words)) a (command ∷ []) }

-- a program is another one: one command sets or clears it
pub more_of_other : {P : Type 0} (same : P → P → Bool) (set : P → Command P) (clear : Command P) (one other : Option P) → is_same_option same one other ≡ false →
    set_or_clear set clear other ≡ program_changes same set clear one other
more_of_other same set clear one other differs = rw differs refl

pub no_more : (a : List Lent) → HasMore a a []
no_more a = record { more = sym (append-nil (words_of_commands a)) }

-- one element more of a list that a loop goes over
pub more_of_next : {X : Type 0} (f : X → List (Command (List ℕ))) (a b c : List Lent) (xs : List X) (i : ℕ) (x : X) → i < length xs → x ≡ get_or xs i x →
    HasMore a b (flat_map f (take i xs)) → HasMore b c (f x) → HasMore a c (flat_map f (take (i + 1) xs))
more_of_next f a b c xs i x inside is so_far next =
    let more : take (i + 1) xs ≡ take i xs ++ x ∷ [] = take_more xs i x inside ∙ ap (λ y. take i xs ++ y ∷ []) (sym is) in
    let parts : flat_map f (take (i + 1) xs) ≡ flat_map f (take i xs) ++ f x =
    ap (flat_map f) more ∙ flat_map-append f (take i xs) (x ∷ []) ∙ ap (λ back. flat_map f (take i xs) ++ back) (append-nil (f x)) in
    subst (HasMore a c) (sym parts) (more_of_both a b c (flat_map f (take i xs)) (f x) so_far next)

abbrev leave_of : {Q : Type 0} → Endpoint → Member Q → Command (List ℕ)
leave_of key member = Leave key member.id

-- at the end of the list
pub more_of_all : {X Y : Type 0} (f : Y → List (Command (List ℕ))) (v : X → Y) (a b : List Lent) (xs : List X) (i : ℕ) → length xs ≤ i →
    HasMore a b (flat_map (λ x. f (v x)) (take i xs)) → HasMore a b (flat_map f (map v xs))
more_of_all f v a b xs i all so_far =
    subst (HasMore a b) (ap (flat_map (λ x. f (v x))) (take_all i xs all) ∙ sym (flat_map-map f v xs)) so_far

-- one member more leaves, from the last one on
pub more_of_leaves : {Q : Type 0} (key : Endpoint) (a b c : List Lent) (members : List (Member Q)) (left : ℕ) (member : Member Q) → left < length members →
    HasMore a b (map (λ member. Leave key member.id) (take left (reverse members))) → HasMore b c (Leave key (get_or members (length members - 1 - left) member).id ∷ []) →
    HasMore a c (map (λ member. Leave key member.id) (take (left + 1) (reverse members)))
more_of_leaves key a b c members left member inside so_far pushed =
    let here = get_or members (length members - 1 - left) member in
    let room : left < length (reverse members) = subst (λ n. left < n) (sym (length-reverse members)) inside in
    let more : take (left + 1) (reverse members) ≡ take left (reverse members) ++ here ∷ [] =
    take_more (reverse members) left member room ∙ ap (λ y. take left (reverse members) ++ y ∷ []) (get_or-reverse members left member inside) in
    let parts : map (leave_of key) (take (left + 1) (reverse members)) ≡ map (leave_of key) (take left (reverse members)) ++ Leave key here.id ∷ [] =
    ap (map (leave_of key)) more ∙ map-append (leave_of key) (take left (reverse members)) (here ∷ []) in
    subst (HasMore a c) (sym parts)
    (more_of_both a b c (map (leave_of key) (take left (reverse members))) (Leave key here.id ∷ []) so_far pushed)

leaves_of_words : (key : Endpoint) (members : List (Member ProgramValue)) → map (leave_of key) (reverse members) ≡ map (leave_of key) (reverse (map words_member members))
leaves_of_words key [] = refl
leaves_of_words key (member ∷ members) =
    ap (map (leave_of key)) (reverse-append (member ∷ []) members)
    ∙ map-append (leave_of key) (reverse members) (member ∷ [])
    ∙ ap (λ front. front ++ Leave key member.id ∷ []) (leaves_of_words key members)
    ∙ sym (map-append (leave_of key) (reverse (map words_member members)) (words_member member ∷ []))
    ∙ sym (ap (map (leave_of key)) (reverse-append (words_member member ∷ []) (map words_member members)))

pub more_of_all_leaves : (key : Endpoint) (a b : List Lent) (members : List (Member ProgramValue)) (left : ℕ) → length members ≤ left →
    HasMore a b (map (λ member. Leave key member.id) (take left (reverse members))) → HasMore a b (map (λ member. Leave key member.id) (reverse (map words_member members)))
more_of_all_leaves key a b members left all so_far =
    let all_back : length (reverse members) ≤ left = subst (λ n. n ≤ left) (sym (length-reverse members)) all in
    subst (HasMore a b) (ap (map (leave_of key)) (take_all left (reverse members) all_back) ∙ leaves_of_words key members) so_far
