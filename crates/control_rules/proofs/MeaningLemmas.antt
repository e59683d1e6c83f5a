-- The configuration that the text of the rules makes.
use Rattle.std.proofs.Common.{◌≡◌, ◌∙◌, ◌++◌, ◌∷◌, Bool, List, None, Option, Some, [], ap, append_assoc, arith, codes, decimal, false, inl, length, map, refl, subst, suc, sym, true, ℕ}
use Rattle.std.specs.Prelude.{IfSome, if◌then◌else◌, option_map}
use Rattle.std.specs.List.{All, flat_map}
use Rattle.std.proofs.lemmas.List.Elements.{All-head, All-tail}
use Rattle.ipv4_fields.specs.declared.endpoint.Endpoint.{Endpoint}
use Rattle.ipv4_fields.specs.Cut.{Lacks}
use Rattle.ipv4_fields.specs.Endpoint.{IsEndpoint}
use Rattle.ipv4_fields.proofs.TextLemmas.{lacks-append, lacks-decimal, lacks-test}
use Rattle.bpf_asm.specs.Assembly.{HasOneValue}
use Rattle.bpf_verify.specs.Program.{IsProgram, ProgramValue}
use Rattle.config_diff.specs.Rules.{commands_of, rules_of_group, rules_of_member}
use Rattle.config_diff.specs.Words.{words_config}
use Rattle.config_diff.proofs.ChangesLemmas.{rules_lead}
use Rattle.config_diff.proofs.ShapeLemmas.{shaped_config, shaped_over}
use Rattle.config_image.specs.Image.{Group}
use Rattle.member_group.specs.Charge.{charge_of, members_of}
use Rattle.member_group.specs.Group.{GroupOf, IsConfig, IsGroup, IsMember}
use Rattle.member_group.specs.Over.{config_over, group_over, member_over}
use Rattle.member_group.specs.declared.command.Command.{Command}
use Rattle.member_group.specs.declared.command.Command.TheVariants.{LockFilter}
use Rattle.member_group.specs.declared.member.Member.{Member}
use Rattle.filter_program.specs.Program.{IsProgramFor}
use Rattle.control_line.specs.Agrees.{Agrees, TextConfig}
use Rattle.control_line.specs.Answer.{LeadBy, NumberedLine}
use Rattle.control_line.specs.Reply.{reply_text}
use Rattle.control_line.specs.Request.{AsksForOneThing}
use Rattle.control_line.specs.Rules.{IsConfigOf, lines_in, rule_of, rules_from, rules_in}
use Rattle.control_line.specs.declared.reply.LineAnswer.TheVariants.{Shown}
use Rattle.control_line.proofs.RulesLemmas.{lines_in-cut}
use Rattle.control_rules.specs.Rules.{RulesMakeNothingElse, RulesMakeTheirConfig, rules_file}
use Rattle.control_rules.specs.Text.{change_text, changes_text, heading}
use Rattle.control_rules.proofs.LeadLemmas.{AllInRange, lines_do, lines_lead, lines_of, loaded_of, loaded_text, words_text}
use Rattle.control_rules.proofs.TextLemmas.{IsInRange, change_counts, lacks_change, no_return}

-- ---- the lines of the text

line_of_change : (number : ℕ) (command : Command (List ℕ)) → IsInRange command →
    rule_of number (change_text command) ≡ (let line : NumberedLine = record { number = number; text = change_text command } in line ∷ [])
line_of_change number command fits =
    simp (change_counts command) (ap (λ text. let line : NumberedLine = record { number = number; text = text } in line ∷ []) (no_return (change_text command) (lacks_change 13 (omega arith) command fits)))

changes_lines : (number : ℕ) (commands : List (Command (List ℕ))) → AllInRange commands → rules_from number (lines_in (changes_text commands)) ≡ lines_of number commands
changes_lines number [] fits = refl
changes_lines number (command ∷ commands) fits =
    ap (λ text. rules_from number (lines_in text)) (append_assoc (change_text command) (10 ∷ []) (changes_text commands))
    ∙ ap (rules_from number) (lines_in-cut (change_text command) (changes_text commands) (lacks_change 10 (omega arith) command fits.0))
    ∙ ap (λ first. first ++ rules_from (suc number) (lines_in (changes_text commands))) (line_of_change number command fits.0)
    ∙ ap (λ rest. (let line : NumberedLine = record { number = number; text = change_text command } in line) ∷ rest) (changes_lines (suc number) commands fits.1)

lacks_shown : (version groups members charge : ℕ) → Lacks 10 (codes "# " ++ reply_text (Shown version groups members charge))
lacks_shown version groups members charge =
    let number = λ (n : ℕ). lacks-decimal 10 n (inl (omega arith)) in
    let one = codes "version " ++ decimal version in
    let two = one ++ codes " groups " in
    let three = two ++ decimal groups in
    let four = three ++ codes " members " in
    let five = four ++ decimal members in
    let six = five ++ codes " charge " in
    let lacks_one = lacks-append 10 (codes "version ") (decimal version) (lacks-test 10 (codes "version ") refl) (number version) in
    let lacks_two = lacks-append 10 one (codes " groups ") lacks_one (lacks-test 10 (codes " groups ") refl) in
    let lacks_three = lacks-append 10 two (decimal groups) lacks_two (number groups) in
    let lacks_four = lacks-append 10 three (codes " members ") lacks_three (lacks-test 10 (codes " members ") refl) in
    let lacks_five = lacks-append 10 four (decimal members) lacks_four (number members) in
    let lacks_six = lacks-append 10 five (codes " charge ") lacks_five (lacks-test 10 (codes " charge ") refl) in
    lacks-append 10 (codes "# ") (six ++ decimal charge) (lacks-test 10 (codes "# ") refl) (lacks-append 10 six (decimal charge) lacks_six (number charge))

file_lines : (version groups members charge : ℕ) (commands : List (Command (List ℕ))) → AllInRange commands →
    rules_in (heading version groups members charge ++ changes_text commands) ≡ lines_of 2 commands
file_lines version groups members charge commands fits =
    let first = codes "# " ++ reply_text (Shown version groups members charge) in
    let shape : heading version groups members charge ++ changes_text commands ≡ first ++ 10 ∷ changes_text commands =
    ap (λ it. it ++ changes_text commands) (sym (append_assoc (codes "# ") (reply_text (Shown version groups members charge)) (10 ∷ [])))
    ∙ append_assoc first (10 ∷ []) (changes_text commands) in
    ap rules_in shape
    ∙ ap (rules_from 1) (lines_in-cut first (changes_text commands) (lacks_shown version groups members charge))
    ∙ changes_lines 2 commands fits

-- ---- the commands of a configuration are in their ranges

range_append : (one other : List (Command (List ℕ))) → AllInRange one → AllInRange other → AllInRange (one ++ other)
range_append [] other first second = second
range_append (command ∷ one) other first second = (first.0, range_append one other first.1 second)

abbrev words_of : ProgramValue → List ℕ
words_of program = program.words

member_range : (key : Endpoint) → IsEndpoint key → (member : Member ProgramValue) → IsMember member → AllInRange (rules_of_member key (member_over words_of member))
member_range key fits member is = by_filter member.filter is.filter member.locked
  where
    lock_range : (locked : Bool) → AllInRange (if locked then LockFilter key member.id ∷ [] else [])
    lock_range true = ((fits, is.id), tt)
    lock_range false = tt

    by_filter : (filter : Option ProgramValue) → IfSome filter IsProgram → (locked : Bool) →
        AllInRange (rules_of_member key (record { id = member.id; to = member.to; filter = option_map words_of filter; locked = locked }))
    by_filter None programs locked = ((fits, is.id, is.to), lock_range locked)
    by_filter (Some program) programs locked = ((fits, is.id, is.to), ((fits, is.id, programs.accepted), lock_range locked))

members_range : (key : Endpoint) → IsEndpoint key → (members : List (Member ProgramValue)) → All IsMember members →
    AllInRange (flat_map (λ member. rules_of_member key member) (map (member_over words_of) members))
members_range key fits [] all = tt
members_range key fits (member ∷ members) all =
    range_append (rules_of_member key (member_over words_of member)) (flat_map (λ member. rules_of_member key member) (map (member_over words_of) members))
    (member_range key fits member (All-head IsMember member members all)) (members_range key fits members (All-tail IsMember member members all))

group_range : (group : Group) → IsGroup group → AllInRange (rules_of_group (group_over words_of group))
group_range group is = by_selector group.selector is.selector
  where
    by_selector : (selector : Option ProgramValue) → IfSome selector IsProgram →
        AllInRange (rules_of_group (record { key = group.key; selector = option_map words_of selector; members = map (member_over words_of) group.members }))
    by_selector None programs = (is.key, members_range group.key is.key group.members is.members)
    by_selector (Some program) programs = (is.key, ((is.key, programs.accepted), members_range group.key is.key group.members is.members))

config_range : (config : List Group) → All IsGroup config → AllInRange (commands_of (words_config config))
config_range [] all = tt
config_range (group ∷ config) all =
    range_append (rules_of_group (group_over words_of group)) (commands_of (words_config config))
    (group_range group (All-head IsGroup group config all)) (config_range config (All-tail IsGroup group config all))

-- ---- programs of pairs

module _ {P Q R : Type 0} (f : P → Q) (g : Q → R) (h : P → R) (same : (p : P) → g (f p) ≡ h p) where
  option_twice : (option : Option P) → option_map g (option_map f option) ≡ option_map h option
  option_twice None = refl
  option_twice (Some p) = ap (λ it. Some it) (same p)

  member_twice : (member : Member P) → member_over g (member_over f member) ≡ member_over h member
  member_twice member = ap (λ filter. let it : Member R = record { id = member.id; to = member.to; filter = filter; locked = member.locked } in it) (option_twice member.filter)

  members_twice : (members : List (Member P)) → map (member_over g) (map (member_over f) members) ≡ map (member_over h) members
  members_twice [] = refl
  members_twice (member ∷ members) = ap (λ it. it ∷ map (member_over g) (map (member_over f) members)) (member_twice member) ∙ ap (λ it. member_over h member ∷ it) (members_twice members)

  group_twice : (group : GroupOf P) → group_over g (group_over f group) ≡ group_over h group
  group_twice group =
      ap (λ selector. let it : GroupOf R = record { key = group.key; selector = selector; members = map (member_over g) (map (member_over f) group.members) } in it) (option_twice group.selector)
      ∙ ap (λ members. let it : GroupOf R = record { key = group.key; selector = option_map h group.selector; members = members } in it) (members_twice group.members)

  config_twice : (config : List (GroupOf P)) → config_over g (config_over f config) ≡ config_over h config
  config_twice [] = refl
  config_twice (group ∷ config) = ap (λ it. it ∷ config_over g (config_over f config)) (group_twice group) ∙ ap (λ it. group_over h group ∷ it) (config_twice config)

-- the same programs make the same configuration
option_same : {P : Type 0} (option : Option P) → option_map (λ p. p) option ≡ option
option_same None = refl
option_same (Some p) = refl

members_same : {P : Type 0} (members : List (Member P)) → map (member_over (λ p. p)) members ≡ members
members_same [] = refl
members_same (member ∷ members) =
    ap (λ filter. (let it : Member _ = record { id = member.id; to = member.to; filter = filter; locked = member.locked } in it) ∷ map (member_over (λ p. p)) members) (option_same member.filter)
    ∙ ap (λ rest. member ∷ rest) (members_same members)

config_same : {P : Type 0} (config : List (GroupOf P)) → config_over (λ p. p) config ≡ config
config_same [] = refl
config_same {P} (group ∷ config) =
    ap (λ selector. (let it : GroupOf P = record { key = group.key; selector = selector; members = map (member_over (λ p. p)) group.members } in it) ∷ config_over (λ p. p) config) (option_same group.selector)
    ∙ ap (λ members. (let it : GroupOf P = record { key = group.key; selector = group.selector; members = members } in it) ∷ config_over (λ p. p) config) (members_same group.members)
    ∙ ap (λ rest. group ∷ rest) (config_same config)

agreeing_words : (text : TextConfig) (config : List Group) → Agrees text config → words_config config ≡ words_text text
agreeing_words text config (pairs, texts, programs) =
    ap words_config programs
    ∙ config_twice (λ both. both.program) words_of (λ both. both.loaded.words) (λ both. both.words) pairs
    ∙ sym (config_twice (λ both. both.loaded) (λ program. program.words) (λ both. both.loaded.words) (λ both. refl) pairs)
    ∙ ap words_text (sym texts)

-- what is made of the rules of a configuration has the words of its programs
pub file_words : AsksForOneThing → HasOneValue → (version : ℕ) (config made : List Group) → IsConfig config → IsConfigOf (rules_file version config) made →
    words_config made ≡ words_config config
file_words one_thing one_value version config made is (rules, makes, agrees) =
    let commands = commands_of (words_config config) in
    let fits = config_range config is.groups in
    let lines = file_lines version (length config) (members_of config) (charge_of config) commands fits in
    agreeing_words rules made agrees
    ∙ lines_lead IsProgramFor one_thing one_value commands 2 [] rules [] (words_config config) fits refl
    (rules_lead (words_config config) (shaped_over words_of config (shaped_config config is)))
    (subst (λ it. LeadBy IsProgramFor [] it rules) lines makes.lead)

pub rules_make : RulesMakeTheirConfig
rules_make version config is =
    let commands = commands_of (words_config config) in
    let fits = config_range config is.groups in
    let lines = file_lines version (length config) (members_of config) (charge_of config) commands fits in (
      loaded_text (words_config config),
      subst (λ it. LeadBy IsProgramFor [] it (loaded_text (words_config config))) (sym lines)
          (lines_do IsProgramFor commands 2 [] (words_config config) fits (rules_lead (words_config config) (shaped_over words_of config (shaped_config config is)))),
      config_twice loaded_of (λ program. program.words) (λ words. words) (λ words. refl) (words_config config) ∙ config_same (words_config config),
    )

pub nothing_else : AsksForOneThing → HasOneValue → RulesMakeNothingElse
nothing_else one_thing one_value version config made is makes = file_words one_thing one_value version config made is makes
