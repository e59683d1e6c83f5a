-- A line has one answer, but for what the operator has to say.
use Rattle.std.proofs.Common.{◌≡◌, ◌∙◌, ◌∷◌, ◌++◌, List, None, Option, Some, [], ap, arith, inl, inr, length, map, refl, subst, sym, ℕ}
use Rattle.std.specs.Prelude.{IfSome}
use Rattle.std.specs.Option.{option_map}
use Rattle.std.proofs.lemmas.List.{length-map}
use Rattle.member_group.specs.Charge.{charge_by, members_of}
use Rattle.member_group.specs.Group.{GroupOf}
use Rattle.member_group.specs.declared.member.Member.{Member}
use Rattle.retire.specs.declared.fault.PublishFault.TheVariants.{Busy}
use Rattle.member_group.specs.Refusal.{first_refusal}
use Rattle.member_group.specs.Command.{after}
use Rattle.member_group.specs.declared.command.Command.{Command}
use Rattle.member_group.specs.declared.command.Command.TheVariants.{AddGroup, ClearFilter, ClearSelector, Join, Leave, LockFilter, RemoveGroup, SetFilter, SetSelector}
use Rattle.member_group.specs.declared.refusal.Refusal.{Refusal}
use Rattle.control_line.specs.declared.reason.Reason.{Reason}
use Rattle.control_line.specs.declared.reason.Reason.TheVariants as reason
use Rattle.control_line.specs.declared.reply.LineAnswer.{LineAnswer}
use Rattle.control_line.specs.declared.reply.LineAnswer.TheVariants.{LineRefused, Published, Refused, Shown, Swept}
use Rattle.control_line.specs.declared.reason.Reason.TheVariants.{Publishing}
use Rattle.filter_tree.specs.Tree.{Tree}
use Rattle.control_line.specs.Agrees.{AreWordsOf, Compiler, IsLoadedBy, LoadedProgram, TextConfig}
use Rattle.control_line.specs.Reading.{Reading, reading_answer}
use Rattle.control_line.specs.Answer.{AnswersBy, AnswersMessageBy, AreOne, ChangesBy, ChangesTogetherBy, HasOneAnswer, HasOneAnswerBy, IsDoneBy, IsOperatorsChoice, LeadBy, LeadsToBy, MeansBy, NumberedLine, PublishesText, RefusesBy, RefusesLineBy, all_made, bad_change, bad_form, bad_text, busy, by_function, changed, changed_at, changed_together, charge_of_text, config_at, exhausted, line_refused, is_made, long, no_change, no_line, not_made, numbered, one_more, other_version, program_in, published, refused, replied, shown, swept, too_big, too_long, was_read}
use Rattle.control_line.specs.Block.{Message, SpellsMessage}
use Rattle.control_line.specs.declared.head.Start.{Start}
use Rattle.control_line.specs.declared.head.Start.TheVariants.{Current, Empty}
use Rattle.control_line.specs.Reason.{IsRefusalOfText, reason_of_text}
use Rattle.filter_program.specs.Program.{IsMeaningOf, IsProgramFor, TextProgram, of_tree, of_words, text_charge}
use Rattle.filter_program.specs.Program.{Source}
use Rattle.control_line.specs.Request.{Spells, change, read}
use Rattle.filter_program.specs.Fault.{HasNotBoth, HasOneFault, HasOneProgram}
use Rattle.control_line.proofs.OneLineLemmas.{one_thing}
use Rattle.control_line.proofs.OneMessageLemmas.{one_message}
use Rattle.member_group.proofs.OverLemmas.{after-over, charge_by-over, first_refusal-over, members_of-over}
use Rattle.member_group.specs.Over.{command_over, config_over, group_over, member_over}

-- ---- texts

-- what holds of the texts of programs
pub record TextLaws : Type 0 where
  pub one_program : HasOneProgram
  pub one_fault : HasOneFault
  pub not_both : HasNotBoth

one_refusal_of_text : TextLaws → (source : Source) (one other : Reason) → IsRefusalOfText source one → IsRefusalOfText source other → one ≡ other
one_refusal_of_text laws source one other is also =
    let both : Some one ≡ Some other = sym is.2 ∙ ap reason_of_text (laws.one_fault source is.0 also.0 is.1 also.1) ∙ also.2 in cc

-- ---- the command that the texts make

not_at_fault : TextLaws → (by : Compiler) (command : Command Source) (made : Command LoadedProgram) (source : Source) (why : Reason) → MeansBy by command made → program_in command ≡ Some source → IsRefusalOfText source why → ⊥
not_at_fault laws by (AddGroup key) made source why means has fault = absurd (cc)
not_at_fault laws by (RemoveGroup key) made source why means has fault = absurd (cc)
not_at_fault laws by (Join key id to) made source why means has fault = absurd (cc)
not_at_fault laws by (Leave key id) made source why means has fault = absurd (cc)
not_at_fault laws by (SetSelector key text) made source why means has fault =
    let same : text ≡ source = cc in laws.not_both source means.0.text fault.0 (subst (λ s. IsMeaningOf s means.0.text) same means.1.means) fault.1
not_at_fault laws by (ClearSelector key) made source why means has fault = absurd (cc)
not_at_fault laws by (SetFilter key id text) made source why means has fault =
    let same : text ≡ source = cc in laws.not_both source means.0.text fault.0 (subst (λ s. IsMeaningOf s means.0.text) same means.1.means) fault.1
not_at_fault laws by (ClearFilter key id) made source why means has fault = absurd (cc)
not_at_fault laws by (LockFilter key id) made source why means has fault = absurd (cc)

one_bad : TextLaws → (command : Command Source) (source other : Source) (why also : Reason) → program_in command ≡ Some source → IsRefusalOfText source why → program_in command ≡ Some other → IsRefusalOfText other also → why ≡ also
one_bad laws command source other why also has fault has_too fault_too =
    let found : Some source ≡ Some other = sym has ∙ has_too in
    let same : source ≡ other = cc in
    one_refusal_of_text laws other why also (subst (λ s. IsRefusalOfText s why) same fault) fault_too

-- ---- two answers

same_command : (line : List ℕ) (one other : Command Source) → Spells line (change one) → Spells line (change other) → one ≡ other
same_command line one other spells also = let same = one_thing line (change one) (change other) spells also in cc

-- what is seen of programs: enough to know their charge; and two compilers, whose programs of one text are seen alike
module _ (laws : TextLaws) {V : Type 0} (view : LoadedProgram → V) (weight : V → ℕ) (weighs : (program : LoadedProgram) → weight (view program) ≡ text_charge program.text) (by by' : Compiler)
    (one_view : (source : Source) (one other : LoadedProgram) → IsLoadedBy by source one → IsLoadedBy by' source other → view one ≡ view other) where
  abbrev AreAlike : TextConfig → TextConfig → Type 0
  AreAlike config config' = config_over view config ≡ config_over view config'

  one_made : (command : Command Source) (one other : Command LoadedProgram) → MeansBy by command one → MeansBy by' command other → command_over view one ≡ command_over view other
  one_made (AddGroup key) one other means also = ap (command_over view) (means ∙ sym also)
  one_made (RemoveGroup key) one other means also = ap (command_over view) (means ∙ sym also)
  one_made (Join key id to) one other means also = ap (command_over view) (means ∙ sym also)
  one_made (Leave key id) one other means also = ap (command_over view) (means ∙ sym also)
  one_made (SetSelector key source) one other means also =
      ap (command_over view) means.2 ∙ ap (SetSelector key) (one_view source means.0 also.0 means.1 also.1) ∙ sym (ap (command_over view) also.2)
  one_made (ClearSelector key) one other means also = ap (command_over view) (means ∙ sym also)
  one_made (SetFilter key id source) one other means also =
      ap (command_over view) means.2 ∙ ap (SetFilter key id) (one_view source means.0 also.0 means.1 also.1) ∙ sym (ap (command_over view) also.2)
  one_made (ClearFilter key id) one other means also = ap (command_over view) (means ∙ sym also)
  one_made (LockFilter key id) one other means also = ap (command_over view) (means ∙ sym also)

  charge_seen : (config : TextConfig) → charge_of_text config ≡ charge_by weight (config_over view config)
  charge_seen config = sym (charge_by-over view weight (λ program. text_charge program.text) weighs config)

  same_charge : (config config' : TextConfig) → AreAlike config config' → charge_of_text config ≡ charge_of_text config'
  same_charge config config' alike = charge_seen config ∙ ap (charge_by weight) alike ∙ sym (charge_seen config')

  module _ (version : ℕ) (config config' : TextConfig) (alike : AreAlike config config') where
    module _ (command : Command Source) where
      same_first : (made other : Command LoadedProgram) → MeansBy by command made → MeansBy by' command other → first_refusal made config ≡ first_refusal other config'
      same_first made other means also =
          sym (first_refusal-over view made config)
          ∙ ap (λ m. first_refusal m (config_over view config)) (one_made command made other means also)
          ∙ ap (first_refusal (command_over view other)) alike
          ∙ first_refusal-over view other config'

      one_next : (next also : TextConfig) → LeadsToBy by config command next → LeadsToBy by' config' command also → AreAlike next also
      one_next next also leads other =
          ap (config_over view) leads.is
          ∙ sym (after-over view leads.made config)
          ∙ ap (λ m. after m (config_over view config)) (one_made command leads.made other.made leads.means other.means)
          ∙ ap (after (command_over view other.made)) alike
          ∙ after-over view other.made config'
          ∙ ap (config_over view) (sym other.is)

      first_not_refused : (made : Command LoadedProgram) (refusal : Refusal) (next : TextConfig) → MeansBy by command made → first_refusal made config ≡ Some refusal → LeadsToBy by' config' command next → ⊥
      first_not_refused made refusal next means first leads =
          let none : Some refusal ≡ None = sym first ∙ same_first made leads.made means leads.means ∙ leads.applied in absurd (cc)

      then_not_refused : (made : Command LoadedProgram) (refusal : Refusal) (next : TextConfig) → MeansBy by' command made → first_refusal made config' ≡ Some refusal → LeadsToBy by config command next → ⊥
      then_not_refused made refusal next means first leads =
          let none : Some refusal ≡ None = sym first ∙ sym (same_first leads.made made leads.means means) ∙ leads.applied in absurd (cc)

      one_refusal : (made other : Command LoadedProgram) (refusal also : Refusal) → MeansBy by command made → first_refusal made config ≡ Some refusal → MeansBy by' command other → first_refusal other config' ≡ Some also → refusal ≡ also
      one_refusal made other refusal also means first means_too first_too =
          let both : Some refusal ≡ Some also = sym first ∙ same_first made other means means_too ∙ first_too in cc

      one_fault : (one other : Reason) → RefusesBy by config command one → RefusesBy by' config' command other → one ≡ other
      one_fault _ _ (bad_text source why has fault) (bad_text source' why' has' fault') = one_bad laws command source source' why why' has fault has' fault'
      one_fault _ _ (bad_text source why has fault) (refused made' refusal' means' first') = absurd (not_at_fault laws by' command made' source why means' has fault)
      one_fault _ _ (refused made refusal means first) (bad_text source' why' has' fault') = absurd (not_at_fault laws by command made source' why' means has' fault')
      one_fault _ _ (refused made refusal means first) (refused made' refusal' means' first') = ap reason.Command (one_refusal made made' refusal refusal' means first means' first')

      fault_not_done : (why : Reason) (next : TextConfig) → RefusesBy by config command why → LeadsToBy by' config' command next → ⊥
      fault_not_done _ next (bad_text source why has fault) leads = not_at_fault laws by' command leads.made source why leads.means has fault
      fault_not_done _ next (refused made refusal means first) leads = first_not_refused made refusal next means first leads

      done_not_fault : (why : Reason) (next : TextConfig) → LeadsToBy by config command next → RefusesBy by' config' command why → ⊥
      done_not_fault _ next leads (bad_text source why has fault) = not_at_fault laws by command leads.made source why leads.means has fault
      done_not_fault _ next leads (refused made refusal means first) = then_not_refused made refusal next means first leads

    -- what is published of configurations that are alike
    one_publication : (next next' : TextConfig) → AreAlike next next' → (one other : LineAnswer) (left also : TextConfig) → PublishesText version config next one left → PublishesText version config' next' other also → AreOne AreAlike one left other also
    one_publication next next' same _ _ _ _ (too_big big) (too_big big') = inl (refl, alike)
    one_publication next next' same _ _ _ _ (too_big big) (exhausted small' last') = let charge = same_charge next next' same in absurd (omega arith)
    one_publication next next' same _ _ _ _ (too_big big) (busy small' left') = let charge = same_charge next next' same in absurd (omega arith)
    one_publication next next' same _ _ _ _ (too_big big) (published small' left') = let charge = same_charge next next' same in absurd (omega arith)
    one_publication next next' same _ _ _ _ (exhausted small last) (too_big big') = let charge = same_charge next next' same in absurd (omega arith)
    one_publication next next' same _ _ _ _ (exhausted small last) (exhausted small' last') = inl (refl, alike)
    one_publication next next' same _ _ _ _ (exhausted small last) (busy small' left') = absurd (left' last)
    one_publication next next' same _ _ _ _ (exhausted small last) (published small' left') = absurd (left' last)
    one_publication next next' same _ _ _ _ (busy small left) (too_big big') = let charge = same_charge next next' same in absurd (omega arith)
    one_publication next next' same _ _ _ _ (busy small left) (exhausted small' last') = absurd (left last')
    one_publication next next' same _ _ _ _ (busy small left) (busy small' left') = inl (refl, alike)
    one_publication next next' same _ _ _ _ (busy small left) (published small' left') = inr tt
    one_publication next next' same _ _ _ _ (published small left) (too_big big') = let charge = same_charge next next' same in absurd (omega arith)
    one_publication next next' same _ _ _ _ (published small left) (exhausted small' last') = absurd (left last')
    one_publication next next' same _ _ _ _ (published small left) (busy small' left') = inr tt
    one_publication next next' same _ _ _ _ (published small left) (published small' left') = inl (refl, same)

    one_change : (command : Command Source) (one other : LineAnswer) (next also : TextConfig) → ChangesBy by version config command one next → ChangesBy by' version config' command other also → AreOne AreAlike one next other also
    one_change command _ _ _ _ (not_made why fault) (not_made why' fault') = inl (ap Refused (one_fault command why why' fault fault'), alike)
    one_change command _ _ _ _ (not_made why fault) (is_made next' answer' left' leads' publishes') = absurd (fault_not_done command why next' fault leads')
    one_change command _ _ _ _ (is_made next answer left leads publishes) (not_made why' fault') = absurd (done_not_fault command why' next leads fault')
    one_change command _ _ _ _ (is_made next answer left leads publishes) (is_made next' answer' left' leads' publishes') =
        one_publication next next' (one_next command next next' leads leads') answer answer' left left' publishes publishes'

  -- ---- several lines

  one_done : (config config' : TextConfig) → AreAlike config config' → (line : List ℕ) (next also : TextConfig) → IsDoneBy by config line next → IsDoneBy by' config' line also → AreAlike next also
  one_done config config' alike line next also done done' =
      one_next 0 config config' alike done'.command next also (subst (λ c. LeadsToBy by config c next) (same_command line done.command done'.command done.spells done'.spells) done.leads) done'.leads

  line_not_both : (config config' : TextConfig) → AreAlike config config' → (line : List ℕ) (why : Reason) (next : TextConfig) → RefusesLineBy by config line why → IsDoneBy by' config' line next → ⊥
  line_not_both config config' alike line _ next (long above) done = let short = done.short in omega arith
  line_not_both config config' alike line _ next (no_change short none) done = none done.command done.spells
  line_not_both config config' alike line _ next (bad_change command why short spells fault) done =
      fault_not_done 0 config config' alike done.command why next (subst (λ c. RefusesBy by config c why) (same_command line command done.command spells done.spells) fault) done.leads

  line_not_both_then : (config config' : TextConfig) → AreAlike config config' → (line : List ℕ) (why : Reason) (next : TextConfig) → IsDoneBy by config line next → RefusesLineBy by' config' line why → ⊥
  line_not_both_then config config' alike line _ next done (long above) = let short = done.short in omega arith
  line_not_both_then config config' alike line _ next done (no_change short none) = none done.command done.spells
  line_not_both_then config config' alike line _ next done (bad_change command why short spells fault) =
      done_not_fault 0 config config' alike command why next (subst (λ c. LeadsToBy by config c next) (same_command line done.command command done.spells spells) done.leads) fault

  one_line_fault : (config config' : TextConfig) → AreAlike config config' → (line : List ℕ) (why other : Reason) → RefusesLineBy by config line why → RefusesLineBy by' config' line other → why ≡ other
  one_line_fault config config' alike line _ _ (long above) (long above') = refl
  one_line_fault config config' alike line _ _ (long above) (no_change short' none') = absurd (omega arith)
  one_line_fault config config' alike line _ _ (long above) (bad_change command' why' short' spells' fault') = absurd (omega arith)
  one_line_fault config config' alike line _ _ (no_change short none) (long above') = absurd (omega arith)
  one_line_fault config config' alike line _ _ (no_change short none) (no_change short' none') = refl
  one_line_fault config config' alike line _ _ (no_change short none) (bad_change command' why' short' spells' fault') = absurd (none command' spells')
  one_line_fault config config' alike line _ _ (bad_change command why short spells fault) (long above') = absurd (omega arith)
  one_line_fault config config' alike line _ _ (bad_change command why short spells fault) (no_change short' none') = absurd (none' command spells)
  one_line_fault config config' alike line _ _ (bad_change command why short spells fault) (bad_change command' why' short' spells' fault') =
      one_fault 0 config config' alike command' why why' (subst (λ c. RefusesBy by config c why) (same_command line command command' spells spells') fault) fault'

  one_lead : (lines : List NumberedLine) (config config' : TextConfig) → AreAlike config config' → (last also : TextConfig) → LeadBy by config lines last → LeadBy by' config' lines also → AreAlike last also
  one_lead _ _ _ alike _ _ (no_line config) (no_line config') = alike
  one_lead _ _ _ alike _ _ (one_more config line rest next last done lead) (one_more config' line' rest' next' last' done' lead') =
      one_lead rest next next' (one_done config config' alike line.text next next' done done') last last' lead lead'

  -- all lines are done, or the first that is not is the same
  lead_not_refused : (earlier later : List NumberedLine) (line : NumberedLine) (why : Reason) (config config' : TextConfig) → AreAlike config config' → (mid last : TextConfig)
      → LeadBy by config earlier mid → RefusesLineBy by mid line.text why → LeadBy by' config' (earlier ++ line ∷ later) last → ⊥
  lead_not_refused _ later line why _ _ alike _ _ (no_line config) fault (one_more config' line' rest' next' last' done' lead') = line_not_both config config' alike line.text why next' fault done'
  lead_not_refused _ later line why _ _ alike _ _ (one_more config first rest next mid done lead) fault (one_more config' line' rest' next' last' done' lead') =
      lead_not_refused rest later line why next next' (one_done config config' alike first.text next next' done done') mid last' lead fault lead'

  refused_not_lead : (earlier later : List NumberedLine) (line : NumberedLine) (why : Reason) (config config' : TextConfig) → AreAlike config config' → (mid last : TextConfig)
      → LeadBy by' config' earlier mid → RefusesLineBy by' mid line.text why → LeadBy by config (earlier ++ line ∷ later) last → ⊥
  refused_not_lead _ later line why _ _ alike _ _ (no_line config') fault (one_more config line' rest' next' last' done' lead') = line_not_both_then config config' alike line.text why next' done' fault
  refused_not_lead _ later line why _ _ alike _ _ (one_more config' first rest next mid done lead) fault (one_more config line' rest' next' last' done' lead') =
      refused_not_lead rest later line why next' next (one_done config config' alike first.text next' next done' done) mid last' lead fault lead'

  one_first : (earlier earlier' later later' : List NumberedLine) (line line' : NumberedLine) (why why' : Reason) (config config' : TextConfig) → AreAlike config config' → (mid mid' : TextConfig)
      → LeadBy by config earlier mid → RefusesLineBy by mid line.text why → LeadBy by' config' earlier' mid' → RefusesLineBy by' mid' line'.text why' → earlier ++ line ∷ later ≡ earlier' ++ line' ∷ later' → (line ≡ line') × (why ≡ why')
  one_first _ _ later later' line line' why why' _ _ alike _ _ (no_line config) fault (no_line config') fault' same =
      let first : line ≡ line' = cc in
      (first, one_line_fault config config' alike line'.text why why' (subst (λ (l : NumberedLine). RefusesLineBy by config l.text why) first fault) fault')
  one_first _ _ later later' line line' why why' _ _ alike _ _ (no_line config) fault (one_more config' first' rest' next' mid' done' lead') fault' same =
      let first : line ≡ first' = cc in
      absurd (line_not_both config config' alike first'.text why next' (subst (λ (l : NumberedLine). RefusesLineBy by config l.text why) first fault) done')
  one_first _ _ later later' line line' why why' _ _ alike _ _ (one_more config first rest next mid done lead) fault (no_line config') fault' same =
      let is : first ≡ line' = cc in
      absurd (line_not_both_then config config' alike line'.text why' next (subst (λ (l : NumberedLine). IsDoneBy by config l.text next) is done) fault')
  one_first _ _ later later' line line' why why' _ _ alike _ _ (one_more config first rest next mid done lead) fault (one_more config' first' rest' next' mid' done' lead') fault' same =
      let is : first ≡ first' = cc in
      let behind : rest ++ line ∷ later ≡ rest' ++ line' ∷ later' = cc in
      one_first rest rest' later later' line line' why why' next next' (one_done config config' alike first'.text next next' (subst (λ (l : NumberedLine). IsDoneBy by config l.text next) is done) done') mid mid' lead fault lead' fault' behind

  starts_alike : (start : Start) (config config' : TextConfig) → AreAlike config config' → AreAlike (config_at start config) (config_at start config')
  starts_alike Current config config' alike = alike
  starts_alike Empty config config' alike = refl

  one_together : (version : ℕ) (config config' : TextConfig) → AreAlike config config' → (start : Start) (lines : List (List ℕ)) (one other : LineAnswer) (next also : TextConfig)
      → ChangesTogetherBy by version config start lines one next → ChangesTogetherBy by' version config' start lines other also → AreOne AreAlike one next other also
  one_together version config config' alike start lines _ _ _ _ (line_refused number why first) (line_refused number' why' first') =
      let same = one_first first.earlier first'.earlier first.later first'.later first.line first'.line why why' (config_at start config) (config_at start config') (starts_alike start config config' alike) first.mid first'.mid
      first.lead first.refused first'.lead first'.refused (sym first.all ∙ first'.all) in
      let numbers : number ≡ number' = first.number_is ∙ ap (λ (l : NumberedLine). l.number) same.0 ∙ sym first'.number_is in
      inl (ap (λ n. LineRefused n why) numbers ∙ ap (LineRefused number') same.1, alike)
  one_together version config config' alike start lines _ _ _ _ (line_refused number why first) (all_made next' answer' left' lead' publishes') =
      absurd (lead_not_refused first.earlier first.later first.line why (config_at start config) (config_at start config') (starts_alike start config config' alike) first.mid next' first.lead first.refused (subst (λ ls. LeadBy by' (config_at start config') ls next') first.all lead'))
  one_together version config config' alike start lines _ _ _ _ (all_made next answer left lead publishes) (line_refused number' why' first') =
      absurd (refused_not_lead first'.earlier first'.later first'.line why' (config_at start config) (config_at start config') (starts_alike start config config' alike) first'.mid next first'.lead first'.refused (subst (λ ls. LeadBy by (config_at start config) ls next) first'.all lead))
  one_together version config config' alike start lines _ _ _ _ (all_made next answer left lead publishes) (all_made next' answer' left' lead' publishes') =
      one_publication version config config' alike next next' (one_lead (numbered 1 lines) (config_at start config) (config_at start config') (starts_alike start config config' alike) next next' lead lead') answer answer' left left' publishes publishes'

  -- ---- requests

  module _ (version : ℕ) (config config' : TextConfig) (alike : AreAlike config config') where
    module _ (line : List ℕ) (reads : (reading : Reading) → Spells line (read reading) → reading_answer (λ program. program.words) version config reading ≡ reading_answer (λ program. program.words) version config' reading) where
      same_shown : Shown version (length config) (members_of config) (charge_of_text config) ≡ Shown version (length config') (members_of config') (charge_of_text config')
      same_shown =
          let groups : length config ≡ length config' = sym (length-map config (group_over view)) ∙ ap length alike ∙ length-map config' (group_over view) in
          let members : members_of config ≡ members_of config' = sym (members_of-over view config) ∙ ap members_of alike ∙ members_of-over view config' in
          ap (λ n. Shown version n (members_of config) (charge_of_text config)) groups
          ∙ ap (λ n. Shown version (length config') n (charge_of_text config)) members
          ∙ ap (Shown version (length config') (members_of config')) (same_charge config config' alike)

      one_message_answer : (message : Message) → SpellsMessage line message → (one other : LineAnswer) (next also : TextConfig) → AnswersMessageBy by version config message one next → AnswersMessageBy by' version config' message other also → AreOne AreAlike one next other also
      one_message_answer message spells _ _ _ _ (other_version _ wanted is other) (other_version _ wanted' is' other') = inl (refl, alike)
      one_message_answer message spells _ _ _ _ (other_version _ wanted is other) (changed command' answer' next' done') = absurd (cc)
      one_message_answer message spells _ _ _ _ (other_version _ wanted is other) (changed_at v' command' answer' next' at' done') = let same : wanted ≡ version = cc in absurd (other same)
      one_message_answer message spells _ _ _ _ (other_version _ wanted is other) (changed_together head' lines' answer' next' meant' done') = absurd (other (subst (λ v. IfSome v (λ w. w ≡ version)) is meant'))
      one_message_answer message spells _ _ _ _ (other_version _ wanted is other) shown = absurd (cc)
      one_message_answer message spells _ _ _ _ (other_version _ wanted is other) (was_read reading') = absurd (cc)
      one_message_answer message spells _ _ _ _ (other_version _ wanted is other) (swept reclaimed') = absurd (cc)
      one_message_answer message spells _ _ _ _ (changed command answer next done) (other_version _ wanted' is' other') = absurd (cc)
      one_message_answer message spells _ _ _ _ (changed command answer next done) (changed command' answer' next' done') = one_change version config config' alike command answer answer' next next' done done'
      one_message_answer message spells _ _ _ _ (changed_at v command answer next at done) (other_version _ wanted' is' other') = let same : wanted' ≡ version = cc in absurd (other' same)
      one_message_answer message spells _ _ _ _ (changed_at v command answer next at done) (changed_at v' command' answer' next' at' done') = one_change version config config' alike command answer answer' next next' done done'
      one_message_answer message spells _ _ _ _ (changed_together head lines answer next meant done) (other_version _ wanted' is' other') = absurd (other' (subst (λ v. IfSome v (λ w. w ≡ version)) is' meant))
      one_message_answer message spells _ _ _ _ (changed_together head lines answer next meant done) (changed_together head' lines' answer' next' meant' done') = one_together version config config' alike head.start lines answer answer' next next' done done'
      one_message_answer message spells _ _ _ _ shown (other_version _ wanted' is' other') = absurd (cc)
      one_message_answer message spells _ _ _ _ shown shown = inl (same_shown, alike)
      one_message_answer message spells _ _ _ _ (was_read reading) (other_version _ wanted' is' other') = absurd (cc)
      one_message_answer message spells _ _ _ _ (was_read reading) (was_read reading') = inl (reads reading spells, alike)
      one_message_answer message spells _ _ _ _ (swept reclaimed) (other_version _ wanted' is' other') = absurd (cc)
      one_message_answer message spells _ _ _ _ (swept reclaimed) (swept reclaimed') = inr alike

      pub two_answers : (one other : LineAnswer) (next also : TextConfig) → AnswersBy by version config line one next → AnswersBy by' version config' line other also → AreOne AreAlike one next other also
      two_answers _ _ _ _ (too_long above) (too_long above') = inl (refl, alike)
      two_answers _ _ _ _ (too_long above) (bad_form short' none') = absurd (short' above)
      two_answers _ _ _ _ (too_long above) (replied message' answer' n' short' spells' done') = absurd (short' above)
      two_answers _ _ _ _ (bad_form short none) (too_long above') = absurd (short above')
      two_answers _ _ _ _ (bad_form short none) (bad_form short' none') = inl (refl, alike)
      two_answers _ _ _ _ (bad_form short none) (replied message' answer' n' short' spells' done') = absurd (none message' spells')
      two_answers _ _ _ _ (replied message answer n short spells done) (too_long above') = absurd (short above')
      two_answers _ _ _ _ (replied message answer n short spells done) (bad_form short' none') = absurd (none' message spells)
      two_answers _ _ _ _ (replied message answer n short spells done) (replied message' answer' n' short' spells' done') =
          one_message_answer message' spells' answer answer' n n' (subst (λ m. AnswersMessageBy by version config m answer n) (one_message line message message' spells spells') done) done'

-- ---- lines that do not read, whatever the compiler

pub one_answer : TextLaws → HasOneAnswer
one_answer laws version config config' line one other next also alike silent answers answers' =
    two_answers laws (λ program. program.text) text_charge (λ program. refl) IsProgramFor IsProgramFor (λ source p q is also. laws.one_program source p.text q.text is.means also.means)
    version config config' alike line (λ reading spells. absurd (silent reading spells)) one other next also answers answers'

-- ---- all lines, if expressions are compiled by a function

module _ {P : Type 0} where
  option-same : (program : Option P) → option_map (λ p. p) program ≡ program
  option-same None = refl
  option-same (Some program) = refl

  members-same : (members : List (Member P)) → map (member_over (λ p. p)) members ≡ members
  members-same [] = refl
  members-same (member ∷ members) =
      ap (λ filter. record { id = member.id; to = member.to; filter = filter; locked = member.locked } ∷ map (member_over (λ p. p)) members) (option-same member.filter)
      ∙ ap (λ rest. member ∷ rest) (members-same members)

  config-same : (config : List (GroupOf P)) → config_over (λ p. p) config ≡ config
  config-same [] = refl
  config-same (group ∷ config) =
      ap (λ selector. record { key = group.key; selector = selector; members = map (member_over (λ p. p)) group.members } ∷ config_over (λ p. p) config) (option-same group.selector)
      ∙ ap (λ members. record { key = group.key; selector = group.selector; members = members } ∷ config_over (λ p. p) config) (members-same group.members)
      ∙ ap (λ rest. group ∷ rest) (config-same config)

module _ (compiled : Tree → List ℕ) where
  same_words : (text : TextProgram) (one other : List ℕ) → AreWordsOf (by_function compiled) text one → AreWordsOf (by_function compiled) text other → one ≡ other
  same_words (of_words words) one other is also = is ∙ sym also
  same_words (of_tree tree) one other is also = is ∙ sym also

  one_loaded : TextLaws → (source : Source) (one other : LoadedProgram) → IsLoadedBy (by_function compiled) source one → IsLoadedBy (by_function compiled) source other → one ≡ other
  one_loaded laws source one other is also =
      let text = laws.one_program source one.text other.text is.means also.means in
      let words = same_words other.text one.words other.words (subst (λ t. AreWordsOf (by_function compiled) t one.words) text is.words) also.words in
      ap (λ t. record { text = t; words = one.words }) text ∙ ap (λ w. record { text = other.text; words = w }) words

abbrev AreSeenAlike : TextConfig → TextConfig → Type 0
AreSeenAlike config config' = config_over (λ p. p) config ≡ config_over (λ p. p) config'

are_same : (config config' : TextConfig) → AreSeenAlike config config' → config ≡ config'
are_same config config' alike = sym (config-same config) ∙ alike ∙ config-same config'

same_choice : (one other : LineAnswer) (next also : TextConfig) → IsOperatorsChoice AreSeenAlike one next other also → IsOperatorsChoice (λ config config'. config ≡ config') one next other also
same_choice (Published version) (Refused (Publishing Busy)) next also choice = tt
same_choice (Refused (Publishing Busy)) (Published version) next also choice = tt
same_choice (Swept one) (Swept other) next also choice = are_same next also choice
same_choice _ _ next also choice = absurd choice

pub one_answer_by : TextLaws → HasOneAnswerBy
one_answer_by laws compiled version config line one other next also answers answers' = as_one
    (two_answers laws (λ program. program) (λ program. text_charge program.text) (λ program. refl) (by_function compiled) (by_function compiled) (one_loaded compiled laws)
    version config config refl line (λ reading spells. refl) one other next also answers answers')
  where
    as_one : AreOne AreSeenAlike one next other also → AreOne (λ config config'. config ≡ config') one next other also
    as_one (inl both) = inl (both.0, are_same next also both.1)
    as_one (inr choice) = inr (same_choice one other next also choice)
