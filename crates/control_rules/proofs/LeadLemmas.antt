-- The lines of commands, as a rules file has them, do what the commands do.
use Rattle.std.proofs.Common.{◌≡◌, ◌∙◌, ◌∷◌, List, [], ap, refl, subst, suc, sym, ℕ}
use Rattle.member_group.specs.Command.{after}
use Rattle.member_group.specs.Group.{GroupOf}
use Rattle.member_group.specs.Over.{command_over, config_over}
use Rattle.member_group.specs.declared.command.Command.{Command}
use Rattle.member_group.specs.declared.command.Command.TheVariants.{AddGroup, ClearFilter, ClearSelector, Join, Leave, LockFilter, RemoveGroup, SetFilter, SetSelector}
use Rattle.member_group.proofs.OverLemmas.{after-over, first_refusal-over}
use Rattle.bpf_asm.specs.Assembly.{HasOneValue}
use Rattle.bpf_asm.specs.Text.{printed_in_line}
use Rattle.bpf_asm.proofs.ProgramLemmas.{line_reads_back}
use Rattle.bpf_verify.specs.Accepted.{IsAccepted}
use Rattle.filter_program.specs.Program.{IsMeaningOf, TextProgram, assembly, of_tree, of_words}
use Rattle.config_diff.specs.Lead.{LeadTo}
use Rattle.control_line.specs.Agrees.{AreWordsOf, Compiler, IsLoadedBy, LoadedProgram, TextConfig}
use Rattle.control_line.specs.Answer.{LeadBy, MeansBy, NumberedLine, no_line, one_more}
use Rattle.control_line.specs.Request.{AsksForOneThing, change}
use Rattle.control_rules.specs.Text.{change_text}
use Rattle.control_rules.proofs.LengthLemmas.{change_short}
use Rattle.control_rules.proofs.TextLemmas.{IsInRange, asked_of, change_spells}

abbrev words_of : LoadedProgram → List ℕ
words_of program = program.words

abbrev pub words_text : TextConfig → List (GroupOf (List ℕ))
words_text config = config_over words_of config

-- a program that is loaded from printed words has these words
loaded_words : (by : Compiler) → HasOneValue → (words : List ℕ) (program : LoadedProgram) → IsAccepted words →
    IsLoadedBy by (assembly (printed_in_line words)) program → program.words ≡ words
loaded_words by one_value words program accepted loaded = by_text program.text loaded.means loaded.words
  where
    by_text : (text : TextProgram) → IsMeaningOf (assembly (printed_in_line words)) text → AreWordsOf by text program.words → program.words ≡ words
    by_text (of_words other) means are = are ∙ one_value (printed_in_line words) other words means.assembled (line_reads_back words accepted)
    by_text (of_tree tree) means are = absurd means

-- and this is one
abbrev pub loaded_of : List ℕ → LoadedProgram
loaded_of words = record { text = of_words words; words = words }

loaded_is : (by : Compiler) (words : List ℕ) → IsAccepted words → IsLoadedBy by (assembly (printed_in_line words)) (loaded_of words)
loaded_is by words accepted = record { means = record { assembled = line_reads_back words accepted; accepted = accepted }; words = refl }

-- ---- commands

abbrev made_of : Command (List ℕ) → Command LoadedProgram
made_of command = command_over loaded_of command

made_words : (command : Command (List ℕ)) → command_over words_of (made_of command) ≡ command
made_words (AddGroup key) = refl
made_words (RemoveGroup key) = refl
made_words (Join key id to) = refl
made_words (Leave key id) = refl
made_words (SetSelector key words) = refl
made_words (ClearSelector key) = refl
made_words (SetFilter key id words) = refl
made_words (ClearFilter key id) = refl
made_words (LockFilter key id) = refl

made_means : (by : Compiler) (command : Command (List ℕ)) → IsInRange command → MeansBy by (asked_of command) (made_of command)
made_means by (AddGroup key) fits = refl
made_means by (RemoveGroup key) fits = refl
made_means by (Join key id to) fits = refl
made_means by (Leave key id) fits = refl
made_means by (SetSelector key words) fits = (loaded_of words, loaded_is by words fits.1, refl)
made_means by (ClearSelector key) fits = refl
made_means by (SetFilter key id words) fits = (loaded_of words, loaded_is by words fits.2, refl)
made_means by (ClearFilter key id) fits = refl
made_means by (LockFilter key id) fits = refl

-- whatever command the line makes, it has these words
means_words : (by : Compiler) → HasOneValue → (command : Command (List ℕ)) (made : Command LoadedProgram) → IsInRange command →
    MeansBy by (asked_of command) made → command_over words_of made ≡ command
means_words by one_value (AddGroup key) made fits means = ap (command_over words_of) means
means_words by one_value (RemoveGroup key) made fits means = ap (command_over words_of) means
means_words by one_value (Join key id to) made fits means = ap (command_over words_of) means
means_words by one_value (Leave key id) made fits means = ap (command_over words_of) means
means_words by one_value (SetSelector key words) made fits (program, loaded, is) =
    ap (command_over words_of) is ∙ ap (λ it. SetSelector key it) (loaded_words by one_value words program fits.1 loaded)
means_words by one_value (ClearSelector key) made fits means = ap (command_over words_of) means
means_words by one_value (SetFilter key id words) made fits (program, loaded, is) =
    ap (command_over words_of) is ∙ ap (λ it. SetFilter key id it) (loaded_words by one_value words program fits.2 loaded)
means_words by one_value (ClearFilter key id) made fits means = ap (command_over words_of) means
means_words by one_value (LockFilter key id) made fits means = ap (command_over words_of) means

-- ---- lines

-- the lines of commands, numbered from here on
abbrev pub lines_of : ℕ → List (Command (List ℕ)) → List NumberedLine
lines_of number [] = []
lines_of number (command ∷ commands) = record { number = number; text = change_text command } ∷ lines_of (suc number) commands

abbrev pub AllInRange : List (Command (List ℕ)) → Type 0
AllInRange [] = Unit {0}
AllInRange (command ∷ commands) = IsInRange command × AllInRange commands

-- what the lines make, whatever their programs are taken for, has the words that the commands lead to
pub lines_lead : (by : Compiler) → AsksForOneThing → HasOneValue → (commands : List (Command (List ℕ))) (number : ℕ) (first last : TextConfig) (from to : List (GroupOf (List ℕ))) →
    AllInRange commands → words_text first ≡ from → LeadTo commands from to → LeadBy by first (lines_of number commands) last → words_text last ≡ to
lines_lead by one_thing one_value [] number first _ from to fits is lead (no_line _) = is ∙ lead
lines_lead by one_thing one_value (command ∷ commands) number first last from to fits is lead (one_more _ _ _ next _ done rest) =
    let asks : change done.command ≡ change (asked_of command) = one_thing (change_text command) (change done.command) (change (asked_of command)) done.spells (change_spells command fits.0) in
    let same : done.command ≡ asked_of command = cc in
    let made = done.leads.made in
    let words = means_words by one_value command made fits.0 (subst (λ it. MeansBy by it made) same done.leads.means) in
    let then : words_text next ≡ after command from =
    ap words_text done.leads.is ∙ sym (after-over words_of made first) ∙ ap (λ it. after it (words_text first)) words ∙ ap (after command) is in
    lines_lead by one_thing one_value commands (suc number) next last (after command from) to fits.1 then lead.1 rest

-- and they lead there
abbrev pub loaded_text : List (GroupOf (List ℕ)) → TextConfig
loaded_text config = config_over loaded_of config

pub lines_do : (by : Compiler) (commands : List (Command (List ℕ))) (number : ℕ) (from to : List (GroupOf (List ℕ))) → AllInRange commands → LeadTo commands from to →
    LeadBy by (loaded_text from) (lines_of number commands) (loaded_text to)
lines_do by [] number from to fits lead = subst (λ it. LeadBy by (loaded_text from) [] (loaded_text it)) lead (no_line (loaded_text from))
lines_do by (command ∷ commands) number from to fits lead =
    one_more (loaded_text from) (record { number = number; text = change_text command }) (lines_of (suc number) commands) (loaded_text (after command from)) (loaded_text to)
    (record {
      command = asked_of command;
      short = change_short command fits.0;
      spells = change_spells command fits.0;
      leads = record {
        made = made_of command;
        means = made_means by command fits.0;
        applied = first_refusal-over loaded_of command from ∙ lead.0;
        is = sym (after-over loaded_of command from);
      };
    })
    (lines_do by commands (suc number) (after command from) to fits.1 lead.1)
