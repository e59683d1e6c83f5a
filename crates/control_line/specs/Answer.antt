-- The answer to a line, and the configuration that it leaves (docs/COMMANDS.md, "Control lines").
use Rattle.std.specs.Prelude.{◌≡◌, ◌+◌, ◌<◌, ◌≤◌, ◌++◌, ◌∷◌, ◌⊎◌, IfSome, List, None, Option, Some, [], codes, length, suc, ℕ}
use Rattle.member_group.specs.Charge.{charge_by, members_of}
use Rattle.member_group.specs.Command.{after}
use Rattle.member_group.specs.Refusal.{first_refusal}
use Rattle.member_group.specs.declared.command.Command.{Command}
use Rattle.member_group.specs.declared.command.Command.TheVariants.{AddGroup, ClearFilter, ClearSelector, Join, Leave, LockFilter, RemoveGroup, SetFilter, SetSelector}
use Rattle.member_group.specs.declared.refusal.Refusal.{Refusal}
use Rattle.member_group.specs.Over.{config_over}
use Rattle.config_image.specs.Image.{Group}
use Rattle.versions.specs.Free.{number_after}
use Rattle.versions.specs.declared.layout.TheConstants.{CHARGE_LIMIT, LAST_NUMBER}
use Rattle.versions.specs.declared.view.OperatorView.{OperatorView}
use Rattle.read_section.specs.Operator.{IsCurrent, OperatorValue}
use Rattle.read_section.specs.declared.operator.Reclaimed.{Reclaimed}
use Rattle.retire.specs.Publish.{IsBusy, Publishes}
use Rattle.retire.specs.Sweep.{Sweeps}
use Rattle.retire.specs.declared.fault.PublishFault.TheVariants.{Busy, Exhausted, TooBig}
use Rattle.filter_tree.specs.Tree.{Tree}
use Rattle.filter_program.specs.Program.{IsProgramFor, Source, text_charge}
use Rattle.control_line.specs.declared.TheConstants.{LINE_LIMIT}
use Rattle.control_line.specs.declared.head.Head.{Head}
use Rattle.control_line.specs.declared.head.Start.{Start}
use Rattle.control_line.specs.declared.head.Start.TheVariants.{Current, Empty}
use Rattle.control_line.specs.declared.reason.Reason.{Reason}
use Rattle.control_line.specs.declared.reason.Reason.TheVariants.{BadForm, LineTooLong, OtherVersion, Publishing}
use Rattle.control_line.specs.declared.reason.Reason.TheVariants as reason
use Rattle.control_line.specs.declared.reply.LineAnswer.{LineAnswer}
use Rattle.control_line.specs.declared.reply.LineAnswer.TheVariants.{GroupRead, LineRefused, MemberRead, PacketJudged, PacketMalformed, Published, Refused, Shown, Swept, WordsRead}
use Rattle.control_line.specs.Agrees.{AgreesNow, Compiler, IsLoadedBy, LoadedProgram, TextConfig}
use Rattle.control_line.specs.Block.{IsTooLong, Message, SpellsMessage, block, for_version, single, wanted_version}
use Rattle.control_line.specs.Reading.{Reading, reading_answer}
use Rattle.control_line.specs.Reply.{reply_text}
use Rattle.control_line.specs.Reason.{IsRefusalOfText}
use Rattle.control_line.specs.Request.{Spells, change, read, show, sweep}

-- the program that a command has, or none
abbrev pub program_in : {P : Type 0} → Command P → Option P
program_in (SetSelector key program) = Some program
program_in (SetFilter key id program) = Some program
program_in _ = None

-- the command that the texts of a line make, with expressions compiled by this compiler
abbrev pub MeansBy : Compiler → Command Source → Command LoadedProgram → Type 0
MeansBy by (AddGroup key) made = made ≡ AddGroup key
MeansBy by (RemoveGroup key) made = made ≡ RemoveGroup key
MeansBy by (Join key id to) made = made ≡ Join key id to
MeansBy by (Leave key id) made = made ≡ Leave key id
MeansBy by (SetSelector key source) made = (program : LoadedProgram) × IsLoadedBy by source program × (made ≡ SetSelector key program)
MeansBy by (ClearSelector key) made = made ≡ ClearSelector key
MeansBy by (SetFilter key id source) made = (program : LoadedProgram) × IsLoadedBy by source program × (made ≡ SetFilter key id program)
MeansBy by (ClearFilter key id) made = made ≡ ClearFilter key id
MeansBy by (LockFilter key id) made = made ≡ LockFilter key id

-- the charge of a configuration
abbrev pub charge_of_text : TextConfig → ℕ
charge_of_text config = charge_by (λ program. text_charge program.text) config

-- the texts make a command that the configuration does not refuse, and this is the next configuration
pub record LeadsToBy (by : Compiler) (config : TextConfig) (command : Command Source) (next : TextConfig) : Type 0 where
  pub made : Command LoadedProgram
  pub means : MeansBy by command made
  pub applied : first_refusal made config ≡ None
  pub is : next ≡ after made config

-- why a configuration refuses a change: for its text, else for its command
pub data RefusesBy (by : Compiler) (config : TextConfig) (command : Command Source) : Reason → Type 0 where
  bad_text : (source : Source) (why : Reason) → program_in command ≡ Some source → IsRefusalOfText source why →
      RefusesBy by config command why
  refused : (made : Command LoadedProgram) (refusal : Refusal) → MeansBy by command made →
      first_refusal made config ≡ Some refusal → RefusesBy by config command (reason.Command refusal)

-- the reply if this configuration is to be published in place of the current one, and the configuration then
pub data PublishesText (version : ℕ) (config next : TextConfig) : LineAnswer → TextConfig → Type 0 where
  too_big : CHARGE_LIMIT < charge_of_text next → PublishesText version config next (Refused (Publishing TooBig)) config
  exhausted : charge_of_text next ≤ CHARGE_LIMIT → version ≡ LAST_NUMBER →
      PublishesText version config next (Refused (Publishing Exhausted)) config
  busy : charge_of_text next ≤ CHARGE_LIMIT → ¬ (version ≡ LAST_NUMBER) →
      PublishesText version config next (Refused (Publishing Busy)) config
  published : charge_of_text next ≤ CHARGE_LIMIT → ¬ (version ≡ LAST_NUMBER) →
      PublishesText version config next (Published (version + 1)) next

-- The reply to a change at a version and its configuration, and the configuration then. The refusals come in this order.
pub data ChangesBy (by : Compiler) (version : ℕ) (config : TextConfig) (command : Command Source) : LineAnswer → TextConfig → Type 0 where
  not_made : (why : Reason) → RefusesBy by config command why → ChangesBy by version config command (Refused why) config
  is_made : (next : TextConfig) (answer : LineAnswer) (left : TextConfig) → LeadsToBy by config command next →
      PublishesText version config next answer left → ChangesBy by version config command answer left

-- ---- several lines as one change

-- a line, and its number
pub record NumberedLine : Type 0 where
  pub number : ℕ
  pub text : List ℕ

abbrev pub numbered : ℕ → List (List ℕ) → List NumberedLine
numbered number [] = []
numbered number (text ∷ rest) = record { number = number; text = text } ∷ numbered (suc number) rest

-- the line asks for a change that the configuration does not refuse, and this is the next configuration
pub record IsDoneBy (by : Compiler) (config : TextConfig) (line : List ℕ) (next : TextConfig) : Type 0 where
  pub command : Command Source
  pub short : length line ≤ LINE_LIMIT
  pub spells : Spells line (change command)
  pub leads : LeadsToBy by config command next

-- why a configuration refuses one of several lines, each of which must ask for a change
pub data RefusesLineBy (by : Compiler) (config : TextConfig) (line : List ℕ) : Reason → Type 0 where
  long : LINE_LIMIT < length line → RefusesLineBy by config line LineTooLong
  no_change : length line ≤ LINE_LIMIT → ((command : Command Source) → ¬ Spells line (change command)) →
      RefusesLineBy by config line BadForm
  bad_change : (command : Command Source) (why : Reason) → length line ≤ LINE_LIMIT → Spells line (change command) →
      RefusesBy by config command why → RefusesLineBy by config line why

-- the configuration that the lines make, one after the other
pub data LeadBy (by : Compiler) : TextConfig → List NumberedLine → TextConfig → Type 0 where
  no_line : (config : TextConfig) → LeadBy by config [] config
  one_more : (config : TextConfig) (line : NumberedLine) (rest : List NumberedLine) (next last : TextConfig) →
      IsDoneBy by config line.text next → LeadBy by next rest last → LeadBy by config (line ∷ rest) last

-- the first of the lines that is refused, and why
pub record IsFirstRefused (by : Compiler) (config : TextConfig) (lines : List NumberedLine) (number : ℕ) (why : Reason) : Type 0 where
  pub earlier : List NumberedLine
  pub line : NumberedLine
  pub later : List NumberedLine
  pub mid : TextConfig
  pub all : lines ≡ earlier ++ line ∷ later
  pub lead : LeadBy by config earlier mid
  pub refused : RefusesLineBy by mid line.text why
  pub number_is : number ≡ line.number

-- the configuration that a block's lines change
abbrev pub config_at : Start → TextConfig → TextConfig
config_at Current config = config
config_at Empty config = []

-- The reply to a block, and the configuration then. Only the last configuration is published, and only its charge counts.
pub data ChangesTogetherBy (by : Compiler) (version : ℕ) (config : TextConfig) (start : Start) (lines : List (List ℕ)) : LineAnswer → TextConfig → Type 0 where
  line_refused : (number : ℕ) (why : Reason) → IsFirstRefused by (config_at start config) (numbered 1 lines) number why →
      ChangesTogetherBy by version config start lines (LineRefused number why) config
  all_made : (next : TextConfig) (answer : LineAnswer) (left : TextConfig) → LeadBy by (config_at start config) (numbered 1 lines) next →
      PublishesText version config next answer left → ChangesTogetherBy by version config start lines answer left

-- ---- requests

-- The reply to a request, and the configuration then. The operator decides whether a change is refused as busy, and what a
-- sweep reclaims.
pub data AnswersMessageBy (by : Compiler) (version : ℕ) (config : TextConfig) : Message → LineAnswer → TextConfig → Type 0 where
  other_version : (message : Message) (wanted : ℕ) → wanted_version message ≡ Some wanted → ¬ (wanted ≡ version) →
      AnswersMessageBy by version config message (Refused (OtherVersion version)) config
  changed : (command : Command Source) (answer : LineAnswer) (next : TextConfig) → ChangesBy by version config command answer next →
      AnswersMessageBy by version config (single (change command)) answer next
  changed_at : (wanted : ℕ) (command : Command Source) (answer : LineAnswer) (next : TextConfig) → wanted ≡ version →
      ChangesBy by version config command answer next → AnswersMessageBy by version config (for_version wanted command) answer next
  changed_together : (head : Head) (lines : List (List ℕ)) (answer : LineAnswer) (next : TextConfig) →
      IfSome head.version (λ wanted. wanted ≡ version) → ChangesTogetherBy by version config head.start lines answer next →
      AnswersMessageBy by version config (block head lines) answer next
  shown : AnswersMessageBy by version config (single show) (Shown version (length config) (members_of config) (charge_of_text config)) config
  was_read : (reading : Reading) →
      AnswersMessageBy by version config (single (read reading)) (reading_answer (λ program. program.words) version config reading) config
  swept : (reclaimed : Reclaimed) → AnswersMessageBy by version config (single sweep) (Swept reclaimed) config

-- the reply to a text
pub data AnswersBy (by : Compiler) (version : ℕ) (config : TextConfig) (text : List ℕ) : LineAnswer → TextConfig → Type 0 where
  too_long : IsTooLong text → AnswersBy by version config text (Refused LineTooLong) config
  bad_form : ¬ IsTooLong text → ((message : Message) → ¬ SpellsMessage text message) →
      AnswersBy by version config text (Refused BadForm) config
  replied : (message : Message) (answer : LineAnswer) (next : TextConfig) → ¬ IsTooLong text → SpellsMessage text message →
      AnswersMessageBy by version config message answer next → AnswersBy by version config text answer next

-- the same with any compiler that makes programs for the trees that it is given
abbrev pub Means : Command Source → Command LoadedProgram → Type 0
Means = MeansBy IsProgramFor

abbrev pub LeadsTo : TextConfig → Command Source → TextConfig → Type 0
LeadsTo = LeadsToBy IsProgramFor

abbrev pub Refuses : TextConfig → Command Source → Reason → Type 0
Refuses = RefusesBy IsProgramFor

abbrev pub Changes : ℕ → TextConfig → Command Source → LineAnswer → TextConfig → Type 0
Changes = ChangesBy IsProgramFor

abbrev pub Answers : ℕ → TextConfig → List ℕ → LineAnswer → TextConfig → Type 0
Answers = AnswersBy IsProgramFor

-- the operator decides between two answers: whether a publication is made or busy, and what a sweep reclaims
abbrev pub IsOperatorsChoice : (TextConfig → TextConfig → Type 0) → LineAnswer → TextConfig → LineAnswer → TextConfig → Type 0
IsOperatorsChoice AreAlike (Published version) next (Refused (Publishing Busy)) also = Unit {0}
IsOperatorsChoice AreAlike (Refused (Publishing Busy)) next (Published version) also = Unit {0}
IsOperatorsChoice AreAlike (Swept one) next (Swept other) also = AreAlike next also
IsOperatorsChoice AreAlike one next other also = ⊥

-- two answers are one and leave configurations that are alike, or the operator decides between them
abbrev pub AreOne : (TextConfig → TextConfig → Type 0) → LineAnswer → TextConfig → LineAnswer → TextConfig → Type 0
AreOne AreAlike one next other also = ((one ≡ other) × AreAlike next also) ⊎ IsOperatorsChoice AreAlike one next other also

-- the programs of two configurations mean the same, whatever their words
abbrev pub HaveSameTexts : TextConfig → TextConfig → Type 0
HaveSameTexts config other = config_over (λ program. program.text) config ≡ config_over (λ program. program.text) other

-- A line that does not read has one answer at a version and what its configuration means, except for the operator's decisions.
abbrev pub HasOneAnswer : Type 0
HasOneAnswer =
    (version : ℕ) (config config' : TextConfig) (line : List ℕ) (one other : LineAnswer) (next also : TextConfig) →
    HaveSameTexts config config' → ((reading : Reading) → ¬ Spells line (read reading)) →
    Answers version config line one next → Answers version config' line other also → AreOne HaveSameTexts one next other also

-- a compiler that makes the same words of an expression each time
abbrev pub by_function : (Tree → List ℕ) → Compiler
by_function compiled tree words = words ≡ compiled tree

-- With such a compiler each line has one answer and leaves one configuration, except for the operator's decisions.
abbrev pub HasOneAnswerBy : Type 0
HasOneAnswerBy =
    (compiled : Tree → List ℕ)
    (version : ℕ) (config : TextConfig) (line : List ℕ) (one other : LineAnswer) (next also : TextConfig) →
    AnswersBy (by_function compiled) version config line one next →
    AnswersBy (by_function compiled) version config line other also → AreOne (λ after after'. after ≡ after') one next other also

-- the operator's steps for a refusal: none, but for the scans of a publication that is busy
abbrev pub DoesRefused : Reason → OperatorValue → OperatorValue → Type 0
DoesRefused (Publishing Busy) before after = IsBusy before after
DoesRefused _ before after = after ≡ before

-- the operator's steps for each answer
abbrev pub Does : LineAnswer → OperatorValue → OperatorValue → Type 0
Does (Refused why) before after = DoesRefused why before after
Does (LineRefused number why) before after = after ≡ before
Does (Published version) before after = (config : List Group) × Publishes before after config
Does (Shown version groups members charge) before after = after ≡ before
Does (GroupRead version index groups key members selector) before after = after ≡ before
Does (MemberRead version index members id to filter locked) before after = after ≡ before
Does (WordsRead version place count words) before after = after ≡ before
Does (PacketJudged version judged) before after = after ≡ before
Does (PacketMalformed version why) before after = after ≡ before
Does (Swept reclaimed) before after = Sweeps before after reclaimed.first reclaimed.count

-- the answer to a line that reads, from the configuration that was published last
abbrev pub IsReadBack : Reading → OperatorView (List Group) → LineAnswer → Type 0
IsReadBack reading view answer =
    (config : List Group)
    × IsCurrent view config
    × (answer ≡ reading_answer (λ program. program.words) (number_after view.log) config reading)

-- A line has its answer: a line that reads from the operator's configuration, and each line for each configuration that agrees with it.
pub record IsAnswered (line : List ℕ) (before after : OperatorValue) (answer : LineAnswer) : Type 0 where
  pub steps : Does answer before after
  pub read_back : (reading : Reading) → length line ≤ LINE_LIMIT → Spells line (read reading) → IsReadBack reading before.view answer × (after ≡ before)
  pub text : (config : TextConfig) → AgreesNow config before.view →
      (next : TextConfig) × Answers (number_after before.view.log) config line answer next × AgreesNow next after.view

-- nothing is published, and the current version stays
pub record PublishesNothing (before after : OperatorValue) : Type 0 where
  pub table : after.table ≡ before.table
  pub published : after.view.published ≡ before.view.published
  pub version_rows : after.view.version_rows ≡ before.view.version_rows
  pub number : number_after after.view.log ≡ number_after before.view.log

-- the reply is the text's, for a configuration that agrees with the operator's
abbrev pub IsReplyTo : TextConfig → List ℕ → OperatorValue → OperatorValue → List ℕ → Type 0
IsReplyTo config line before after reply =
    (answer : LineAnswer)
    × (next : TextConfig)
    × Answers (number_after before.view.log) config line answer next
    × (reply ≡ reply_text answer)
    × Does answer before after

-- and so is the configuration that it leaves
abbrev pub LeavesConfig : TextConfig → List ℕ → OperatorValue → OperatorValue → List ℕ → Type 0
LeavesConfig config line before after reply =
    (answer : LineAnswer)
    × (next : TextConfig)
    × Answers (number_after before.view.log) config line answer next
    × (reply ≡ reply_text answer)
    × AgreesNow next after.view

-- nothing is done, but for the scans of a publication that is busy
abbrev pub DoesNothing : OperatorValue → OperatorValue → Type 0
DoesNothing before after = (after ≡ before) ⊎ IsBusy before after

-- a reply that refuses
abbrev pub IsRefusedReply : List ℕ → Type 0
IsRefusedReply reply = (rest : List ℕ) × (reply ≡ codes "refused " ++ rest)

-- only a change needs memory
abbrev pub IsChange : Message → Type 0
IsChange (single (change command)) = Unit {0}
IsChange (single other) = ⊥
IsChange (for_version version command) = Unit {0}
IsChange (block head lines) = Unit {0}

abbrev pub AsksForChange : List ℕ → Type 0
AsksForChange text = (message : Message) × SpellsMessage text message × IsChange message
