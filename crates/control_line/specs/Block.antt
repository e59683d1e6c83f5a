-- Requests that are more than a line of the table: a change for one version only, and several lines as one change
-- (docs/COMMANDS.md, "Control lines").
use Rattle.std.specs.Prelude.{◌≡◌, ◌<◌, ◌≤◌, ◌++◌, ◌∷◌, IfSome, List, None, Option, Some, [], codes, decimal, length, ℕ}
use Rattle.std.specs.List.{All, flat_map}
use Rattle.ipv4_fields.specs.Cut.{Lacks}
use Rattle.member_group.specs.declared.command.Command.{Command}
use Rattle.versions.specs.declared.layout.TheConstants.{LAST_NUMBER}
use Rattle.filter_program.specs.Program.{Source}
use Rattle.control_line.specs.declared.TheConstants.{BLOCK_LIMIT, LINE_LIMIT, MOST_LINES}
use Rattle.control_line.specs.declared.head.Head.{Head}
use Rattle.control_line.specs.declared.head.Start.{Start}
use Rattle.control_line.specs.declared.head.Start.TheVariants.{Current, Empty}
use Rattle.control_line.specs.Request.{Request, Spells, change}

-- `at V ` makes a request one for version V only
abbrev pub version_prefix : Option ℕ → List ℕ
version_prefix None = []
version_prefix (Some version) = codes "at " ++ (decimal version ++ codes " ")

-- `all` changes the current configuration, `anew` the one without groups
abbrev pub start_text : Start → List ℕ
start_text Current = codes "all "
start_text Empty = codes "anew "

-- the first line of a block
abbrev pub head_text : Head → List ℕ
head_text head = version_prefix head.version ++ (start_text head.start ++ decimal head.count)

-- how many lines a block may have
abbrev pub IsCountFor : Start → ℕ → Type 0
IsCountFor Current count = (0 < count) × (count ≤ MOST_LINES)
IsCountFor Empty count = count ≤ MOST_LINES

pub record IsHead (head : Head) : Type 0 where
  pub version : IfSome head.version (λ version. version ≤ LAST_NUMBER)
  pub count : IsCountFor head.start head.count

-- nothing more, or an LF and more
abbrev pub EndsLine : List ℕ → Type 0
EndsLine [] = Unit {0}
EndsLine (byte ∷ more) = byte ≡ 10

-- the text begins with the first line of a block, and this is the rest of it
pub record HasHead (text : List ℕ) (head : Head) (rest : List ℕ) : Type 0 where
  pub is_head : IsHead head
  pub whole : text ≡ head_text head ++ rest
  pub ends_line : EndsLine rest

-- lines, each after an LF
abbrev pub after_line_feeds : List (List ℕ) → List ℕ
after_line_feeds lines = flat_map (λ line. 10 ∷ line) lines

-- a whole block: as many lines as its first line says
pub record IsBlock (text : List ℕ) (head : Head) (lines : List (List ℕ)) : Type 0 where
  pub has_head : HasHead text head (after_line_feeds lines)
  pub are_lines : All (Lacks 10) lines
  pub count : length lines ≡ head.count

-- a request: a line of the table, a change for one version only, or a block
pub data Message : Type 0 where
  single : Request → Message
  for_version : ℕ → Command Source → Message
  block : Head → List (List ℕ) → Message

abbrev pub SpellsMessage : List ℕ → Message → Type 0
SpellsMessage text (single request) = Spells text request
SpellsMessage text (for_version version command) =
    (version ≤ LAST_NUMBER) × (line : List ℕ) × (text ≡ version_prefix (Some version) ++ line) × Spells line (change command)
SpellsMessage text (block head lines) = IsBlock text head lines

-- the version that a request is for
abbrev pub wanted_version : Message → Option ℕ
wanted_version (single request) = None
wanted_version (for_version version command) = Some version
wanted_version (block head lines) = head.version

-- no text is two requests
abbrev pub IsOneMessage : Type 0
IsOneMessage = (text : List ℕ) (one other : Message) → SpellsMessage text one → SpellsMessage text other → one ≡ other

-- a block's first line has its own limit; a text without one is limited as a line
pub data IsTooLong (text : List ℕ) : Type 0 where
  long_block : (head : Head) (rest : List ℕ) → HasHead text head rest → BLOCK_LIMIT < length rest → IsTooLong text
  long_line : ((head : Head) (rest : List ℕ) → ¬ HasHead text head rest) → LINE_LIMIT < length text → IsTooLong text
