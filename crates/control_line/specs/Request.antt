-- The requests of control lines (docs/COMMANDS.md, "Control lines").
use Rattle.std.specs.Prelude.{◌≡◌, ◌<◌, ◌^◌, ◌∷◌, ◌++◌, List, [], codes, decimal, ℕ}
use Rattle.ipv4_fields.specs.Endpoint.{IsEndpoint, endpoint_text}
use Rattle.member_group.specs.declared.command.Command.{Command}
use Rattle.member_group.specs.declared.command.Command.TheVariants.{AddGroup, ClearFilter, ClearSelector, Join, Leave, LockFilter, RemoveGroup, SetFilter, SetSelector}
use Rattle.filter_program.specs.Program.{Source, assembly, expression}
use Rattle.control_line.specs.Reading.{Reading, filter_words, group_at, member_at, selector_words, verdict_on}

-- a line asks for a change of the configuration, for its measures, for a part of it, or for a sweep
pub data Request : Type 0 where
  change : Command Source → Request
  show : Request
  read : Reading → Request
  sweep : Request

-- fields with exactly one space between each two
abbrev pub spaced : List (List ℕ) → List ℕ
spaced [] = []
spaced (field ∷ []) = field
spaced (field ∷ next ∷ more) = field ++ (codes " " ++ spaced (next ∷ more))

-- the fields of a line that asks for a change; a selector is written in assembly alone
abbrev pub HasFields : List (List ℕ) → Command Source → Type 0
HasFields fields (AddGroup key) = IsEndpoint key × (fields ≡ codes "add" ∷ endpoint_text key ∷ [])
HasFields fields (RemoveGroup key) = IsEndpoint key × (fields ≡ codes "remove" ∷ endpoint_text key ∷ [])
HasFields fields (Join key id to) =
    IsEndpoint key × (id < 2 ^ 32) × IsEndpoint to
    × (fields ≡ codes "join" ∷ endpoint_text key ∷ decimal id ∷ endpoint_text to ∷ [])
HasFields fields (Leave key id) =
    IsEndpoint key × (id < 2 ^ 32) × (fields ≡ codes "leave" ∷ endpoint_text key ∷ decimal id ∷ [])
HasFields fields (LockFilter key id) =
    IsEndpoint key × (id < 2 ^ 32) × (fields ≡ codes "lock" ∷ endpoint_text key ∷ decimal id ∷ [])
HasFields fields (SetSelector key (assembly text)) =
    IsEndpoint key × (fields ≡ codes "selector" ∷ endpoint_text key ∷ codes "asm" ∷ text ∷ [])
HasFields fields (SetSelector key (expression text)) = ⊥
HasFields fields (ClearSelector key) = IsEndpoint key × (fields ≡ codes "selector" ∷ endpoint_text key ∷ codes "none" ∷ [])
HasFields fields (SetFilter key id (assembly text)) =
    IsEndpoint key × (id < 2 ^ 32) × (fields ≡ codes "filter" ∷ endpoint_text key ∷ decimal id ∷ codes "asm" ∷ text ∷ [])
HasFields fields (SetFilter key id (expression text)) =
    IsEndpoint key × (id < 2 ^ 32) × (fields ≡ codes "filter" ∷ endpoint_text key ∷ decimal id ∷ codes "expr" ∷ text ∷ [])
HasFields fields (ClearFilter key id) =
    IsEndpoint key × (id < 2 ^ 32) × (fields ≡ codes "filter" ∷ endpoint_text key ∷ decimal id ∷ codes "none" ∷ [])

-- the fields of a line that reads a part
abbrev pub HasReadingFields : List (List ℕ) → Reading → Type 0
HasReadingFields fields (group_at index) = (index < 2 ^ 32) × (fields ≡ codes "group" ∷ decimal index ∷ [])
HasReadingFields fields (member_at key index) =
    IsEndpoint key × (index < 2 ^ 32) × (fields ≡ codes "member" ∷ endpoint_text key ∷ decimal index ∷ [])
HasReadingFields fields (selector_words key place) =
    IsEndpoint key × (place < 2 ^ 32) × (fields ≡ codes "words" ∷ endpoint_text key ∷ codes "selector" ∷ decimal place ∷ [])
HasReadingFields fields (filter_words key id place) =
    IsEndpoint key × (id < 2 ^ 32) × (place < 2 ^ 32)
    × (fields ≡ codes "words" ∷ endpoint_text key ∷ decimal id ∷ decimal place ∷ [])
HasReadingFields fields (verdict_on digits) = fields ≡ codes "judge" ∷ digits ∷ []

-- a line of the table
abbrev pub Spells : List ℕ → Request → Type 0
Spells line (change command) = (fields : List (List ℕ)) × (line ≡ spaced fields) × HasFields fields command
Spells line show = line ≡ codes "show"
Spells line (read reading) = (fields : List (List ℕ)) × (line ≡ spaced fields) × HasReadingFields fields reading
Spells line sweep = line ≡ codes "sweep"

-- no line asks for two things
abbrev pub AsksForOneThing : Type 0
AsksForOneThing = (line : List ℕ) (one other : Request) → Spells line one → Spells line other → one ≡ other
