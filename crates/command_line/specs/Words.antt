-- The words with the address of control that the environment gives (docs/COMMANDS.md, "The address of control").
use Rattle.std.specs.Prelude.{◌∷◌, ◌||◌, [], Bool, List, codes, false, if◌then◌else◌, nat_eq, true, ℕ}
use Rattle.std.specs.List.{starts_with}
use Rattle.std.specs.Str.{bytes_eq}

-- the commands that take the address of control
abbrev pub takes_control : List ℕ → Bool
takes_control name =
    bytes_eq name (codes "serve") || (bytes_eq name (codes "tell") || (bytes_eq name (codes "rules") || (bytes_eq name (codes "load")
    || (bytes_eq name (codes "drain") || (bytes_eq name (codes "metrics") || bytes_eq name (codes "top"))))))

-- `--control`, or `--control=ADDRESS`
abbrev pub names_control : List ℕ → Bool
names_control word = bytes_eq word (codes "--control") || starts_with nat_eq word (codes "--control=")

-- none of the words is the option; those after `--` are no options
abbrev pub lacks_control : List (List ℕ) → Bool
lacks_control [] = true
lacks_control (word ∷ rest) =
    if bytes_eq word (codes "--") then true else if names_control word then false else lacks_control rest

abbrev pub wants_control : List (List ℕ) → Bool
wants_control [] = false
wants_control (name ∷ rest) = if takes_control name then lacks_control rest else false

abbrev pub add_control : List ℕ → List (List ℕ) → List (List ℕ)
add_control address [] = []
add_control address (name ∷ rest) = name ∷ codes "--control" ∷ address ∷ rest

-- the option follows the command's name, if the command takes it and it was left out
abbrev pub with_control : List ℕ → List (List ℕ) → List (List ℕ)
with_control address words = if wants_control words then add_control address words else words
