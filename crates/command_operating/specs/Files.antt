-- The bytes that are read of a file.
use Rattle.std.specs.Prelude.{List, None, Option, Some, take, ℕ}

-- the first bytes, at most so many; all of them if no number is given
abbrev pub first_bytes : Option ℕ → List ℕ → List ℕ
first_bytes None bytes = bytes
first_bytes (Some most) bytes = take most bytes

-- the bytes of each file, by its name, if they are known
abbrev pub KnownFiles : Type 0
KnownFiles = List ℕ → Option (List ℕ)

-- those of the system's files, of which none are known
abbrev pub system_files : KnownFiles
system_files name = None
