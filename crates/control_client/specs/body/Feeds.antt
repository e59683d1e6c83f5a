-- Lines that each come after an LF, counted.
use Rattle.std.specs.Prelude.{◌+◌, ◌==◌, ◌∷◌, List, [], if◌then◌else◌, ℕ}

abbrev pub feeds_in : List ℕ → ℕ
feeds_in [] = 0
feeds_in (byte ∷ rest) = if byte == 10 then 1 + feeds_in rest else feeds_in rest
