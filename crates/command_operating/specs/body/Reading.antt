-- The bytes that are read of a rules file.
use Rattle.std.specs.Prelude.{◌<◌, List, Option, option_map, take, ℕ}
use Rattle.command_line.specs.Input.{IsInput}
use Rattle.control_line.specs.declared.TheConstants.{BLOCK_LIMIT}

-- the first bytes of an input, more of them than a rules file may have if the input has more
pub record IsReadOf (input : Option (List ℕ)) (bytes : List ℕ) : Type 0 where
  pub most : ℕ
  pub enough : BLOCK_LIMIT < most
  pub is_read : IsInput (option_map (take most) input) bytes
