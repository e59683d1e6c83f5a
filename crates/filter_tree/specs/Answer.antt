-- The answer to a packet, of a program for an expression.
use Rattle.std.specs.Prelude.{◌<◌, ◌^◌, ◌≤◌, All, List, length, ℕ}
use Rattle.filter_tree.specs.declared.TheConstants.{MAX_PACKET}
use Rattle.filter_tree.specs.declared.truth.Truth.{Truth}
use Rattle.filter_tree.specs.declared.truth.Truth.TheVariants.{Fails, No, Yes}

-- a packet is accepted, and kept whole, if the expression is true of it; it is not accepted if the expression is false or fails
abbrev pub answer_of : Truth → ℕ
answer_of Yes = 65535
answer_of No = 0
answer_of Fails = 0

-- at most 65,535 bytes
pub record IsPacket (packet : List ℕ) : Type 0 where
  pub bytes : All (λ byte. byte < 2 ^ 8) packet
  pub not_too_long : length packet ≤ MAX_PACKET
