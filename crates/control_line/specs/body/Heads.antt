-- How a request begins, as the steps of reading it find.
use Rattle.std.specs.Prelude.{◌≡◌, ◌<◌, ◌≤◌, ◌++◌, List, Some, length, slice_index, ℕ}
use Rattle.control_line.specs.declared.head.Head.{Head}
use Rattle.control_line.specs.declared.TheConstants.{LINE_LIMIT}
use Rattle.control_line.specs.Block.{HasHead, version_prefix}
use Rattle.control_line.specs.declared.head.TheConstants.{VERSION_DIGITS}

-- a number up to 2^48 may be written so: by few digits, and with no leading zero
pub record IsPlainNumber (field : List ℕ) : Type 0 where
  pub not_empty : 0 < length field
  pub few : length field ≤ VERSION_DIGITS
  pub no_leading_zero : slice_index field 0 ≡ 48 → length field ≡ 1

-- it is no block
abbrev pub HasNoHead : List ℕ → Type 0
HasNoHead text = (head : Head) (rest : List ℕ) → ¬ HasHead text head rest

-- the text is this line, for one version only; it is no block, and not too long
pub record IsShortForVersion (text : List ℕ) (version : ℕ) (line : List ℕ) : Type 0 where
  pub whole : text ≡ version_prefix (Some version) ++ line
  pub no_head : HasNoHead text
  pub short : length text ≤ LINE_LIMIT
