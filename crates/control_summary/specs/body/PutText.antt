-- The text of a `PutText`.
use Rattle.std.specs.Prelude.{◌++◌, ◌∷◌, List, [], ℕ}
use Rattle.control_summary.specs.declared.put_text.Last.{Empty, Last, Byte'}

abbrev pub text_of : Last → List ℕ
text_of Empty = []
text_of (Byte' mark before byte) = text_of before ++ byte ∷ []
