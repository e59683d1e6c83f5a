-- How some codes are printed.
use Rattle.std.proofs.Common.{◌≡◌, codes, refl}
use Rattle.std.specs.Char.{encode_utf8}
use Rattle.std.specs.Fmt.{digits}
use Rattle.fault_code.specs.Code.{at, code_text, plain}

with_place : code_text (at (codes "A") 5 9) ≡ codes "A5 9"
unfolding digits encode_utf8
with_place = refl

without_place : code_text (plain (codes "V") 11) ≡ codes "V11"
unfolding digits encode_utf8
without_place = refl
