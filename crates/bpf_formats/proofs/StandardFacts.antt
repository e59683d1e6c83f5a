-- Worked examples, computed from the definitions alone: `ldh [12]` and `ret #65535` as tcpdump prints them.
use Rattle.std.proofs.Common.{◌≡◌, List, [], codes, refl, ◌∷◌, ℕ}
use Rattle.bpf_formats.specs.Ddd.{ddd_text}
use Rattle.bpf_formats.specs.Hex.{hex_digits, hex_text}
use Rattle.bpf_formats.specs.Initialiser.{dd_text}
use Rattle.std.specs.Fmt.{digits}

abbrev two : List ℕ
two = 0x002800000000000c ∷ 0x000600000000ffff ∷ []

in_decimal : ddd_text two ≡ codes "2\n40 0 0 12\n6 0 0 65535\n"
unfolding digits
in_decimal = refl

in_hexadecimal : hex_text two ≡ codes "002800000000000c\n000600000000ffff\n"
unfolding hex_digits
in_hexadecimal = refl

in_c : dd_text two ≡ codes "{ 0x28, 0, 0, 0x0000000c },\n{ 0x6, 0, 0, 0x0000ffff },\n"
unfolding digits hex_digits
in_c = refl
