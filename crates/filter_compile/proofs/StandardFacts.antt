-- The numbers of the compiler, written out.
use Rattle.std.specs.Prelude.{◌≡◌, refl}
use Rattle.filter_compile.specs.declared.TheConstants.{ACCEPTED, SHORT}

-- the longest datagram has 65,535 bytes, all of which are kept
accepted : ACCEPTED ≡ 65535
accepted = refl

-- the weight of the tests is at most 255 then, so a first test's labels stand within the 255 places that a jump skips
short : SHORT ≡ 257
short = refl
