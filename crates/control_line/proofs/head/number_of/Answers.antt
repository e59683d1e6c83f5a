use Rattle.std.proofs.Common.{◌≡◌, ◌+◌, ◌<◌, ◌^◌, arith, get_or, length, length-take, take}
use Rattle.std.specs.Char.{digit_value}
use Rattle.std.specs.Int.{IsInRange}
use Rattle.std.proofs.lemmas.Int.Digits.{digits_more, digits_value_more}
use Rattle.std.proofs.lemmas.Str.{digit_value_digit}
use Rattle.std.proofs.lemmas.Str.Parse.{digit_at}
use Rattle.std.proofs.Math.Facts.{Fits-lt-pow}
use Rattle.ipv4_fields.proofs.TextLemmas.{value_small}
use Rattle.control_line.proofs.head.number_of.Goals as goal

pub returns-then-digit-gt9 : goal.returns-then-digit-gt9
returns-then-digit-gt9 c = λ digits.
    let range = digit_at c.args.field.now c.loop-byte.byte-index digits (omega arith) in
    omega (arith, range.0, range.1, c.if-digit-gt9.true)

pub overflow_mul-number : goal.overflow_mul-number
overflow_mul-number c =
    let few = value_small (take c.loop-byte.byte-index c.args.field.now) 15 c.loop-byte.invariant.0 (omega (arith, length-take c.loop-byte.byte-index c.args.field.now)) in
    omega (arith, few, c.loop-byte.invariant.1)

pub overflow_add-number : goal.overflow_add-number
overflow_add-number c =
    let few = value_small (take c.loop-byte.byte-index c.args.field.now) 15 c.loop-byte.invariant.0 (omega (arith, length-take c.loop-byte.byte-index c.args.field.now)) in
    omega (arith, few, c.loop-byte.invariant.1, c.from.ensures, c.if-digit-gt9.false)

pub loop-byte-preserved : goal.loop-byte-preserved
loop-byte-preserved c =
    let bytes = c.args.field.now in
    let i = c.loop-byte.byte-index in
    let inside : i < length bytes = omega arith in
    let small : get_or bytes i 0 < 2 ^ 8 = Fits-lt-pow (c.type_inv.field i) in
    let range : IsInRange 48 57 (get_or bytes i 0) = (omega (arith, c.if-digit-gt9.false), omega (arith, c.if-digit-gt9.false)) in
    let value : digit_value (get_or bytes i 0) + 48 ≡ get_or bytes i 0 = digit_value_digit (get_or bytes i 0) range in
    let digit : digit_value (get_or bytes i 0) ≡ c.from.result = omega (arith, value, c.from.ensures, range.0, range.1) in (
      digits_more 10 bytes i inside c.loop-byte.invariant.0 (omega (arith, value, range.1)),
      omega (arith, c.loop-byte.invariant.1, digits_value_more 10 bytes i inside, digit),
    )
