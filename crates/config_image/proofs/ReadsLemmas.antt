-- How many page table entries a search asks for.
use Rattle.std.proofs.Common.{◌≡◌, ◌/◌, ◌<◌, ◌≤◌, ◌^◌, arith, refl, suc, zero, ℕ}
use Rattle.config_image.specs.declared.pages.search.Search.{Search}
use Rattle.config_image.specs.declared.TheConstants.{READ_LIMIT}
use Rattle.config_image.specs.Search.{digits, reads_left, unread}

pub digits_least : (most number n : ℕ) → number < 2 ^ n → digits most number ≤ n
unfolding digits
digits_least zero number n below = omega arith
digits_least (suc most) zero n below = omega arith
digits_least (suc most) (suc number) zero below = absurd (omega arith)
digits_least (suc most) (suc number) (suc n) below =
    let rest = digits_least most (suc number / 2) n (omega arith) in
    omega arith

pub digits_at_most : (most number : ℕ) → digits most number ≤ most
unfolding digits
digits_at_most zero number = omega arith
digits_at_most (suc most) zero = omega arith
digits_at_most (suc most) (suc number) = let rest = digits_at_most most (suc number / 2) in omega arith

below_digits : (most number : ℕ) → number < 2 ^ most → number < 2 ^ digits most number
unfolding digits
below_digits zero number below = below
below_digits (suc most) zero below = omega arith
below_digits (suc most) (suc number) below =
    let rest = below_digits most (suc number / 2) (omega arith) in
    let is : digits (suc most) (suc number) ≡ suc (digits most (suc number / 2)) = refl in
    rw is (omega arith)

-- half of a number that is not 0 has fewer digits
pub digits_halved : (most number half : ℕ) → number < 2 ^ most → 0 < number → half ≤ number / 2 → digits most half < digits most number
unfolding digits
digits_halved zero number half below some halved = absurd (omega arith)
digits_halved (suc most) zero half below some halved = absurd (omega arith)
digits_halved (suc most) (suc number) half below some halved =
    let rest = below_digits most (suc number / 2) (omega arith) in
    let fewer = digits_least (suc most) half (digits most (suc number / 2)) (omega arith) in
    omega arith

-- ---- the entries that a search asks for

pub reads_least : (search : Search) (n : ℕ) → unread search < 2 ^ n → reads_left search ≤ n
unfolding reads_left
reads_least search n below = digits_least READ_LIMIT (unread search) n below

pub reads_at_most : (search : Search) → reads_left search ≤ READ_LIMIT
unfolding reads_left
reads_at_most search = digits_at_most READ_LIMIT (unread search)

pub reads_fall : (before after : Search) → 0 < unread before → unread after ≤ unread before / 2 → reads_left after < reads_left before
unfolding reads_left
reads_fall before after some halved =
    let limit = before.within_limit in
    digits_halved READ_LIMIT (unread before) (unread after) (omega arith) some halved
