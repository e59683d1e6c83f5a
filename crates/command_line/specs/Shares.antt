-- The words of `spread` (docs/COMMANDS.md, "spread").
use Rattle.std.specs.Prelude.{◌==◌, ◌∷◌, ◌&&◌, [], Bool, List, None, Option, Some, codes, false, if◌then◌else◌, length, nat_le, nat_lt, not, option_and_then, option_map, sum, true, ℕ}
use Rattle.std.specs.List.{list_any}
use Rattle.std.specs.Str.{bytes_eq}
use Rattle.std.specs.Str.Parse.{digits_value, without_leading_plus}
use Rattle.clap.specs.Lexer.{name_and_value}
use Rattle.clap.specs.ValueTests.{accepts}
use Rattle.clap.specs.Words.{Text}
use Rattle.clap.specs.declared.builder.value_parser.ValueParser.TheVariants.{Unsigned}
use Rattle.selector_buckets.specs.Shares.{weights_of}
use Rattle.selector_buckets.specs.declared.TheConstants.{MEMBER_LIMIT}
use Rattle.selector_buckets.specs.declared.hash.HashBy.{HashBy}
use Rattle.selector_buckets.specs.declared.hash.HashBy.TheVariants.{Addresses, Both, Ports}
use Rattle.selector_buckets.specs.declared.share.Share.{Share}

-- the depth of a table with so many buckets
abbrev pub depth_named : Text → Option ℕ
depth_named text =
    if bytes_eq text (codes "1")
    then Some 0
    else if bytes_eq text (codes "2")
    then Some 1
    else if bytes_eq text (codes "4")
    then Some 2
    else if bytes_eq text (codes "8")
    then Some 3
    else if bytes_eq text (codes "16")
    then Some 4
    else if bytes_eq text (codes "32")
    then Some 5
    else if bytes_eq text (codes "64")
    then Some 6
    else if bytes_eq text (codes "128")
    then Some 7
    else if bytes_eq text (codes "256")
    then Some 8
    else None

-- the fields that are hashed
abbrev pub hash_named : Text → Option HashBy
hash_named text =
    if bytes_eq text (codes "addresses")
    then Some Addresses
    else if bytes_eq text (codes "ports")
    then Some Ports
    else if bytes_eq text (codes "both")
    then Some Both
    else None

-- the number of a text of decimal digits, if it is at most this; leading zeros and one plus sign before them are allowed
abbrev pub number_to : ℕ → Text → Option ℕ
number_to most text = if accepts false (Unsigned 0 most) text then Some (digits_value 10 (without_leading_plus text)) else None

-- the member of an ID and a weight
abbrev pub share_between : Text → Option Text → Option Share
share_between id None = None
share_between id (Some weight) =
    option_and_then (λ id. option_map (λ weight. record { id = id; weight = weight }) (number_to 65535 weight)) (number_to 4294967295 id)

-- `ID=WEIGHT`
abbrev pub share_in : Text → Option Share
share_in word = let parts = name_and_value word in share_between parts.0 parts.1

-- the members of all words, in their order
abbrev pub shares_in : List Text → Option (List Share)
shares_in [] = Some []
shares_in (word ∷ words) = option_and_then (λ share. option_map (λ others. share ∷ others) (shares_in words)) (share_in word)

-- a member has the ID
abbrev pub has_share : ℕ → List Share → Bool
has_share id shares = list_any (λ share. share.id == id) shares

-- no ID is there twice
abbrev pub are_distinct : List Share → Bool
are_distinct [] = true
are_distinct (share ∷ shares) = not (has_share share.id shares) && are_distinct shares

-- the members can share a table: they are not too many, and one of them has a weight above 0
abbrev pub can_share : List Share → Bool
can_share shares = nat_le (length shares) MEMBER_LIMIT && nat_lt 0 (sum (weights_of shares))

abbrev pub members_among : List Share → Option (List Share)
members_among shares = if can_share shares && are_distinct shares then Some shares else None

abbrev pub members_in : List Text → Option (List Share)
members_in words = option_and_then members_among (shares_in words)

-- the arguments of `spread`: a depth, the fields that are hashed, and the members
abbrev pub Spread : Type 0
Spread = ℕ × HashBy × List Share

abbrev pub spreading_in : Text → Text → List Text → Option Spread
spreading_in buckets by words =
    option_and_then (λ depth. option_and_then (λ hash. option_map (λ shares. (depth, hash, shares)) (members_in words)) (hash_named by)) (depth_named buckets)
