-- Worked images (docs/SWITCH.md, "Image") and numbers of digits, by the definitions alone.
use Rattle.std.proofs.Common.{◌≡◌, ◌∷◌, None, Some, [], false, refl, true}
use Rattle.config_image.specs.Image.{image}
use Rattle.config_image.specs.Search.{digits}

empty : image [] ≡ 2 ∷ 0 ∷ []
unfolding image
empty = refl

-- group 10.0.0.2:53 without members, its selector `ret #0`
selector : image (record { key = record { address = 0x0a000002; port = 53 }; selector = Some (record { words = 0x0006000000000000 ∷ []; charge = 1 }); members = [] } ∷ [])
    ≡ 7 ∷ 1 ∷ 0xa0000020035 ∷ 6 ∷ 0 ∷ 0x60001 ∷ 0x6000000000000 ∷ []
unfolding image
selector = refl

-- group 10.0.0.2:53 with member 1 at 127.0.0.1:9001, without programs
member : image (record { key = record { address = 0x0a000002; port = 53 }; selector = None; members = record { id = 1; to = record { address = 0x7f000001; port = 9001 }; filter = None; locked = false } ∷ [] } ∷ [])
    ≡ 10 ∷ 1 ∷ 0xa0000020035 ∷ 6 ∷ 1 ∷ 0 ∷ 1 ∷ 0x7f0000012329 ∷ 0 ∷ 0 ∷ []
unfolding image
member = refl

-- the same, locked
locked : image (record { key = record { address = 0x0a000002; port = 53 }; selector = None; members = record { id = 1; to = record { address = 0x7f000001; port = 9001 }; filter = None; locked = true } ∷ [] } ∷ [])
    ≡ 10 ∷ 1 ∷ 0xa0000020035 ∷ 6 ∷ 1 ∷ 0 ∷ 1 ∷ 0x7f0000012329 ∷ 0 ∷ 1 ∷ []
unfolding image
locked = refl

-- two groups: the first has no members, so both name one place of member records; programs go group by group, the selector
-- before the filters
two_groups : image (
    record { key = record { address = 1; port = 2 }; selector = Some (record { words = 10 ∷ 11 ∷ []; charge = 2 }); members = [] }
    ∷ record {
      key = record { address = 1; port = 3 };
      selector = Some (record { words = 12 ∷ []; charge = 9 });
      members = record { id = 7; to = record { address = 0; port = 5 }; filter = Some (record { words = 13 ∷ 14 ∷ 15 ∷ []; charge = 3 }); locked = true } ∷ record { id = 8; to = record { address = 0; port = 6 }; filter = None; locked = false } ∷ [];
    }
    ∷ [])
    ≡ 24 ∷ 2 ∷ 0x10002 ∷ 10 ∷ 0 ∷ 0x120002 ∷ 0x10003 ∷ 10 ∷ 2 ∷ 0x140001 ∷ 7 ∷ 5 ∷ 0x150003 ∷ 1 ∷ 8 ∷ 6 ∷ 0 ∷ 0 ∷ 10 ∷ 11 ∷ 12 ∷ 13 ∷ 14 ∷ 15 ∷ []
unfolding image
two_groups = refl

-- eleven digits hold 2047, and ten 1023
eleven : digits 11 2047 ≡ 11
unfolding digits
eleven = refl

ten : digits 11 1023 ≡ 10
unfolding digits
ten = refl

one_digit : digits 11 1 ≡ 1
unfolding digits
one_digit = refl

no_digit : digits 11 0 ≡ 0
unfolding digits
no_digit = refl
