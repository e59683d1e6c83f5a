-- The kernel's table of UDP sockets, /proc/net/udp (proc(5)): a line a socket, and columns between spaces.
use Rattle.std.specs.Prelude.{◌≡◌, ◌≢◌, ◌-◌, ◌+◌, ◌/◌, ◌%◌, ◌<◌, ◌^◌, ◌==◌, ◌||◌, ◌∷◌, ◌++◌, Bool, List, [], codes, decimal, false, get_or, if◌then◌else◌, length, map, nat_lt, sum_by, ℕ}
use Rattle.std.specs.List.{All, filter, slice_split}
use Rattle.std.specs.Str.{bytes_eq}
use Rattle.std.specs.Str.Parse.{digits_value}
use Rattle.ipv4_fields.specs.declared.endpoint.Endpoint.{Endpoint}

-- two hexadecimal digits of a byte, with capital letters
abbrev pub hex_digit : ℕ → ℕ
hex_digit digit = if nat_lt digit 10 then 48 + digit else 55 + digit

abbrev pub hex_byte : ℕ → List ℕ
hex_byte byte = hex_digit (byte / 16) ∷ hex_digit (byte % 16) ∷ []

-- the column of an address and a port: the bytes of the address, the last one first, as a little-endian machine shows them, and the port
abbrev pub local_column : (address port : ℕ) → List ℕ
local_column address port =
    hex_byte (address % 256) ++ hex_byte (address / 2 ^ 8 % 256) ++ hex_byte (address / 2 ^ 16 % 256) ++ hex_byte (address / 2 ^ 24)
    ++ codes ":" ++ hex_byte (port / 256) ++ hex_byte (port % 256)

abbrev pub has_bytes : List ℕ → Bool
has_bytes [] = false
has_bytes (byte ∷ rest) = nat_lt 0 1

-- the columns of a line
abbrev pub columns : List ℕ → List (List ℕ)
columns line = filter has_bytes (slice_split (λ byte. byte == 32) line)

-- a socket is at the front: its second column is the front's address, or 0.0.0.0, with the front's port
abbrev pub is_local : Endpoint → List ℕ → Bool
is_local front column = bytes_eq column (local_column front.address front.port) || bytes_eq column (local_column 0 front.port)

abbrev pub is_at : Endpoint → List (List ℕ) → Bool
is_at front row = is_local front (get_or row 1 [])

abbrev pub last_column : List (List ℕ) → List ℕ
last_column row = get_or row (length row - 1) []

-- the last column of each line of such a socket: how many datagrams were dropped
abbrev pub drop_columns : Endpoint → List (List ℕ) → List (List ℕ)
drop_columns front lines = map last_column (filter (is_at front) (map columns lines))

-- a column is a count
abbrev pub IsCount : List ℕ → Type 0
IsCount column = (n : ℕ) × (n < 2 ^ 64) × (column ≡ decimal n)

-- there are columns, each is a count, and this is their sum
pub record AreCounts (found : List (List ℕ)) (n : ℕ) : Type 0 where
  pub some : found ≢ []
  pub counts : All IsCount found
  pub sum : n ≡ sum_by (digits_value 10) found
  pub fits : n < 2 ^ 64

-- there is such a socket, and this is the sum of what was dropped at each
abbrev pub AreDropsAt : Endpoint → List ℕ → ℕ → Type 0
AreDropsAt front table n = AreCounts (drop_columns front (slice_split (λ byte. byte == 10) table)) n
