-- An endpoint's number, by which endpoints are ordered, the bytes of its address, and its text.
use Rattle.std.specs.Prelude.{◌≡◌, ◌*◌, ◌+◌, ◌/◌, ◌%◌, ◌<◌, ◌^◌, ◌++◌, List, codes, decimal, ℕ}
use Rattle.std.specs.Int.{to_be_bytes, w32}
use Rattle.std.specs.Net.Addr.{IsV4And, ipv4_octets}
use Rattle.std.specs.declared.net.ip_addr.IpAddr.{IpAddr}
use Rattle.ipv4_fields.specs.declared.endpoint.Endpoint.{Endpoint}

-- 32 bits of address, then 16 bits of port
abbrev pub endpoint_number : Endpoint → ℕ
endpoint_number endpoint = endpoint.address * 65536 + endpoint.port

-- an address of 32 bits and a port of 16
pub record IsEndpoint (endpoint : Endpoint) : Type 0 where
  pub address : endpoint.address < 2 ^ 32
  pub port : endpoint.port < 2 ^ 16

-- the IP address is IPv4, with the bytes of the endpoint's address, the high byte first
abbrev pub HasBytesOf : Endpoint → IpAddr → Type 0
HasBytesOf endpoint address = IsV4And address (λ ip. ipv4_octets ip ≡ to_be_bytes w32 endpoint.address)

-- the four bytes of the address with dots between them, then the port; all decimal without leading zeros
abbrev pub endpoint_text : Endpoint → List ℕ
endpoint_text endpoint =
    decimal (endpoint.address / 2 ^ 24)
    ++ (codes "." ++ (decimal (endpoint.address / 2 ^ 16 % 256)
    ++ (codes "." ++ (decimal (endpoint.address / 2 ^ 8 % 256)
    ++ (codes "." ++ (decimal (endpoint.address % 256)
    ++ (codes ":" ++ decimal endpoint.port)))))))
