-- The text of control's address: an endpoint, or a path after `unix:` (docs/COMMANDS.md, "serve").
use Rattle.std.specs.Prelude.{◌≡◌, ◌≢◌, ◌++◌, List, [], codes, ℕ}
use Rattle.ipv4_fields.specs.Endpoint.{IsEndpoint, endpoint_text}
use Rattle.ipv4_fields.specs.declared.endpoint.Endpoint.{Endpoint}
use Rattle.command_line.specs.declared.control_address.ControlAddress.{ControlAddress}
use Rattle.command_line.specs.declared.control_address.ControlAddress.TheVariants.{Udp, Unix}

-- the text of a path's address
abbrev pub unix_text : List ℕ → List ℕ
unix_text path = codes "unix:" ++ path

abbrev pub address_text : ControlAddress → List ℕ
address_text (Udp endpoint) = endpoint_text endpoint
address_text (Unix path) = unix_text path.now

abbrev pub SpellsControlAddress : List ℕ → ControlAddress → Type 0
SpellsControlAddress text (Udp endpoint) = IsEndpoint endpoint × (text ≡ endpoint_text endpoint)
SpellsControlAddress text (Unix path) = (path.now ≢ []) × (text ≡ unix_text path.now)

-- the text is neither an endpoint, nor `unix:` and a path
pub record IsNoControlAddress (text : List ℕ) : Type 0 where
  pub no_endpoint : (endpoint : Endpoint) → IsEndpoint endpoint → text ≢ endpoint_text endpoint
  pub no_path : (path : List ℕ) → path ≢ [] → text ≢ unix_text path
