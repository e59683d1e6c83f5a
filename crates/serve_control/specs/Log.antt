-- The log of control: the content of a line, and the requests that have one (docs/OPERATING.md, "The log").
use Rattle.std.specs.Prelude.{◌≡◌, ◌++◌, ◌∷◌, ◌||◌, [], Bool, List, None, Option, Some, codes, decimal, false, nat_eq, take, true, ℕ}
use Rattle.std.specs.List.{starts_with}
use Rattle.command_explain.specs.Shown.{shown_text}
use Rattle.ipv4_fields.specs.Endpoint.{endpoint_text}
use Rattle.serve_control.specs.declared.log.TheConstants.{LOGGED_BYTES}
use Rattle.serve_control.specs.declared.log.Peer.{Peer}
use Rattle.serve_control.specs.declared.log.Peer.TheVariants.{Udp, Unix}

-- the reply says that something was changed, or that nothing was done
abbrev pub is_logged : List ℕ → Bool
is_logged reply =
    (starts_with nat_eq reply (codes "ok ") || starts_with nat_eq reply (codes "refused ")) || starts_with nat_eq reply (codes "failed ")

abbrev pub peer_text : Peer → List ℕ
peer_text (Udp from) = endpoint_text from
peer_text (Unix number) = codes "unix:" ++ decimal number

-- the sender, the reply, and the first bytes of the request as they are shown
abbrev pub log_text : Peer → List ℕ → List ℕ → List ℕ
log_text peer request reply =
    peer_text peer ++ (codes " " ++ (reply ++ (codes ": " ++ (shown_text (take LOGGED_BYTES request) ++ codes "\n"))))

-- the line of a request that is logged
pub record IsLogLine (line : List ℕ) : Type 0 where
  pub peer : Peer
  pub request : List ℕ
  pub reply : List ℕ
  pub logged : is_logged reply ≡ true
  pub is_line : line ≡ log_text peer request reply

-- the lines that were logged are those before, and this one; or nothing is known of them
abbrev pub TellsLine : Option (List (List ℕ)) → Option (List (List ℕ)) → List ℕ → Type 0
TellsLine None after line = after ≡ None
TellsLine (Some lines) after line = after ≡ Some (lines ++ line ∷ [])

-- a request that is logged has one line, and any other has none
pub data TellsRequest (before after : Option (List (List ℕ))) (peer : Peer) (request reply : List ℕ) : Type 0 where
  logged : is_logged reply ≡ true → TellsLine before after (log_text peer request reply) → TellsRequest before after peer request reply
  passed_over : is_logged reply ≡ false → after ≡ before → TellsRequest before after peer request reply
