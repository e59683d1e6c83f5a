-- The control datagrams that are ignored: neither answered nor obeyed (docs/COMMANDS.md, "serve").
use Rattle.std.specs.Prelude.{◌≡◌, ◌++◌, ◌⊎◌, List, codes, ℕ}
use Rattle.ipv4_fields.specs.declared.endpoint.Endpoint.{Endpoint}
use Rattle.serve_control.specs.declared.ignored.BoundAddresses.{BoundAddresses}

-- the words that begin replies
pub data BeginsReplies : List ℕ → Type 0 where
  ok : BeginsReplies (codes "ok")
  refused : BeginsReplies (codes "refused")
  failed : BeginsReplies (codes "failed")
  version : BeginsReplies (codes "version")
  reclaimed : BeginsReplies (codes "reclaimed")
  malformed : BeginsReplies (codes "malformed")
  delivered : BeginsReplies (codes "delivered")
  ready : BeginsReplies (codes "ready")

-- the text begins with such a word and a space
pub record LooksLikeReply (text : List ℕ) : Type 0 where
  pub word : List ℕ
  pub rest : List ℕ
  pub begins_replies : BeginsReplies word
  pub whole : text ≡ word ++ (codes " " ++ rest)

-- the sender has the address and port that a socket is bound to; a socket that is bound to 0.0.0.0 has all addresses of its machine
pub record IsOwn (bound sender : Endpoint) : Type 0 where
  pub port : sender.port ≡ bound.port
  pub address : (bound.address ≡ 0) ⊎ (sender.address ≡ bound.address)

-- the text looks like a reply, or the sender is the switch
pub data IsIgnored (bound : BoundAddresses) (sender : Endpoint) (text : List ℕ) : Type 0 where
  reply : LooksLikeReply text → IsIgnored bound sender text
  from_front : IsOwn bound.front sender → IsIgnored bound sender text
  from_control : IsOwn bound.control sender → IsIgnored bound sender text

-- every switch ignores a datagram with this text, whoever sent it
abbrev pub IsAlwaysIgnored : List ℕ → Type 0
IsAlwaysIgnored text = (bound : BoundAddresses) (sender : Endpoint) → IsIgnored bound sender text
