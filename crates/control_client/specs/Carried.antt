-- Which texts a wire carries as one request, and the refusals of the others (docs/COMMANDS.md, "tell").
use Rattle.std.specs.Prelude.{◌≡◌, ◌≢◌, ◌<◌, ◌≤◌, ◌++◌, List, [], codes, length, ℕ}
use Rattle.std.specs.List.{All}
use Rattle.ipv4_fields.specs.Cut.{Lacks}
use Rattle.control_line.specs.Block.{EndsLine, HasHead, IsBlock, after_line_feeds}
use Rattle.control_line.specs.declared.TheConstants.{BLOCK_LIMIT, LINE_LIMIT}
use Rattle.control_line.specs.declared.head.Head.{Head}
use Rattle.control_client.specs.Lines.{IsNoHead}
use Rattle.control_client.specs.declared.carrying.TheConstants.{LONGEST_LINE}
use Rattle.control_client.specs.declared.device.Peer.{Peer}
use Rattle.control_client.specs.declared.device.Peer.TheVariants.{Udp, Unix}

-- the first line of a text, without LF; the rest is empty, or begins with the LF
pub record HasFirstLine (text first rest : List ℕ) : Type 0 where
  pub whole : text ≡ first ++ rest
  pub lacks : Lacks 10 first
  pub ends_line : EndsLine rest

-- one request of a stream: a line, or the first line of a block and as many lines as it says
pub data IsOneRequest (text : List ℕ) : Type 0 where
  one_line : Lacks 10 text → IsNoHead text → length text ≤ LINE_LIMIT → IsOneRequest text
  one_block : (head : Head) (lines : List (List ℕ)) → IsBlock text head lines → length (after_line_feeds lines) ≤ BLOCK_LIMIT → IsOneRequest text

-- more bytes than a switch takes of a line, or of the lines of a block
pub data IsTooLongForStream (text : List ℕ) : Type 0 where
  long_line : (first rest : List ℕ) → HasFirstLine text first rest → IsNoHead first → LINE_LIMIT < length text → IsTooLongForStream text
  long_block : (head : Head) (rest : List ℕ) → HasHead text head rest → BLOCK_LIMIT < length rest → IsTooLongForStream text

-- on a stream it would be no request, or more than one: a line with an LF in it, or a block with fewer or more lines than it says
pub data IsSplitByStream (text : List ℕ) : Type 0 where
  broken_line : (first rest : List ℕ) → HasFirstLine text first rest → IsNoHead first → rest ≢ [] → length text ≤ LINE_LIMIT → IsSplitByStream text
  wrong_count : (head : Head) (lines : List (List ℕ)) → HasHead text head (after_line_feeds lines) → All (Lacks 10) lines → length lines ≢ head.count →
      length (after_line_feeds lines) ≤ BLOCK_LIMIT → IsSplitByStream text

-- a datagram is one request, and has room for so many bytes
abbrev pub IsCarried : Peer → List ℕ → Type 0
IsCarried (Udp endpoint) text = length text ≤ LONGEST_LINE
IsCarried Unix text = IsOneRequest text

abbrev pub IsTooLong : Peer → List ℕ → Type 0
IsTooLong (Udp endpoint) text = LONGEST_LINE < length text
IsTooLong Unix text = IsTooLongForStream text

abbrev pub IsSplit : Peer → List ℕ → Type 0
IsSplit (Udp endpoint) text = ⊥
IsSplit Unix text = IsSplitByStream text

-- a text that is not carried is replied as a switch replies to it
pub data IsRefusedUnsent (peer : Peer) (text : List ℕ) : List ℕ → Type 0 where
  too_long : IsTooLong peer text → IsRefusedUnsent peer text (codes "refused C2")
  split : IsSplit peer text → IsRefusedUnsent peer text (codes "refused C1")
