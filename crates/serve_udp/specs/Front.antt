-- The sockets at the front of the service (docs/COMMANDS.md, "How it receives").
use Rattle.std.specs.Prelude.{◌≡◌, ◌≤◌, vec_len, ℕ}
use Rattle.command_line.specs.declared.receive.ReceiveWay.{ReceiveWay}
use Rattle.command_line.specs.declared.receive.ReceiveWay.TheVariants as receive_way
use Rattle.serve_udp.specs.declared.front.BoundFront.{BoundFront}
use Rattle.serve_udp.specs.declared.front.BoundFront.TheVariants.{Direct, Queued}

-- one socket, or one for each worker
abbrev pub IsFront : ReceiveWay → ℕ → BoundFront → Type 0
IsFront receive_way.Queued workers (Queued socket) = Unit {0}
IsFront receive_way.Queued workers (Direct sockets) = ⊥
IsFront receive_way.Direct workers (Queued socket) = ⊥
IsFront receive_way.Direct workers (Direct sockets) = vec_len sockets ≡ workers

-- each worker that receives for itself has a socket
abbrev pub HasFronts : ℕ → BoundFront → Type 0
HasFronts workers (Queued socket) = Unit {0}
HasFronts workers (Direct sockets) = workers ≤ vec_len sockets
