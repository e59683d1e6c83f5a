use Rattle.std.proofs.Common.{◌≡◌, ◌<◌, ◌≤◌, ◌%◌, length}
use Rattle.command_flood.specs.Traffic.{share_of}
use Rattle.command_flood.proofs.traffic.share.Given as goal

-- up to the next datagram, or up to the end
abbrev pub invariant-loop-i : goal.invariant-loop-i
invariant-loop-i l =
    (l.i < l.datagrams → (l.share ≡ share_of l.worker l.workers l.i) × (l.i % l.workers ≡ l.worker))
    × (l.datagrams ≤ l.i → l.share ≡ share_of l.worker l.workers l.datagrams)
    × (l.count ≡ length l.share)
    × (l.count ≤ l.i)
