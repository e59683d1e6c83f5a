-- The judging of a packet by a worker of a switch.
use Rattle.std.specs.Prelude.{◌≡◌, List, ℕ}
use Rattle.dispatch.specs.Verdict.{value_of, verdict}
use Rattle.read_section.specs.Section.{HoldsLastSeen, IsWholeSection, held_version}
use Rattle.read_section.specs.Worker.{WorkerValue}
use Rattle.versions.specs.View.{IsTold}
use Rattle.control_line.specs.Reply.{judged_text}

-- in one whole section the packet was judged by the newest version that the worker had seen at its pin, whose number the reply has
pub record JudgesPacket (before after : WorkerValue) (packet reply : List ℕ) : Type 0 where
  pub inside : WorkerValue
  pub own_section : IsWholeSection before inside after
  pub seen_grows : IsTold before.view.seen inside.view
  pub last_seen : HoldsLastSeen inside
  pub reply_is : reply ≡ judged_text (held_version inside) (verdict value_of last_seen.config packet)
