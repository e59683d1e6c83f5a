use Rattle.std.proofs.Common.{◌≡◌, map}
use Rattle.command_flood.specs.FloodVersions.{successor_at}
use Rattle.command_flood.specs.Traffic.{numbers_below}
use Rattle.command_flood.proofs.flood_versions.successors.Given as goal

abbrev pub invariant-loop-i : goal.invariant-loop-i
invariant-loop-i l = l.successors.items ≡ map successor_at (numbers_below l.i)
