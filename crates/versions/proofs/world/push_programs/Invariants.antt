use Rattle.std.proofs.Common.{◌≡◌, ◌++◌}
use Rattle.std.specs.List.{flat_map}
use Rattle.versions.specs.World.{in_pages}
use Rattle.versions.proofs.world.push_programs.Given as goal

abbrev pub invariant-loop-program : goal.invariant-loop-program
invariant-loop-program g l = l.words.items ++ flat_map in_pages l.program-iterator ≡ l.fn.words.items ++ flat_map in_pages l.fn.programs
