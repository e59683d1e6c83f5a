-- The effect that the code of one instruction returns, with the machine that it leaves.
use Rattle.std.specs.Prelude.{List, ℕ}
use Rattle.bpf_machine.specs.declared.execute.Next.{Next}
use Rattle.bpf_machine.specs.declared.execute.Next.TheVariants.{End, GoOn, Skip}
use Rattle.bpf_machine.specs.body.ArrayMachine.{ArrayEffect, ends, goes_on}

abbrev pub effect_of : Next → ℕ → ℕ → List ℕ → ArrayEffect
effect_of GoOn a x cells = goes_on 0 a x cells
effect_of (Skip dropped) a x cells = goes_on dropped a x cells
effect_of (End value) a x cells = ends value
