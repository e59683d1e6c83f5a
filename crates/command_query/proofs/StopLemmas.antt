-- Stops and failures that `?` hands on.
use Rattle.std.proofs.Common.{◌≡◌, ◌⊎◌, Err, List, Ok, Result, inl, inr, refl, subst, sym, ℕ}
use Rattle.std.specs.Prelude.{IfErr}
use Rattle.std.specs.Result.{IsErrAnd}
use Rattle.filter_program.specs.Fault.{IsAssemblyFault}
use Rattle.filter_program.specs.declared.fault.TextFault.{TextFault}
use Rattle.filter_program.specs.declared.fault.TextFault.TheVariants.{Assembly, Compiling, Expression, OutOfMemory, Words}
use Rattle.command_query.specs.body.Stop.{IsStopByProgram, stop_of_text}
use Rattle.command_query.specs.declared.format.InputFormat.TheVariants as input

-- what holds of a stop holds of the answer that is this stop
pub stopped_as : {T E : Type 0} (result : Result T E) (P : E → Type 0) (stop : E) → IsErrAnd result (λ given. given ≡ stop) → P stop
    → IfErr result P
stopped_as (Ok found) P stop is holds = absurd is
stopped_as (Err given) P stop is holds = subst P (sym is) holds

-- an assembly text that has no program stops a command by its fault, or for want of memory
pub assembly_stops : (text : List ℕ) (fault : TextFault) → (fault ≡ OutOfMemory) ⊎ IsAssemblyFault text fault → IsStopByProgram input.Assembly text (stop_of_text fault)
assembly_stops text OutOfMemory either = refl
assembly_stops text (Assembly fault) either = elim either [ inl e ↦ cc | inr is ↦ (Assembly fault, is, refl) ]
assembly_stops text (Words fault) either = elim either [ inl e ↦ cc | inr is ↦ (Words fault, is, refl) ]
assembly_stops text (Expression fault) either = elim either [ inl e ↦ cc | inr is ↦ (Expression fault, is, refl) ]
assembly_stops text (Compiling fault) either = elim either [ inl e ↦ cc | inr is ↦ (Compiling fault, is, refl) ]
