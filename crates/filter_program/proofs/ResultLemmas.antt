-- Which results are left where a text has a program, or a fault.
use Rattle.std.proofs.Common.{◌≡◌, ◌⊎◌, Err, Ok, Result, ap, inl, inr, refl}
use Rattle.std.specs.Prelude.{IfErr, IfOk, IsOk}
use Rattle.filter_program.specs.declared.fault.TextFault.{TextFault}
use Rattle.filter_program.specs.declared.fault.TextFault.TheVariants.{OutOfMemory}

-- a text without faults is given its program, or memory was refused
pub program_or_memory : {P : Type 0} (IsBad : TextFault → Type 0) (result : Result P TextFault) → IfErr result (λ fault. (fault ≡ OutOfMemory) ⊎ IsBad fault)
    → ((fault : TextFault) → ¬ IsBad fault) → IsOk result ⊎ (result ≡ Err OutOfMemory)
program_or_memory IsBad (Ok program) found none = inl refl
program_or_memory IsBad (Err fault) (inl memory) none = inr (ap Err memory)
program_or_memory IsBad (Err fault) (inr bad) none = absurd (none fault bad)

-- a text with one fault and no program is given that fault, or memory was refused
pub fault_or_memory : {P : Type 0} (IsGood : P → Type 0) (IsBad : TextFault → Type 0) (result : Result P TextFault) → IfOk result IsGood
    → IfErr result (λ fault. (fault ≡ OutOfMemory) ⊎ IsBad fault) → (one : TextFault) → ((program : P) → ¬ IsGood program)
    → ((fault : TextFault) → IsBad fault → fault ≡ one) → (result ≡ Err one) ⊎ (result ≡ Err OutOfMemory)
fault_or_memory IsGood IsBad (Ok program) made found one none same = absurd (none program made)
fault_or_memory IsGood IsBad (Err fault) made (inl memory) one none same = inr (ap Err memory)
fault_or_memory IsGood IsBad (Err fault) made (inr bad) one none same = inl (ap Err (same fault bad))
