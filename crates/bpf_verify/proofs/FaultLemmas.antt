-- What the faults say of a program.
use Rattle.std.proofs.Common.{◌≡◌, ◌∙◌, ◌↔◌, Err, IfErr, IsOk, List, None, Ok, OnOk, Option, Result, Some, ap, arith, length, refl, subst, sym, ℕ}
use Rattle.std.proofs.lemmas.Option.{slice_get_within}
use Rattle.bpf_insn.specs.Word.{instruction_of}
use Rattle.bpf_verify.specs.declared.fault.Fault.{Fault}
use Rattle.bpf_verify.specs.declared.fault.Fault.TheVariants.{Ancillary, BadCell, BadOpcode, BadShift, Empty, JumpOutside, NoReturn, StrayField, TooLong, UnstoredCell, ZeroDivisor}
use Rattle.bpf_verify.specs.Path.{program_at}
use Rattle.bpf_verify.specs.Accepted.{HasFault, IsAccepted, IsFaultless, word_fault}
use Rattle.bpf_verify.specs.Fault.{IsFirstAt, IsFirstFault}
use Rattle.bpf_verify.proofs.PlaceLemmas.{program_at-whole}

-- ---- a program with a fault is not accepted

fault_refutes_faultless : (program : List ℕ) (pc : ℕ) (fault : Fault) → HasFault program pc fault → ¬ IsFaultless program pc
fault_refutes_faultless program pc fault has none =
    let found : Some has.0 ≡ Some none.0 = sym has.1 ∙ none.1 in
    let word : has.0 ≡ none.0 = cc in
    let same : ◌≡◌ {A = Option Fault} (Some fault) None = sym has.2 ∙ ap (λ w. word_fault (length program) pc (instruction_of w)) word ∙ none.2 in
    cc

place_refutes : (program : List ℕ) (pc : ℕ) (fault : Fault) → IsFirstAt program pc fault → ¬ IsAccepted program
place_refutes program pc fault first accepted =
    fault_refutes_faultless program pc fault first.1 (accepted.faultless pc (slice_get_within program pc first.1.0 first.1.1))

pub fault_refutes : (program : List ℕ) (fault : Fault) → IsFirstFault program fault → ¬ IsAccepted program
fault_refutes program Empty first accepted = let some = accepted.not_empty in absurd (omega arith)
fault_refutes program TooLong first accepted = let short = accepted.not_too_long in absurd (omega arith)
fault_refutes program (BadOpcode pc) first accepted = place_refutes program pc _ first accepted
fault_refutes program (StrayField pc) first accepted = place_refutes program pc _ first accepted
fault_refutes program (ZeroDivisor pc) first accepted = place_refutes program pc _ first accepted
fault_refutes program (BadShift pc) first accepted = place_refutes program pc _ first accepted
fault_refutes program (BadCell pc) first accepted = place_refutes program pc _ first accepted
fault_refutes program (JumpOutside pc) first accepted = place_refutes program pc _ first accepted
fault_refutes program (Ancillary pc) first accepted = place_refutes program pc _ first accepted
fault_refutes program NoReturn first accepted = first.1 accepted.ends_in_return
fault_refutes program (UnstoredCell pc) first accepted =
    let unstored = first.2 in
    unstored.2.2 (accepted.stores_before pc unstored.0 unstored.1 unstored.2.0 unstored.2.1)

pub accepts_exactly : (program : List ℕ) (result : Result (Unit {0}) Fault) → OnOk result (IsAccepted program) → IfErr result (IsFirstFault program) → IsOk result ↔ IsAccepted program
accepts_exactly program (Ok unit) ok err = (λ yes. ok, λ accepted. refl)
accepts_exactly program (Err fault) ok err = (λ yes. cc, λ accepted. absurd (fault_refutes program fault err accepted))

-- the fault of a whole list
pub first_fault_whole : (items words : List ℕ) (fault : Fault) → words ≡ items → IsFirstFault (program_at words 0 (length words)) fault → IsFirstFault items fault
first_fault_whole items words fault same first = subst (λ program. IsFirstFault program fault) (program_at-whole words ∙ same) first
