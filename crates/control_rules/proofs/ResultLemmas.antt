-- A program that was made of words.
use Rattle.std.proofs.Common.{◌≡◌, Err, List, Ok, Option, Result, subst, sym, ℕ}
use Rattle.std.specs.Prelude.{IfOk, IfSome}
use Rattle.std.specs.Result.{result_ok}
use Rattle.bpf_verify.specs.Program.{ProgramValue}

pub new_words : {E : Type 0} (P : List ℕ → Type 0) (result : Result ProgramValue E) (option : Option ProgramValue) (words : List ℕ) → option ≡ result_ok result →
    IfOk result (λ program. program.words ≡ words) → P words → IfSome option (λ program. P program.words)
new_words P (Ok program) option words is same holds = subst (λ it. IfSome it (λ one. P one.words)) (sym is) (subst P (sym same) holds)
new_words P (Err fault) option words is same holds = subst (λ it. IfSome it (λ one. P one.words)) (sym is) tt
