use Rattle.std.proofs.Common.{◌≡◌, arith, rules, string_bytes, subst, sym}
use Rattle.bpf_formats.specs.Ddd.{IsDdd, ddd_text}
use Rattle.bpf_formats.proofs.PrintLemmas.{Fit, ddd_back, fit-from_each}
use Rattle.bpf_formats.proofs.printing.print_ddd.Goals as goal

pub returns-clause-reads_back : goal.returns-clause-reads_back
returns-clause-reads_back g c =
    let words = c.args.program.now.words in
    let fit = fit-from_each c.words-words.result.now c.in_ok-push_lines.ensures.fits in
    let printed : string_bytes c.push_lines.new.text ≡ ddd_text words = search rules in
    let few = c.words-words.ensures.program.accepted.not_too_long in
    subst (λ text. IsDdd text words) (sym printed) (ddd_back words (omega arith) (subst Fit c.words-words.ensures.words fit))
