use Rattle.std.proofs.Common.{◌≡◌, rules, string_bytes, subst, sym}
use Rattle.bpf_formats.specs.Hex.{IsHex, hex_text}
use Rattle.bpf_formats.proofs.PrintLemmas.{Fit, fit-from_each, hex_back}
use Rattle.bpf_formats.proofs.printing.print_hex.Goals as goal

pub returns-clause-reads_back : goal.returns-clause-reads_back
returns-clause-reads_back g c =
    let words = c.args.program.now.words in
    let fit = fit-from_each c.words.result.now c.in_ok-push_lines.ensures.fits in
    let printed : string_bytes c.push_lines.new.text ≡ hex_text words = search rules in
    subst (λ text. IsHex text words) (sym printed) (hex_back words (subst Fit c.words.ensures.words fit))
