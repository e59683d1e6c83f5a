-- The line of totals from its two halves.
use Rattle.std.proofs.Common.{◌≡◌, ◌∙◌, ◌++◌, List, Option, ap, append_assoc, codes, decimal, refl, subst, sym, ℕ}
use Rattle.std.proofs.KnownBytes.{Appends-trans}
use Rattle.std.specs.Io.KnownBytes.{Appends}
use Rattle.packet_verdict.specs.declared.kind.Kind.{Kind}
use Rattle.packet_verdict.specs.declared.kind.Kind.TheVariants.{Delivered, ReceiveFailed, SendFailed}
use Rattle.dispatch.specs.declared.kind.Totals.{Totals}
use Rattle.dispatch.specs.Tally.{total_of}
use Rattle.dispatch.specs.Totals.{WritesTotals, totals_text}
use Rattle.command_line.specs.Ending.{AppendsBeginning}
use Rattle.command_totals.specs.Beginning.{BeginsTotals}
use Rattle.command_totals.specs.body.Halves.{first_half, second_half}
use Rattle.command_totals.proofs.BeginningLemmas.{begins_first, begins_then}

one_more : (first more piece all : List ℕ) → first ++ more ≡ all → first ++ (more ++ piece) ≡ all ++ piece
one_more first more piece all is = sym (append_assoc first more piece) ∙ ap (λ (l : List ℕ). l ++ piece) is

six_more : (first a b c d e f : List ℕ) → first ++ (a ++ b ++ c ++ d ++ e ++ f) ≡ first ++ a ++ b ++ c ++ d ++ e ++ f
six_more first a b c d e f =
    one_more first (a ++ b ++ c ++ d ++ e) f (first ++ a ++ b ++ c ++ d ++ e)
    (one_more first (a ++ b ++ c ++ d) e (first ++ a ++ b ++ c ++ d)
    (one_more first (a ++ b ++ c) d (first ++ a ++ b ++ c)
    (one_more first (a ++ b) c (first ++ a ++ b)
    (one_more first a b (first ++ a) refl))))

both_halves : (totals : Totals) → first_half totals ++ second_half totals ≡ totals_text totals
both_halves totals =
    let count : Kind → List ℕ = λ kind. decimal (total_of totals kind) in
    six_more (first_half totals) (codes " delivered ") (count Delivered) (codes " sendfailed ") (count SendFailed) (codes " receivefailed ") (count ReceiveFailed)

whole_line : (totals : Totals) → first_half totals ++ (second_half totals ++ codes "\n") ≡ totals_text totals ++ codes "\n"
whole_line totals = one_more (first_half totals) (second_half totals) (codes "\n") (totals_text totals) (both_halves totals)

pub writes_totals : (totals : Totals) (before between after : Option (List ℕ)) → Appends before between (first_half totals)
    → Appends between after (second_half totals ++ codes "\n") → WritesTotals totals before after
writes_totals totals before between after first second =
    subst (Appends before after) (whole_line totals)
    (Appends-trans before between after (first_half totals) (second_half totals ++ codes "\n") first second)

-- up to a failed write
pub first_begun : (totals : Totals) (before after : Option (List ℕ)) → AppendsBeginning before after (first_half totals) → BeginsTotals totals before after
first_begun totals before after begun =
    subst (AppendsBeginning before after) (whole_line totals) (begins_first before after (first_half totals) (second_half totals ++ codes "\n") begun)

pub second_begun : (totals : Totals) (before between after : Option (List ℕ)) → Appends before between (first_half totals)
    → AppendsBeginning between after (second_half totals ++ codes "\n") → BeginsTotals totals before after
second_begun totals before between after first begun =
    subst (AppendsBeginning before after) (whole_line totals)
    (begins_then before between after (first_half totals) (second_half totals ++ codes "\n") first begun)
