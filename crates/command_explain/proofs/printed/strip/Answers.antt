use Rattle.std.proofs.Common.{subst, ◌≡◌, ◌≢◌, ◌++◌, List, MatchOption, ℕ}
use Rattle.std.proofs.lemmas.Bool.Decides.{Decides-eqb}
use Rattle.std.proofs.lemmas.Slice.Eq.{strip_prefix_is}
use Rattle.command_explain.proofs.printed.strip.Goals as goal

pub returns : goal.returns
returns c =
    let text = c.args.text.now in
    let result = c.strip_prefix.result in
    subst (λ (front : List ℕ). MatchOption result ((rest : List ℕ) → text ≢ front ++ rest) (λ rest. text ≡ front ++ rest.now)) c.as_bytes.ensures.value
    (strip_prefix_is Decides-eqb text _ result c.strip_prefix.ensures.cases)
