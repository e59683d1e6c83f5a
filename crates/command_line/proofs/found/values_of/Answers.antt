use Rattle.std.proofs.Common.{[], Bor, List, Option, ap, map, unwrap_or, ◌∙◌, ℕ}
use Rattle.std.proofs.lemmas.Result.{IfOk-weaker}
use Rattle.clap.specs.Words.{found_of}
use Rattle.clap.proofs.WalkLemmas.{raw_values-rows}
use Rattle.command_line.proofs.found.values_of.Goals as goal

pub returns-in-None : goal.returns-in-None
returns-in-None c =
    ap (map (λ (value : Bor (List ℕ)). value.now)) c.new.ensures.items
    ∙ ap (λ (found : Option (List (List ℕ))). unwrap_or found []) (c.in-None.ensures ∙ raw_values-rows (found_of c.args.found.now) c.args.id.now)

pub returns-in-Some : goal.returns-in-Some
returns-in-Some c =
    let found = ap (λ (texts : Option (List (List ℕ))). unwrap_or texts []) (c.in-Some.ensures ∙ raw_values-rows (found_of c.args.found.now) c.args.id.now) in
    IfOk-weaker c.from_slice.result _ _ (λ values same. ap (map (λ (value : Bor (List ℕ)). value.now)) same ∙ found) c.from_slice.ensures.items
