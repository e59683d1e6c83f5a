use Rattle.std.proofs.Common.{◌∙◌, Bor, List, ap, map, ℕ}
use Rattle.std.proofs.lemmas.Result.{IfOk-weaker}
use Rattle.clap.specs.Words.{found_of, rows_of}
use Rattle.command_line.proofs.CommandLineLemmas.{spread_none, spread_some}
use Rattle.command_line.proofs.found.spread.Goals as goal

pub returns-in_default : goal.returns-in_default
returns-in_default c =
    let none = rw c.in_default.is at c.in_ok-asked.ensures in
    spread_none (rows_of (found_of c.args.found.now)) c.value_of-buckets.result.now c.value_of-by.result.now (map (λ (word : Bor (List ℕ)). word.now) c.deref.result.now)
    c.value_of-buckets.ensures c.value_of-by.ensures (ap (map (λ (word : Bor (List ℕ)). word.now)) c.deref.ensures.value ∙ c.in_ok-words.ensures) none

pub returns : goal.returns
returns c =
    let some = rw c.in-Some.is at c.in_ok-asked.ensures in
    let asked = c.in-Some.asked in
    IfOk-weaker c.returning.result _ _ (λ made is. is ∙ spread_some (rows_of (found_of c.args.found.now)) c.value_of-buckets.result.now c.value_of-by.result.now
    (map (λ (word : Bor (List ℕ)). word.now) c.deref.result.now) c.value_of-buckets.ensures c.value_of-by.ensures
    (ap (map (λ (word : Bor (List ℕ)). word.now)) c.deref.ensures.value ∙ c.in_ok-words.ensures) (asked.depth, asked.by, asked.shares.items) some)
    c.returning.ensures
