use Rattle.std.proofs.Common.{arith, ◌∙◌, ◌++◌, List, ap, ℕ}
use Rattle.command_query.proofs.JoinLemmas.{spaced_cut}
use Rattle.command_query.proofs.explaining.join_words.Goals as goal

pub loop-left-init : goal.loop-left-init
loop-left-init c =
    let text = c.in_ok-extend_from_slice.ensures.items ∙ ap (λ (t : List ℕ). t ++ c.as_bytes.result.now) c.new-text.ensures.items in
    spaced_cut c.args.words.now c.extend_from_slice.new.self.items _ (omega (arith, c.in-len1-up.len_at_least)) (text ∙ c.as_bytes.ensures.value)
