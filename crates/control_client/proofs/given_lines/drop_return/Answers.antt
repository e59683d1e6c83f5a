use Rattle.std.proofs.Common.{ap, length, take, ◌∙◌, ℕ}
use Rattle.control_line.specs.Rules.{without_return}
use Rattle.control_client.proofs.LinesLemmas.{take-without_return}
use Rattle.control_client.proofs.given_lines.drop_return.Goals as goal

pub returns : goal.returns
returns c =
    c.truncate.ensures.items
    ∙ ap (λ (n : ℕ). take n c.args.line.now.items) (ap length (c.without_return-len.ensures ∙ ap without_return c.as_slice.ensures.value))
    ∙ take-without_return c.args.line.now.items
