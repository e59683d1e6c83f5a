use Rattle.std.proofs.Common.{◌∙◌, sym}
use Rattle.command_explain.specs.Explanation.{explanations_from_i, explanations_to_h}
use Rattle.command_explain.proofs.TableLemmas.{beside_back, beside_front}
use Rattle.command_explain.proofs.text_of.Goals as goal

pub returns-in-Some : goal.returns-in-Some
returns-in-Some c = sym (beside_front explanations_to_h explanations_from_i c.args.code.now c.in-Some.text.now (sym c.in-Some.ensures))

pub returns-in-None : goal.returns-in-None
returns-in-None c =
    c.text_from_i.ensures ∙ sym (beside_back explanations_to_h explanations_from_i c.args.code.now (sym c.in-None.ensures))
