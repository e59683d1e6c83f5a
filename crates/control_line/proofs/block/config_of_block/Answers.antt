use Rattle.std.proofs.Common.{[], refl, subst, sym}
use Rattle.std.specs.Prelude.{MatchResult}
use Rattle.control_line.specs.body.Blocks.{AreDone, IsFirstFault, IsStart}
use Rattle.control_line.proofs.block.config_of_block.Goals as goal

pub returns-in-Empty : goal.returns-in-Empty
returns-in-Empty c = (
  [],
  subst (λ start. IsStart start c.args.operator.now.view []) (sym c.in-Empty.is) refl,
  λ them are. subst (λ real. MatchResult c.config_of_lines-in-Empty.result (AreDone real them) (IsFirstFault real them)) c.new.ensures.empty
      (c.config_of_lines-in-Empty.ensures them are),
)
