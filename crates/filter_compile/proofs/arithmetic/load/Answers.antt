use Rattle.std.proofs.lemmas.Result.{on_ok_weaker}
use Rattle.filter_emit.proofs.GuardLemmas.{Extends-means}
use Rattle.filter_compile.proofs.StepLemmas.{Extends-behind}
use Rattle.filter_compile.proofs.arithmetic.load.Goals as goal

pub returns-in-Ip : goal.returns-in-Ip
returns-in-Ip g c = record { loads = rw c.in-Ip.is (on_ok_weaker c.load_at.result (λ e. Extends-means (λ later words h d. h c.args.held d) e) c.load_at.ensures.loads) }

pub returns-in_ok-push-in_default : goal.returns-in_ok-push-in_default
returns-in_ok-push-in_default g c = record {
  loads = on_ok_weaker c.load_at-in_default.result
      (λ e. Extends-behind c.args.protocol c.args.bytes c.args.held c.in_default.not-Ip c.in_ok-load_header-in_default.ensures.extends c.in_ok-push-in_default.ensures.appended e)
      c.load_at-in_default.ensures.loads;
}
