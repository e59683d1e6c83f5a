use Rattle.std.proofs.Common.{refl}
use Rattle.std.proofs.lemmas.Result.{on_ok_weaker}
use Rattle.filter_emit.proofs.GuardLemmas.{Extends-pushed, Extends-writes}
use Rattle.filter_compile.proofs.HeaderLemmas.{Decides-length}
use Rattle.filter_compile.proofs.primitive.bytes.Goals as goal

pub returns : goal.returns
returns g c = record {
  writes = on_ok_weaker c.branch-code.result
      (λ w. Extends-writes (λ at_yes at_no mid words pushed checks. Decides-length c.args.test c.args.n at_yes at_no mid words pushed checks) (Extends-pushed (λ len pc. refl) c.in_ok-push.ensures.appended) w)
      c.branch-code.ensures.writes;
}
