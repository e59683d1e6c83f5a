use Rattle.std.proofs.Common.{◌+◌, List, arith, subst, sym, ℕ}
use Rattle.filter_emit.proofs.GuardLemmas.{Extends-writes}
use Rattle.filter_emit.proofs.WritesLemmas.{Writes-weight}
use Rattle.filter_tree.specs.Outcome.{tested}
use Rattle.filter_facts.specs.Known.{Holds, IsInA, loaded_of}
use Rattle.filter_compile.specs.body.Header.{by_header, keeps_a, passes, weight_of_check, where_kept}
use Rattle.filter_compile.proofs.HeaderLemmas.{header_there, loaded-below}
use Rattle.filter_compile.proofs.TestLemmas.{Decides-brought, Tests-decided}
use Rattle.filter_compile.proofs.ends.test_end.Goals as goal

pub returns : goal.returns
returns g c =
    let end = c.args.end in let check = c.args.check.now in let known = c.args.known in let on = c.with_in_a.result in let kept = keeps_a check in let in_a = c.in_a.result in
    let left : (packet : List ℕ) (a a' x : ℕ) → Holds known packet a x → IsInA (where_kept kept end) packet a' → Holds on packet a' x = λ packet a a' x h is. c.with_in_a.ensures.holds packet a a' x h (subst (λ o. IsInA o packet a') (sym c.left_in_a.ensures) is) in record {
      writes = Writes-weight (weight_of_check check + 1) (omega arith)
          (Extends-writes
          (λ at_yes at_no mid words brings asks. Tests-decided (by_header end) in_a (where_kept kept end) (Holds known) (Holds on) (Holds on) (λ packet. tested (passes check) (loaded_of end packet)) at_yes at_no words (header_there end known c.requires.header) c.in_a.ensures.known
          (λ packet a a' x h is yes. left packet a a' x h is) (λ packet a a' x h is no. left packet a a' x h is) (Decides-brought in_a end kept (passes check) at_yes at_no mid words (loaded-below end) brings asks))
          c.in_ok-load.ensures.extends c.in_ok-ask.ensures.writes);
      same = record { packet = c.with_in_a.ensures.same_packet; x = c.with_in_a.ensures.same_x };
    }
