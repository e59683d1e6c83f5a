use Rattle.std.proofs.Common.{arith, get_or, subst, sym, ℕ}
use Rattle.std.proofs.lemmas.Grind.{common_steps}
use Rattle.std.proofs.lemmas.Option.{get_or_from_slice_get, slice_get-get_or}
use Rattle.versions.specs.Free.{IsFreePage}
use Rattle.versions.specs.Table.{the_shape}
use Rattle.retire.proofs.SharingLemmas.{not_empty}
use Rattle.retire.proofs.pages.begins_free.Goals as goal

pub returns : goal.returns
returns c = let own = c.args.own.now in let exact = c.page_is_free.ensures.page_free_exact in (
  λ t. (get_or own 0 0, slice_get-get_or own 0 0 (not_empty own c.is_empty.result c.is_empty.ensures c.if-is_empty.false), exact.0 t),
  λ t. exact.1 (subst (λ (page : ℕ). IsFreePage the_shape c.args.operator.now.view page) (sym (get_or_from_slice_get own 0 t.0 0 t.1)) t.2),
)

pub returns-then-is_empty : goal.returns-then-is_empty
returns-then-is_empty c = grind (arith, common_steps)
