use Rattle.std.proofs.Common.{inl, refl, rules}
use Rattle.command_operating.proofs.LoadingLemmas.{loaded_begun}
use Rattle.command_operating.proofs.loading.print_loaded.Goals as goal

pub returns-in_err-print_line-in-Unchanged-clause-begun : goal.returns-in_err-print_line-in-Unchanged-clause-begun
returns-in_err-print_line-in-Unchanged-clause-begun g c = loaded_begun c.args.loaded.now _ _ _ (rw c.in-Unchanged.is (inl refl)) (search rules)

pub returns-in_err-print_line-in-Published-clause-begun : goal.returns-in_err-print_line-in-Published-clause-begun
returns-in_err-print_line-in-Published-clause-begun g c = loaded_begun c.args.loaded.now _ _ _ (rw c.in-Published.is (inl refl)) (search rules)
