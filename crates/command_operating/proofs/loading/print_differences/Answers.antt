use Rattle.std.proofs.Common.{refl}
use Rattle.command_operating.proofs.BegunLemmas.{begun_if}
use Rattle.command_operating.proofs.LoadingLemmas.{changes_begun}
use Rattle.command_operating.proofs.ShowingLemmas.{changes_learned}
use Rattle.command_operating.proofs.loading.print_differences.Goals as goal

pub returns-clause-shown : goal.returns-clause-shown
returns-clause-shown g c =
    let read = rw c.in-Some.is at c.in-Ok.ensures.read in
    let printed = rw c.deref.ensures.value at c.in_ok-write_through.ensures.written in
    (c.in-Some.changes.items, changes_learned _ _ c.args.client.now.switch c.args.config.now c.in-Some.changes.items refl read, printed)

pub returns-in_err-write_through-clause-begun : goal.returns-in_err-write_through-clause-begun
returns-in_err-write_through-clause-begun g c =
    let read = rw c.in-Some.is at c.in-Ok.ensures.read in
    begun_if _ c.from_residual.result
    (changes_begun c.args.client.now.switch c.args.config.now _ _ c.in-Some.changes.items
    (changes_learned _ _ c.args.client.now.switch c.args.config.now c.in-Some.changes.items refl read) (rw c.deref.ensures.value at c.write_through.ensures.beginning))
