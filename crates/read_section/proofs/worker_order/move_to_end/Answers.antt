use Rattle.std.proofs.Common.{◌∙◌, ◌<◌, ◌++◌, ◌∷◌, IsPermutation, List, [], ap, arith, length, subst, sym, rules}
use Rattle.std.proofs.lemmas.List.Sorted.{IsPermutation-remove, IsPermutation-sym, IsPermutation-to_front, IsPermutation-trans}
use Rattle.std.specs.List.{remove}
use Rattle.read_section.specs.Worker.{WorkerValue}
use Rattle.read_section.proofs.OrderLemmas.{one_at, stays}
use Rattle.read_section.proofs.worker_order.move_to_end.Goals as goal

pub returns-clause-same_workers : goal.returns-clause-same_workers
returns-clause-same_workers c =
    let workers : List WorkerValue = c.args.workers.now.items in let first : WorkerValue = c.remove-worker.result in
    let rest : List WorkerValue = remove workers c.args.place in
    let many = c.args.workers.now.ok.0 in let counted = c.len.ensures in let inside : c.args.place < length workers = omega arith in
    let after = c.in-Ok.ensures.items ∙ ap (λ (all : List WorkerValue). all ++ first ∷ []) c.remove-worker.ensures.items in
    subst (λ (all : List WorkerValue). IsPermutation workers all) (sym after)
    (IsPermutation-trans workers (first ∷ rest) (rest ++ first ∷ []) (IsPermutation-remove workers c.args.place first inside c.remove-worker.ensures.value)
    (IsPermutation-sym (rest ++ first ∷ []) (first ∷ rest) (IsPermutation-to_front rest first)))

pub returns-clause-count : goal.returns-clause-count
returns-clause-count c = search rules

pub returns-then-place-len-clause-count : goal.returns-then-place-len-clause-count
returns-then-place-len-clause-count c = search rules

pub returns-then-place-len-clause-same_workers : goal.returns-then-place-len-clause-same_workers
returns-then-place-len-clause-same_workers c = search rules

pub returns-clause-moved : goal.returns-clause-moved
returns-clause-moved c =
    let workers : List WorkerValue = c.args.workers.now.items in
    let many = c.args.workers.now.ok.0 in let counted = c.len.ensures in let inside : c.args.place < length workers = omega arith in
    c.in-Ok.ensures.items
    ∙ ap (λ (all : List WorkerValue). all ++ c.remove-worker.result ∷ []) c.remove-worker.ensures.items
    ∙ ap (λ (last : List WorkerValue). remove workers c.args.place ++ last) (sym (one_at c.args.place workers c.remove-worker.result inside c.remove-worker.ensures.value))

pub returns-then-place-len-clause-moved : goal.returns-then-place-len-clause-moved
returns-then-place-len-clause-moved c = sym (stays c.args.place c.args.workers.now.items (omega arith))
