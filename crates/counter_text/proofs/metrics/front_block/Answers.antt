use Rattle.std.proofs.Common.{◌≡◌, ◌∙◌, ◌++◌, List, ap, codes, string_bytes, ℕ}
use Rattle.std.proofs.lemmas.Result.{on_ok_weaker}
use Rattle.counter_text.specs.Metrics.{block_head, front_labels, sample}
use Rattle.counter_text.proofs.PieceLemmas.{more}
use Rattle.counter_text.proofs.metrics.front_block.Goals as goal

pub returns : goal.returns
returns c =
    let name : List ℕ = codes "dswitch_front_kernel_drops_total" in
    let head = block_head name (codes "counter") (codes "Datagrams that the kernel dropped at the sockets of the front.") in
    let labels : c.deref.result.now ≡ front_labels c.in-Some.it.front = c.deref.ensures ∙ c.in_ok-labels.ensures in
    let same = ap (λ text. sample name text c.in-Some.it.drops) labels in
    rw c.in-Some.is
    (on_ok_weaker c.sample.result
    (λ (is : string_bytes c.sample.new.text ≡ string_bytes c.block_head.new.text ++ sample name c.deref.result.now c.in-Some.it.drops).
    more (string_bytes c.args.text.now) head (sample name (front_labels c.in-Some.it.front) c.in-Some.it.drops) (is ∙ ap (λ piece. string_bytes c.block_head.new.text ++ piece) same) c.in_ok-block_head.ensures)
    c.sample.ensures)
