use Rattle.std.proofs.Common.{◌≡◌, ◌∙◌, ◌++◌, List, ap, codes, string_bytes, ℕ}
use Rattle.std.proofs.lemmas.Result.{on_ok_weaker}
use Rattle.counter_text.specs.Metrics.{group_labels, sample, with_result}
use Rattle.counter_text.proofs.PieceLemmas.{more}
use Rattle.counter_text.proofs.metrics.group_datagrams.Goals as goal

pub returns : goal.returns
returns c =
    let group = c.args.group.now in
    let piece : List ℕ → List ℕ → ℕ → List ℕ = λ labels name value. sample (codes "dswitch_group_datagrams_total") (with_result labels name) value in
    let labels = group_labels group.key in
    let none = piece labels (codes "nomembers") group.nomembers in
    let lost = piece labels (codes "dropped") group.dropped in
    let sent = piece labels (codes "delivered") group.delivered in
    let old = string_bytes c.args.text.now in
    let first = string_bytes c.result_sample.new.text in
    let second = string_bytes c.result_sample-2.new.text in
    let t1 = c.in_ok-result_sample.ensures ∙ ap (λ l. old ++ piece l (codes "nomembers") group.nomembers) c.requires in
    let t2 = more old none lost (c.in_ok-result_sample-2.ensures ∙ ap (λ l. first ++ piece l (codes "dropped") group.dropped) c.requires) t1 in
    on_ok_weaker c.result_sample-3.result
    (λ (is : string_bytes c.result_sample-3.new.text ≡ second ++ piece c.args.labels.now (codes "delivered") group.delivered).
    more old (none ++ lost) sent (is ∙ ap (λ l. second ++ piece l (codes "delivered") group.delivered) c.requires) t2)
    c.result_sample-3.ensures
