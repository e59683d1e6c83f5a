use Rattle.std.proofs.Common.{rules, ◌≡◌, ◌∙◌, ◌+◌, ◌++◌, ◌∷◌, ◌<◌, ◌≤◌, ◌%◌, List, [], ap, ap₂, arith, length, length-append, sym, ℕ}
use Rattle.std.proofs.Math.Nat.{add-mod_right, mod-eq_of_lt}
use Rattle.command_flood.proofs.TrafficLemmas.{none_before, none_beyond, stride_to}
use Rattle.command_flood.proofs.traffic.share.Goals as goal
use Rattle.command_flood.proofs.traffic.share.Goals.{else-loop-i-test, else-worker-workers, then-loop-i-test+in_ok-datagram+in_ok-push+else-workers-datagrams, then-worker-workers}

pub loop-i-init : goal.loop-i-init
loop-i-init c =
    let worker = c.args.worker in let workers = c.args.workers in let datagrams = c.args.datagrams in
    let none = c.new-share.ensures.none in
    elim c.if-worker-workers.branch [
      | then-worker-workers w ↦
          let first = w.first-is in let inside : worker < workers = search rules in
          let early : c.if-worker-workers.first ≤ worker = omega arith in (
            (λ below. (none ∙ sym (none_before worker workers c.if-worker-workers.first inside early), ap (λ n. n % workers) first ∙ mod-eq_of_lt inside)),
            (λ past. let all : datagrams ≤ worker = omega arith in none ∙ sym (none_before worker workers datagrams inside all)),
            sym (ap length none),
            omega arith,
          )
      | else-worker-workers w ↦
          let first = w.first-is in let outside : workers ≤ worker = search rules in (
            (λ below. absurd (omega arith)),
            (λ past. none ∙ sym (none_beyond worker workers datagrams c.requires outside)),
            sym (ap length none),
            omega arith,
          )
    ]

pub overflow_add-count : goal.overflow_add-count
overflow_add-count c =
    let few = c.loop-i.invariant.3 in let below = c.loop-i-test.true in let most = c.ranges.datagrams in omega arith

pub loop-i-preserved : goal.loop-i-preserved
loop-i-preserved c =
    let i = c.loop-i.i in let worker = c.args.worker in let workers = c.args.workers in
    let near : i + workers < c.args.datagrams = search rules in
    let before = c.loop-i.invariant.0 c.loop-i-test.true in
    let pushed = c.in_ok-push.ensures.behind in
    let some = c.requires in let few = c.loop-i.invariant.3 in
    let many : length c.push.new.self ≡ length c.loop-i.share + 1 = ap length pushed ∙ length-append c.loop-i.share (c.in_ok-datagram.field-0.items ∷ []) in (
      (λ below. (
        pushed ∙ ap₂ (λ (xs : List (List ℕ)) (x : List ℕ). xs ++ x ∷ []) before.0 c.in_ok-datagram.ensures
            ∙ sym (stride_to worker workers i (i + workers) before.1 (omega arith) (omega arith)),
        add-mod_right i workers ∙ before.1,
      )),
      (λ past. absurd (omega arith)),
      ap (λ n. n + 1) c.loop-i.invariant.2 ∙ sym many,
      omega arith,
    )

pub returns-clause-share : goal.returns-clause-share
returns-clause-share c =
    let i = c.loop-i.i in let worker = c.args.worker in let workers = c.args.workers in
    elim c.loop-i-test.branch [
      | else-loop-i-test w ↦ w.share-is ∙ c.loop-i.invariant.1 (search rules)
      | then-loop-i-test+in_ok-datagram+in_ok-push+else-workers-datagrams w ↦
          let near : c.args.datagrams ≤ i + workers = search rules in
          let before = c.loop-i.invariant.0 w.loop-i-test.true in
          w.share-is ∙ w.in_ok-push.ensures.behind ∙ ap₂ (λ (xs : List (List ℕ)) (x : List ℕ). xs ++ x ∷ []) before.0 w.in_ok-datagram.ensures
          ∙ sym (stride_to worker workers i c.args.datagrams before.1 w.loop-i-test.true near)
    ]

pub returns-clause-count : goal.returns-clause-count
returns-clause-count c =
    let counted : c.loop-i-test.count ≡ length c.loop-i-test.share = elim c.loop-i-test.branch [
      | else-loop-i-test w ↦ w.count-is ∙ c.loop-i.invariant.2 ∙ sym (ap length w.share-is)
      | then-loop-i-test+in_ok-datagram+in_ok-push+else-workers-datagrams w ↦
          let many = ap length (w.share-is ∙ w.in_ok-push.ensures.behind) ∙ length-append c.loop-i.share (w.in_ok-datagram.field-0.items ∷ []) in
          w.count-is ∙ ap (λ n. n + 1) c.loop-i.invariant.2 ∙ sym many
    ] in
    counted ∙ ap length (returns-clause-share c)
