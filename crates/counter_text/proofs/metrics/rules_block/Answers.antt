use Rattle.std.proofs.Common.{◌≡◌, ◌++◌, List, codes, string_bytes, ℕ}
use Rattle.std.proofs.lemmas.Result.{on_ok_weaker}
use Rattle.counter_text.specs.Metrics.{single_block}
use Rattle.counter_text.specs.declared.metrics.TheConstants.{CHARGE_LIMIT}
use Rattle.counter_text.proofs.PieceLemmas.{more}
use Rattle.counter_text.proofs.metrics.rules_block.Goals as goal

pub returns : goal.returns
returns c =
    let gauge : List ℕ → List ℕ → ℕ → List ℕ = λ name help value. single_block name (codes "gauge") help value in
    let p1 = gauge (codes "dswitch_rules_version") (codes "The version of the rules.") c.args.version in
    let p2 = gauge (codes "dswitch_rules_charge") (codes "The charge of the rules.") c.args.charge in
    let p3 = gauge (codes "dswitch_rules_charge_limit") (codes "The largest charge that rules may have.") CHARGE_LIMIT in
    let p4 = gauge (codes "dswitch_groups") (codes "Groups of the rules.") c.args.counts.0 in
    let p5 = gauge (codes "dswitch_members") (codes "Members of all groups.") c.args.counts.1 in
    let old = string_bytes c.args.text.now in
    let t2 = more old p1 p2 c.in_ok-gauge-2.ensures c.in_ok-gauge.ensures in
    let t3 = more old (p1 ++ p2) p3 c.in_ok-gauge-3.ensures t2 in
    let t4 = more old (p1 ++ p2 ++ p3) p4 c.in_ok-gauge-4.ensures t3 in
    on_ok_weaker c.gauge-5.result
    (λ (is : string_bytes c.gauge-5.new.text ≡ string_bytes c.gauge-4.new.text ++ p5). more old (p1 ++ p2 ++ p3 ++ p4) p5 is t4)
    c.gauge-5.ensures
