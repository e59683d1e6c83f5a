use Rattle.std.proofs.Common.{◌≡◌, ◌∙◌, Some, ap, subst, sym, true}
use Rattle.filter_facts.specs.Told.{ports_in, ports_told}
use Rattle.filter_facts.proofs.header.join_headers.Goals as goal

pub returns-then-f-clause-ports : goal.returns-then-f-clause-ports
returns-then-f-clause-ports c one other =
    let case = c.in-Ipv4-Ipv4 in let e1 : ports_told case.p case.a ≡ Some true = sym (ap ports_in case.is-0) ∙ one in let e2 : ports_told case.q case.b ≡ Some true = sym (ap ports_in case.is-1) ∙ other in
    subst (λ ports. ports_told c.join_protocols.result ports ≡ Some true) (sym (c.are_true-with_ports.ensures.both (c.ports.ensures ∙ e1) (c.ports-in-Ipv4-Ipv4.ensures ∙ e2))) (c.join_protocols.ensures.ports case.a case.b e1 e2)

pub returns-else-f-clause-ports : goal.returns-else-f-clause-ports
returns-else-f-clause-ports c one other =
    let case = c.in-Ipv4-Ipv4 in let e1 : ports_told case.p case.a ≡ Some true = sym (ap ports_in case.is-0) ∙ one in let e2 : ports_told case.q case.b ≡ Some true = sym (ap ports_in case.is-1) ∙ other in
    subst (λ ports. ports_told c.join_protocols.result ports ≡ Some true) (sym (c.are_true-with_ports.ensures.both (c.ports.ensures ∙ e1) (c.ports-in-Ipv4-Ipv4.ensures ∙ e2))) (c.join_protocols.ensures.ports case.a case.b e1 e2)
