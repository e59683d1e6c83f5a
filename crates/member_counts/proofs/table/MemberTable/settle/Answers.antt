use Rattle.std.proofs.Common.{◌<◌, ◌∙◌, List, [], ap, arith, length, subst, sym}
use Rattle.std.specs.List.{IsDistinct}
use Rattle.std.specs.Map.{keys_of}
use Rattle.bpf_verify.specs.Program.{ProgramValue}
use Rattle.member_group.specs.Group.{GroupOf}
use Rattle.member_counts.specs.declared.TheConstants.{KEPT_LIMIT}
use Rattle.member_counts.specs.Key.{same_key}
use Rattle.member_counts.specs.Table.{Conserves, Table, kept_at, without_lacking}
use Rattle.member_counts.proofs.SettleLemmas.{conserves, current_kept, limited, over_limit}
use Rattle.member_counts.proofs.table.MemberTable.settle.Goals as goal

pub returns-clause-settled : goal.returns-clause-settled
returns-clause-settled c =
    let same_length = ap (λ (table : Table). length table.entries) c.self.view_is in
    let over : KEPT_LIMIT < length c.args.self.now.entries = omega (arith, same_length) in
    c.remove_lacking.ensures.removed ∙ ap (λ (config : List (GroupOf ProgramValue)). without_lacking config c.args.self.now) c.groups.ensures.groups
    ∙ sym (over_limit c.args.config.now c.args.self.now over)

pub returns-clause-current_kept : goal.returns-clause-current_kept
returns-clause-current_kept c = λ key current.
    let left = c.remove_lacking.ensures.removed ∙ ap (λ (config : List (GroupOf ProgramValue)). without_lacking config c.args.self.now) c.groups.ensures.groups in
    ap (kept_at key) left ∙ current_kept c.args.config.now c.args.self.now key current

pub returns-clause-conserved : goal.returns-clause-conserved
returns-clause-conserved c =
    let left = c.remove_lacking.ensures.removed ∙ ap (λ (config : List (GroupOf ProgramValue)). without_lacking config c.args.self.now) c.groups.ensures.groups in
    subst (λ (table : Table). Conserves c.args.self.now [] table) (sym left) (conserves c.args.config.now c.args.self.now)

pub returns-clause-limited : goal.returns-clause-limited
returns-clause-limited c =
    let left = c.remove_lacking.ensures.removed ∙ ap (λ (config : List (GroupOf ProgramValue)). without_lacking config c.args.self.now) c.groups.ensures.groups in
    let once = subst (λ (table : Table). IsDistinct same_key (keys_of table.entries)) left c.remove_lacking.ensures.once in
    rw left (limited c.args.config.now c.args.self.now c.groups.ensures.config once)
