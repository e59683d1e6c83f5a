use Rattle.std.proofs.Common.{subst, ◌≡◌}
use Rattle.std.specs.Prelude.{if◌then◌else◌}
use Rattle.bpf_insn.specs.declared.instruction.Insn.TheVariants.{JumpIf}
use Rattle.bpf_insn.specs.Table.{offsets}
use Rattle.filter_emit.specs.declared.fixup.Side.TheVariants.{WhenTrue}
use Rattle.filter_emit.proofs.BranchLemmas.{Tells, fall_through_words}
use Rattle.filter_emit.proofs.FallThroughLemmas.{branch_if_guards, skip_none, skip_over}
use Rattle.filter_emit.proofs.code.Code.branch_if.Goals as goal
use Rattle.filter_emit.proofs.code.Code.branch_if.Goals.{else-far, then-far}

pub returns : goal.returns
returns g c =
    let place = c.len-place.result in let yes = c.args.yes.now in let far = c.is_far-far.result in
    let skip : c.if-far.jf ≡ (if far then 1 else 0) = elim c.if-far.branch [
      | then-far w ↦ skip_over c.if-far.jf far w.if-far.true w.jf-is
      | else-far w ↦ skip_none c.if-far.jf far w.if-far.false w.jf-is
    ] in
    let told : Tells place yes.by far = subst (λ by. Tells place by far) c.by.ensures.by (record { if_far = c.is_far-far.ensures.far; if_near = c.is_far-far.ensures.near }) in record {
      guards = branch_if_guards c.args.self.now c.push.new.self c.note.new.self place c.if-far.jf c.args.test c.args.operand yes c.note.new.label
          c.len-place.ensures.length c.in_ok-note.ensures.by far told skip c.in_ok-push.ensures.appended c.in_ok-note.ensures.noted;
      words = rw (← c.len-place.ensures.length)
          (fall_through_words far place WhenTrue (JumpIf c.args.test c.args.operand (offsets 0 c.if-far.jf)) c.args.self.now c.push.new.self c.note.new.self yes c.note.new.label c.len-place.ensures.length c.in_ok-push.ensures.appended told c.in_ok-note.ensures.noted);
    }
