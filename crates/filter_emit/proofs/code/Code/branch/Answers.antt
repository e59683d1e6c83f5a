use Rattle.std.proofs.Common.{subst, ◌≡◌}
use Rattle.bpf_insn.specs.declared.instruction.Insn.TheVariants.{JumpIf}
use Rattle.bpf_insn.specs.Table.{offsets}
use Rattle.filter_emit.proofs.BranchLemmas.{Tells, branch_words, branch_writes, skip_both, skip_not, skip_of}
use Rattle.filter_emit.proofs.code.Code.branch.Goals as goal
use Rattle.filter_emit.proofs.code.Code.branch.Goals.{else-far_yes, then-far_yes+then-far_no}

pub returns : goal.returns
returns g c =
    let place = c.len-place.result in let begins = c.len-place.ensures.length in let yes = c.args.yes.now in let no = c.args.no.now in let far_yes = c.is_far-far_yes.result in let far_no = c.is_far-far_no.result in
    let skip : c.if-far_yes.jf ≡ skip_of far_yes far_no = elim c.if-far_yes.branch [
      | then-far_yes+then-far_no w ↦ skip_both c.if-far_yes.jf far_yes far_no w.if-far_yes.true w.if-far_no.true w.jf-is
      | else-far_yes w ↦ skip_not c.if-far_yes.jf far_yes far_no w.else-far_yes.either w.jf-is
    ] in
    let yes_told : Tells place yes.by far_yes = subst (λ by. Tells place by far_yes) c.by.ensures.by (record { if_far = c.is_far-far_yes.ensures.far; if_near = c.is_far-far_yes.ensures.near }) in
    let no_told : Tells place no.by far_no = subst (λ by. Tells place by far_no) c.by-2.ensures.by (record { if_far = c.is_far-far_no.ensures.far; if_near = c.is_far-far_no.ensures.near }) in
    record {
      writes = branch_writes c.args.self.now c.push.new.self c.note.new.self c.note-2.new.self place c.if-far_yes.jf c.args.test c.args.operand yes c.note.new.label no c.note-2.new.label
          begins c.in_ok-push.ensures.appended c.in_ok-note.ensures.by c.in_ok-note-2.ensures.by far_yes far_no yes_told no_told skip c.in_ok-note.ensures.noted c.in_ok-note-2.ensures.noted;
      words = rw (← begins)
          (branch_words far_yes far_no place (JumpIf c.args.test c.args.operand (offsets 0 c.if-far_yes.jf)) c.args.self.now c.push.new.self c.note.new.self c.note-2.new.self yes c.note.new.label no c.note-2.new.label
          begins c.in_ok-push.ensures.appended yes_told no_told c.in_ok-note.ensures.noted c.in_ok-note-2.ensures.noted);
    }
