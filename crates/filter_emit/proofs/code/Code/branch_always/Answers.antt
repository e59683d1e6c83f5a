use Rattle.std.proofs.Common.{◌≡◌, arith, refl, subst, ◌++◌, ◌∷◌, [], ◌∙◌}
use Rattle.bpf_insn.specs.declared.instruction.Operand.TheVariants.{K}
use Rattle.bpf_insn.specs.declared.instruction.Test.TheVariants.{Equal}
use Rattle.filter_emit.specs.declared.fixup.Side.TheVariants.{WhenFalse, WhenTrue}
use Rattle.filter_emit.specs.Fixups.{fixup_at}
use Rattle.filter_emit.proofs.AlwaysLemmas.{always_far, always_near}
use Rattle.filter_emit.proofs.code.Code.branch_always.Goals as goal

pub returns-in_ok-jump : goal.returns-in_ok-jump
returns-in_ok-jump g c =
    let at_end = c.len-place.ensures.length in let by_is = c.by.ensures.by in let far = c.if-is_far.ensures.far refl in record {
      writes = always_far c.args.self.now c.jump.new.self c.args.label.now c.jump.new.label (omega arith) c.in_ok-jump.ensures.appended c.in_ok-jump.ensures.fixups c.in_ok-jump.ensures.by;
    }

pub returns-in_ok-add-2 : goal.returns-in_ok-add-2
returns-in_ok-add-2 g c =
    let at_end = c.len-place.ensures.length in let by_is = c.by.ensures.by in let near = c.if-is_far.ensures.near refl in record {
      writes = always_near c.args.self.now c.push.new.self c.args.label.now c.add.new.self c.add-else-is_far.new.self Equal (K 0) (omega arith) c.in_ok-push.ensures.appended
          (subst (λ n. c.add.new.self.fixups ≡ c.args.label.now.fixups ++ fixup_at n WhenTrue ∷ []) at_end c.in_ok-add.ensures.fixups)
          (subst (λ n. c.add-else-is_far.new.self.fixups ≡ c.add.new.self.fixups ++ fixup_at n WhenFalse ∷ []) at_end c.in_ok-add-2.ensures.fixups)
          (c.in_ok-add-2.ensures.by ∙ c.in_ok-add.ensures.by);
    }
