use Rattle.std.proofs.Common.{arith, Bor, List, ap, subst, sym, ◌∙◌, ℕ, rules}
use Rattle.std.proofs.lemmas.Grind.{common_steps}
use Rattle.command_line.proofs.EndingLemmas.{HasWritten, writes_kept, writes_more}
use Rattle.command_line.proofs.ending.write_whole.Goals as goal
use Rattle.command_line.proofs.ending.write_whole.Goals.{in-Err, in-Ok}

pub loop-turn-preserved : goal.loop-turn-preserved
loop-turn-preserved g c =
    let start = g.W.Write.contents c.args.out.now in
    let mid = g.W.Write.contents c.loop-turn.out in
    let end = g.W.Write.contents c.write.new.self in
    elim c.match-write.branch [
      | in-Ok w ↦
          subst (HasWritten start end c.args.bytes.now) (sym (ap (λ (s : Bor (List ℕ)). s.now) w.rest-is ∙ w.split_at.ensures.back))
          (writes_more start mid end c.args.bytes.now c.loop-turn.rest.now w.in-Ok.count c.loop-turn.invariant w.in-Ok.ensures.bytes)
      | in-Err w ↦
          subst (HasWritten start end c.args.bytes.now) (sym (ap (λ (s : Bor (List ℕ)). s.now) w.rest-is))
          (writes_kept start mid end c.args.bytes.now c.loop-turn.rest.now c.loop-turn.invariant w.in-Err.ensures.bytes)
    ]

pub returns-clause-beginning : goal.returns-clause-beginning
returns-clause-beginning g c = search rules

pub returns-clause-failed : goal.returns-clause-failed
returns-clause-failed g c = search rules

pub returns-clause-written : goal.returns-clause-written
returns-clause-written g c = search rules

pub returns-in-Err-2-clause-beginning : goal.returns-in-Err-2-clause-beginning
returns-in-Err-2-clause-beginning g c = search rules

pub returns-in-Err-2-clause-failed : goal.returns-in-Err-2-clause-failed
returns-in-Err-2-clause-failed g c = search rules

pub returns-in-Err-2-clause-written : goal.returns-in-Err-2-clause-written
returns-in-Err-2-clause-written g c = search rules

pub returns-in-Ok-eq0-clause-beginning : goal.returns-in-Ok-eq0-clause-beginning
returns-in-Ok-eq0-clause-beginning g c = search rules

pub returns-in-Ok-eq0-clause-failed : goal.returns-in-Ok-eq0-clause-failed
returns-in-Ok-eq0-clause-failed g c = search rules

pub returns-in-Ok-eq0-clause-written : goal.returns-in-Ok-eq0-clause-written
returns-in-Ok-eq0-clause-written g c = search rules

pub returns-then-is_empty-clause-beginning : goal.returns-then-is_empty-clause-beginning
returns-then-is_empty-clause-beginning g c = search rules

pub returns-then-is_empty-clause-failed : goal.returns-then-is_empty-clause-failed
returns-then-is_empty-clause-failed g c = search rules

pub returns-then-is_empty-clause-written : goal.returns-then-is_empty-clause-written
returns-then-is_empty-clause-written g c = grind (arith, common_steps)
