use Rattle.std.proofs.Common.{◌≡◌, ◌++◌, List, arith, codes, decimal, subst, ℕ, rules}
use Rattle.std.proofs.lemmas.Grind.{common_steps}
use Rattle.std.specs.Io.KnownBytes.{Appends}
use Rattle.packet_capture.proofs.packet_lines.write_cut.Goals as goal

pub returns-clause-cut : goal.returns-clause-cut
returns-clause-cut g c =
    let start = g.W.CountedWrite.contents c.args.out.now in let end = g.W.CountedWrite.contents c.write_line.new.out in
    let front : c.as_slice.result.now ≡ codes "refused L5 " = search rules in
    let number : c.as_bytes.result.now ≡ decimal c.args.place = search rules in
    λ is. (
      search rules,
      subst (λ (digits : List ℕ). Appends start end (codes "refused L5 " ++ digits ++ codes "\n")) number
          (subst (λ (word : List ℕ). Appends start end (word ++ c.as_bytes.result.now ++ codes "\n")) front c.in_ok-write_line.ensures.written),
    )

pub returns-clause-failed : goal.returns-clause-failed
returns-clause-failed g c = search rules

pub returns-clause-status : goal.returns-clause-status
returns-clause-status g c = search rules

pub returns-clause-whole : goal.returns-clause-whole
returns-clause-whole g c = search rules

pub returns-then-is_empty-clause-cut : goal.returns-then-is_empty-clause-cut
returns-then-is_empty-clause-cut g c = search rules

pub returns-then-is_empty-clause-failed : goal.returns-then-is_empty-clause-failed
returns-then-is_empty-clause-failed g c = search rules

pub returns-then-is_empty-clause-status : goal.returns-then-is_empty-clause-status
returns-then-is_empty-clause-status g c = search rules

pub returns-then-is_empty-clause-whole : goal.returns-then-is_empty-clause-whole
returns-then-is_empty-clause-whole g c = grind (arith, common_steps)
