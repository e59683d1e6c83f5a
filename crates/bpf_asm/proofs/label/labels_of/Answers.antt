use Rattle.std.proofs.Common.{◌+◌, arith, drop, get_or, map, rules}
use Rattle.std.proofs.lemmas.Grind.{common_steps}
use Rattle.std.proofs.lemmas.Result.{err_from_is_err_and}
use Rattle.bpf_asm.specs.body.View.{line_of, place_among}
use Rattle.bpf_asm.proofs.CodeLemmas.{blank, lines_done, lines_more}
use Rattle.bpf_asm.proofs.LabelLemmas.{tracks_all, tracks_fault, tracks_more}
use Rattle.bpf_asm.proofs.label.labels_of.Goals as goal

pub returns-in_err-define_label-clause-fault : goal.returns-in_err-define_label-clause-fault
returns-in_err-define_label-clause-fault g c =
    let lines = c.args.lines.now in
    let i = c.loop-line.line-index in
    let line = line_of (get_or lines i blank) in
    let tracks = rw (lines_more lines i (omega arith)) at c.loop-line.invariant.0 in
    let p = err_from_is_err_and c.from_residual.result c.from_residual.ensures.1 in
    rw (p.1, p.2) (tracks_fault (place_among c.loop-line.labels.places) (map line_of lines) (map line_of (drop (i + 1) lines)) line.statement c.loop-line.number c.loop-line.place line.label c.in_err-define_label.field-0.0 tracks c.in_err-define_label.ensures)

pub loop-line-preserved : goal.loop-line-preserved
loop-line-preserved g c =
    let lines = c.args.lines.now in
    let i = c.loop-line.line-index in
    let line = line_of (get_or lines i blank) in
    let tracks = rw (lines_more lines i (omega arith)) at c.loop-line.invariant.0 in (
      rw c.count_of-count.ensures.count (tracks_more (place_among c.loop-line.labels.places) (place_among c.define_label.new.self.places) (map line_of lines) (map line_of (drop (i + 1) lines)) line.statement c.loop-line.number c.loop-line.place line.label tracks c.in_ok-define_label.ensures),
      omega (arith, c.loop-line.invariant.1),
      omega (arith, c.loop-line.invariant.2, c.count_of-count.ensures.one),
    )

pub returns-clause-places : goal.returns-clause-places
returns-clause-places g c =
    let lines = c.args.lines.now in
    tracks_all (place_among c.loop-line.labels.places) (map line_of lines) c.loop-line.number c.loop-line.place (rw (lines_done lines c.loop-line.line-index (omega arith)) at c.loop-line.invariant.0)

pub returns-clause-fault : goal.returns-clause-fault
returns-clause-fault g c = search rules

pub returns-clause-names_apart : goal.returns-clause-names_apart
returns-clause-names_apart g c = grind (arith, common_steps)
