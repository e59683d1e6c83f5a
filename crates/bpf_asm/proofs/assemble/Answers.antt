use Rattle.std.proofs.Common.{◌∙◌, ap, map}
use Rattle.std.proofs.lemmas.Result.{IfOk-weaker, MatchResult-weaker, err_from_is_err_and}
use Rattle.bpf_asm.proofs.AssemblyLemmas.{assembled, labels_refused, lines_refused, refuses_none, targets_refused}
use Rattle.bpf_asm.specs.Assembly.{Assembles}
use Rattle.bpf_asm.specs.Target.{IsCode, statements_of}
use Rattle.bpf_asm.specs.body.Reading.{lines_read}
use Rattle.bpf_asm.specs.body.View.{line_of, place_among}
use Rattle.bpf_asm.proofs.assemble.Goals as goal

pub returns-in_err-lines-clause-fault : goal.returns-in_err-lines-clause-fault
returns-in_err-lines-clause-fault g c =
    let p = err_from_is_err_and c.from_residual-in_err-lines.result c.from_residual-in_err-lines.ensures.1 in
    rw (p.1, p.2) (lines_refused c.args.text.now c.in_err-lines.field-0.0 c.in_err-lines.ensures)

pub returns-in_err-lines-clause-refuses_no_assembly :
    goal.returns-in_err-lines-clause-refuses_no_assembly
returns-in_err-lines-clause-refuses_no_assembly g c =
    refuses_none c.args.text.now c.from_residual-in_err-lines.result (returns-in_err-lines-clause-fault g c)

pub returns-in_err-labels-clause-fault : goal.returns-in_err-labels-clause-fault
returns-in_err-labels-clause-fault g c =
    let p = err_from_is_err_and c.from_residual-in_err-labels.result c.from_residual-in_err-labels.ensures.1 in
    let same = ap (map line_of) c.deref.ensures.value ∙ c.in_ok-lines.ensures.0 in
    rw (p.1, p.2) (labels_refused c.args.text.now c.in_ok-lines.ensures.1 c.in_err-labels.field-0.0 (rw same at c.in_err-labels.ensures.fault))

pub returns-in_err-labels-clause-refuses_no_assembly :
    goal.returns-in_err-labels-clause-refuses_no_assembly
returns-in_err-labels-clause-refuses_no_assembly g c =
    refuses_none c.args.text.now c.from_residual-in_err-labels.result (returns-in_err-labels-clause-fault g c)

pub returns-clause-assembles : goal.returns-clause-assembles
returns-clause-assembles g c =
    let places = place_among c.in_ok-labels.labels.places in
    let same = ap (map line_of) c.deref.ensures.value ∙ c.in_ok-lines.ensures.0 in
    let again = ap (map line_of) c.deref-2.ensures.value ∙ c.in_ok-lines.ensures.0 in
    IfOk-weaker c.words_of.result (λ words. IsCode places 0 (statements_of (lines_read c.args.text.now)) words.items) (λ words. Assembles c.args.text.now words.items) (λ words. assembled c.args.text.now c.in_ok-lines.ensures.1 places (rw same at c.in_ok-labels.ensures.names_apart) (rw same at c.in_ok-labels.ensures.places) words.items) (rw again at c.words_of.ensures.code)

pub returns-clause-fault : goal.returns-clause-fault
returns-clause-fault g c =
    let places = place_among c.in_ok-labels.labels.places in
    let same = ap (map line_of) c.deref.ensures.value ∙ c.in_ok-lines.ensures.0 in
    let again = ap (map line_of) c.deref-2.ensures.value ∙ c.in_ok-lines.ensures.0 in
    MatchResult-weaker c.words_of.result (rw again at c.words_of.ensures.fault) (λ words same. same) (λ fault. targets_refused c.args.text.now c.in_ok-lines.ensures.1 places (rw same at c.in_ok-labels.ensures.names_apart) (rw same at c.in_ok-labels.ensures.places) fault)

pub returns-clause-refuses_no_assembly : goal.returns-clause-refuses_no_assembly
returns-clause-refuses_no_assembly g c = refuses_none c.args.text.now c.words_of.result (returns-clause-fault g c)
