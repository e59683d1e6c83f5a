use Rattle.std.proofs.Common.{◌∙◌, ◌++◌, codes, subst}
use Rattle.std.proofs.KnownBytes.{Appends-trans}
use Rattle.std.proofs.lemmas.Result.{on_ok_weaker}
use Rattle.std.specs.Io.KnownBytes.{Appends}
use Rattle.command_line.specs.ControlAddress.{address_text}
use Rattle.command_line.specs.Ending.{AppendsBeginning}
use Rattle.command_totals.proofs.BeginningLemmas.{begins_first, begins_then}
use Rattle.serve_udp.specs.Service.{ready_front}
use Rattle.serve_udp.proofs.ready.write_ready.Goals as goal

pub returns-in_err-write_whole-clause-beginning : goal.returns-in_err-write_whole-clause-beginning
returns-in_err-write_whole-clause-beginning g c =
    let start = g.W.CountedWrite.contents c.args.out.now in let mid = g.W.CountedWrite.contents c.write_whole.new.out in
    begins_first start mid (ready_front c.args.front) (address_text c.args.control ++ codes "\n")
    (subst (AppendsBeginning start mid) (c.bytes.ensures.line ∙ c.ready_front.ensures) c.write_whole.ensures.beginning)

pub returns-in_err-write_address-clause-beginning : goal.returns-in_err-write_address-clause-beginning
returns-in_err-write_address-clause-beginning g c =
    let start = g.W.CountedWrite.contents c.args.out.now in let mid = g.W.CountedWrite.contents c.write_whole.new.out in
    begins_then start mid _ (ready_front c.args.front) (address_text c.args.control ++ codes "\n")
    (subst (Appends start mid) (c.bytes.ensures.line ∙ c.ready_front.ensures) c.in_ok-write_whole.ensures.written)
    (begins_first mid _ (address_text c.args.control) (codes "\n") c.write_address.ensures.beginning)

pub returns-clause-beginning : goal.returns-clause-beginning
returns-clause-beginning g c =
    let start = g.W.CountedWrite.contents c.args.out.now in let mid = g.W.CountedWrite.contents c.write_whole.new.out in
    let next = g.W.CountedWrite.contents c.write_address.new.out in let end = g.W.CountedWrite.contents c.write_through.new.out in
    begins_then start mid end (ready_front c.args.front) (address_text c.args.control ++ codes "\n")
    (subst (Appends start mid) (c.bytes.ensures.line ∙ c.ready_front.ensures) c.in_ok-write_whole.ensures.written)
    (begins_then mid next end (address_text c.args.control) (codes "\n") c.in_ok-write_address.ensures.written
    (subst (AppendsBeginning next end) c.as_slice.ensures c.write_through.ensures.beginning))

pub returns-clause-written : goal.returns-clause-written
returns-clause-written g c =
    let start = g.W.CountedWrite.contents c.args.out.now in let mid = g.W.CountedWrite.contents c.write_whole.new.out in
    let next = g.W.CountedWrite.contents c.write_address.new.out in let end = g.W.CountedWrite.contents c.write_through.new.out in
    on_ok_weaker c.write_through.result
    (λ last. Appends-trans start mid end (ready_front c.args.front) (address_text c.args.control ++ codes "\n")
    (subst (Appends start mid) (c.bytes.ensures.line ∙ c.ready_front.ensures) c.in_ok-write_whole.ensures.written)
    (Appends-trans mid next end (address_text c.args.control) (codes "\n") c.in_ok-write_address.ensures.written (subst (Appends next end) c.as_slice.ensures last)))
    c.write_through.ensures.written
