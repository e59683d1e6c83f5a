use Rattle.std.proofs.Common.{arith, sym}
use Rattle.std.proofs.lemmas.List.{length-take-le, take_all}
use Rattle.serve_control.specs.declared.log.TheConstants.{LOGGED_BYTES}
use Rattle.serve_control.proofs.log.front_of.Goals as goal

pub returns-then-request-le-LOGGED_BYTES-clause-front : goal.returns-then-request-le-LOGGED_BYTES-clause-front
returns-then-request-le-LOGGED_BYTES-clause-front c = sym (take_all LOGGED_BYTES c.args.request.now (omega (arith, c.if-request-le-LOGGED_BYTES.true)))

pub slice_bounds-result-end : goal.slice_bounds-result-end
slice_bounds-result-end c = sym (length-take-le 256 c.args.request.now (omega (arith, c.if-request-le-LOGGED_BYTES.false)))

pub returns-clause-short : goal.returns-clause-short
returns-clause-short c = let len = length-take-le 256 c.args.request.now (omega (arith, c.if-request-le-LOGGED_BYTES.false)) in omega (arith, len)
