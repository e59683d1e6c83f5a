use Rattle.serve_unix.specs.Places.{NonePasses, is_free}
use Rattle.serve_unix.proofs.clients.first_free.Given as goal

abbrev pub invariant-loop-at : goal.invariant-loop-at
invariant-loop-at g l = NonePasses is_free l.places l.from l.at
