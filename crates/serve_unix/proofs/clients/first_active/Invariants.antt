use Rattle.serve_unix.specs.Places.{NonePasses, is_active_in}
use Rattle.serve_unix.proofs.clients.first_active.Given as goal

abbrev pub invariant-loop-at : goal.invariant-loop-at
invariant-loop-at g l = NonePasses is_active_in l.places l.from l.at
