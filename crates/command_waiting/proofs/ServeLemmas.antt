-- How `serve` fails before it serves.
use Rattle.std.proofs.Common.{◌≡◌, ◌≢◌, ◌++◌, Err, List, Option, Result, [], ap, codes, inl, refl, ℕ}
use Rattle.std.proofs.KnownBytes.{Appends-nil}
use Rattle.config_image.specs.Image.{Group}
use Rattle.command_line.specs.Ending.{AppendsBeginning, line_of}
use Rattle.command_line.specs.declared.control_address.ControlAddress.{ControlAddress}
use Rattle.command_line.specs.declared.ending.Failure.{Failure}
use Rattle.command_line.specs.declared.ending.Failure.TheVariants.{BindFailed, OutOfMemory, WriteFailed}
use Rattle.serve_udp.specs.Service.{BeginsServedAt, IsServeFailure, WritesReadyOrNothing}
use Rattle.serve_udp.specs.declared.bound.BindFault.{BindFault}
use Rattle.command_waiting.specs.Serving.{FailsServing, IsBindLine, socket_name, told_after_why, told_alone}

-- a line that was not shown
pub none_shown : (fault : BindFault) (before : Option (List ℕ)) → (line : List ℕ) × IsBindLine fault line × AppendsBeginning before before line
none_shown fault before = let line = codes "cannot bind " ++ (socket_name fault ++ []) in (line, ([], refl), ([], line, Appends-nil before, refl))

no_memory : IsServeFailure OutOfMemory
no_memory = (λ is. cc, λ is. cc, λ is. cc)

not_bound : IsServeFailure BindFailed
not_bound = (λ is. cc, λ is. cc, λ is. cc)

no_bind : ◌≡◌ {A = Failure} OutOfMemory BindFailed → ⊥
no_bind same = cc

no_write_memory : ◌≡◌ {A = Failure} OutOfMemory WriteFailed → ⊥
no_write_memory same = cc

no_write_bind : ◌≡◌ {A = Failure} BindFailed WriteFailed → ⊥
no_write_bind same = cc

module _ (opening : List Group) (workers : ℕ) (before told_before told_after : Option (List ℕ)) where
  -- for want of memory
  pub fails_without_memory : AppendsBeginning told_before told_after (line_of OutOfMemory) → FailsServing opening workers before before told_before told_after OutOfMemory
  fails_without_memory told = record {
    of_serve = no_memory;
    written = λ other. inl refl;
    begun = λ is. absurd (no_write_memory is);
    not_bound = λ is. absurd (no_bind is);
    told = told_alone told;
  }

  -- a socket was not bound
  pub fails_unbound : (fault : BindFault) (line : List ℕ) (between : Option (List ℕ)) → IsBindLine fault line → AppendsBeginning told_before between line
      → AppendsBeginning between told_after (line_of BindFailed) → FailsServing opening workers before before told_before told_after BindFailed
  fails_unbound fault line between is first then = record {
    of_serve = not_bound;
    written = λ other. inl refl;
    begun = λ is. absurd (no_write_bind is);
    not_bound = λ is. refl;
    told = told_after_why refl fault line is between first then;
  }

-- the switch served and failed
pub fails_serving : {X : Type 0} (contents : X → Option (List ℕ)) (place : ControlAddress) (opening : List Group) (workers : ℕ) (old new : X)
    (told_before told_after : Option (List ℕ)) (failure : Failure) → IsServeFailure failure
    → (failure ≢ WriteFailed → WritesReadyOrNothing (contents old) (contents new))
    → (failure ≡ WriteFailed → BeginsServedAt place opening workers (contents old) (contents new))
    → (◌≡◌ {A = Result (Unit {0}) Failure} (Err failure) (Err BindFailed) → new ≡ old)
    → AppendsBeginning told_before told_after (line_of failure) → FailsServing opening workers (contents old) (contents new) told_before told_after failure
fails_serving contents place opening workers old new told_before told_after failure of written begun unbound told = record {
  of_serve = of;
  written = written;
  begun = λ is. (place, begun is);
  not_bound = λ is. ap contents (unbound (ap (λ f. Err f) is));
  told = told_alone told;
}
