use Rattle.std.proofs.Common.{ap, arith, sym, ◌-◌, ◌≡◌, ◌∙◌}
use Rattle.std.specs.Prelude.{vec_len}
use Rattle.versions.specs.declared.layout.TheConstants.{WORKERS}
use Rattle.std.proofs.lemmas.Option.{get_or_from_slice_get, same_Some}
use Rattle.read_section.specs.Worker.{WorkerValue}
use Rattle.command_line.proofs.AcceptedLemmas.{first_accepted}
use Rattle.command_query.proofs.first_path.open_first.Goals as goal

pub configuration-requires : goal.configuration-requires
configuration-requires c = record { accepted = first_accepted }

pub returns : goal.returns
returns c = let workers = c.in_ok-operator.workers in let opened = c.in_ok-operator.ensures.workers in let many : vec_len workers ≡ WORKERS = workers.ok.0 ∙ opened.count in record {
  opened = record {
    config = c.in_ok-configuration.field-0;
    selects = c.in_ok-configuration.ensures.selects;
    opened = c.in_ok-operator.ensures.opened;
    table = ap (λ (w : WorkerValue). w.table) (same_Some _ _ (sym c.in-Some.is ∙ c.pop.ensures.value c.in-Some.worker (omega arith)))
        ∙ ap (λ (w : WorkerValue). w.table) (get_or_from_slice_get workers.items (vec_len workers - 1) _ c.in-Some.worker (opened.each (vec_len workers - 1) (omega arith)));
  };
}
