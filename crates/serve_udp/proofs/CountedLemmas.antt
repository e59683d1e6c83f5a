-- What is written of jobs that were run to their ends, from what they counted.
use Rattle.std.proofs.Common.{◌≡◌, ◌∙◌, ◌++◌, ◌∷◌, List, Option, [], ap, ap₂, length, map, option_map, refl, reverse, subst, sym, ℕ}
use Rattle.std.specs.List.{All}
use Rattle.std.proofs.lemmas.List.{length-map, length-reverse, reverse-append}
use Rattle.std.proofs.lemmas.List.Elements.{All-append, All-cons, All-head, All-map, All-nil, All-same, All-tail, All-weaker}
use Rattle.command_line.specs.declared.control_address.ControlAddress.{ControlAddress}
use Rattle.config_image.specs.Image.{Group}
use Rattle.dispatch.specs.Batch.{Parts}
use Rattle.dispatch.specs.Counted.{IsCounted}
use Rattle.dispatch.specs.Device.{SourceValue}
use Rattle.dispatch.specs.declared.kind.Totals.{Totals}
use Rattle.serve_devices.specs.Devices.{WorkerSourceValue, all_datagrams, source_of}
use Rattle.serve_devices.specs.Ingress.{Receive}
use Rattle.serve_udp.specs.Service.{AreServiceStarts, AreStartsOf, BeginsCounted, BeginsServedAt, HasGivenNone, HasSilentDevices, HasSilentOutbox, IsSilentSource, WritesCounted, WritesServedAt, ready_begun, totals_begun}
use Rattle.serve_udp.specs.body.Jobs.{AreNewSources, IsNewSource}
use Rattle.serve_udp.specs.declared.jobs.TheConstants.{LIMIT}
use Rattle.serve_udp.specs.declared.sockets.TheConstants.{LONGEST_DATAGRAM}

-- ---- jobs start with their sources

pub sources_of_starts : {J : Type 0} (parts : J → Parts) (source : J → WorkerSourceValue) → ((job : J) → (parts job).source ≡ source_of (source job))
    → (jobs : List J) → map (λ (start : Parts). start.source) (map parts jobs) ≡ map source_of (map source jobs)
sources_of_starts parts source same [] = refl
sources_of_starts parts source same (job ∷ jobs) =
    ap₂ (λ (s : SourceValue) (rest : List SourceValue). s ∷ rest) (same job) (sources_of_starts parts source same jobs)

-- ---- sources whose receives are not known

all_reversed : {A : Type 0} (P : A → Type 0) (all : List A) → All P all → All P (reverse all)
all_reversed P [] holds = All-nil P
all_reversed P (first ∷ rest) holds =
    All-same P (reverse (first ∷ rest)) (reverse rest ++ first ∷ []) (reverse-append (first ∷ []) rest)
    (All-append P (reverse rest) (first ∷ []) (all_reversed P rest (All-tail P first rest holds)) (All-cons P first [] (All-head P first rest holds) (All-nil P)))

silent_each : (starts : List Parts) → All IsSilentSource (map (λ (start : Parts). start.source) starts) → All HasSilentOutbox starts
    → All HasSilentDevices starts
silent_each [] silent outboxes = All-nil HasSilentDevices
silent_each (start ∷ rest) silent outboxes =
    let sources : List SourceValue = map (λ (start : Parts). start.source) rest in
    All-cons HasSilentDevices start rest
    (All-head IsSilentSource start.source sources silent, All-head HasSilentOutbox start rest outboxes)
    (silent_each rest (All-tail IsSilentSource start.source sources silent) (All-tail HasSilentOutbox start rest outboxes))

-- a new source is silent, if its ingress has given none
abbrev HasNonePast : Option (List Receive) → Type 0
HasNonePast past = HasGivenNone (option_map all_datagrams past)

silent_source : (past : Option (List Receive)) → HasNonePast past → (source : WorkerSourceValue) → IsNewSource past source → IsSilentSource (source_of source)
silent_source past none source is =
    subst (λ (s : WorkerSourceValue). IsSilentSource (source_of s)) (sym is) (record { failures = refl; coming = refl; given = none })

silent_starts : (past : Option (List Receive)) → HasNonePast past → (workers : ℕ) (sources : List WorkerSourceValue) (starts : List Parts)
    → AreNewSources past workers sources → AreStartsOf sources starts → AreServiceStarts workers starts
silent_starts past none workers sources starts new are = (
  sym (length-map starts (λ (start : Parts). start.source))
      ∙ (ap length are.their_sources ∙ (length-map (reverse sources) source_of ∙ (length-reverse sources ∙ new.0))),
  silent_each starts
      (All-same IsSilentSource (map (λ (start : Parts). start.source) starts) (map source_of (reverse sources)) are.their_sources
      (All-map IsSilentSource source_of (reverse sources)
      (all_reversed (λ (s : WorkerSourceValue). IsSilentSource (source_of s)) sources
      (All-weaker (IsNewSource past) (λ (s : WorkerSourceValue). IsSilentSource (source_of s)) (silent_source past none) sources new.1))))
      are.silent_outboxes,
)

-- so many of them are all that is known
silent_counted : (past : Option (List Receive)) → HasNonePast past → (opening : List Group) (workers : ℕ) (sources : List WorkerSourceValue) (totals : Totals)
    → AreNewSources past workers sources → IsCounted opening LONGEST_DATAGRAM LIMIT (AreStartsOf sources) totals → IsCounted opening LONGEST_DATAGRAM LIMIT (AreServiceStarts workers) totals
silent_counted past none opening workers sources totals new counted = record {
  versions = counted.versions;
  table = counted.table;
  starts = counted.starts;
  ends = counted.ends;
  new_workers = counted.new_workers;
  new_counters = counted.new_counters;
  are_starts = silent_starts past none workers sources counted.starts new counted.are_starts;
  run_to_the_end = counted.run_to_the_end;
  sum_exact = counted.sum_exact;
}

pub silent_served : (past : Option (List Receive)) → HasNonePast past → (control : ControlAddress) (opening : List Group) (workers : ℕ) (sources : List WorkerSourceValue)
    (before after : Option (List ℕ)) → AreNewSources past workers sources → WritesCounted control opening (AreStartsOf sources) before after → WritesServedAt control opening workers before after
silent_served past none control opening workers sources before after new written = record {
  front = written.front;
  totals = written.totals;
  between = written.between;
  ready = written.ready;
  is_counted = silent_counted past none opening workers sources written.totals new written.is_counted;
  totals_line = written.totals_line;
}

pub silent_begun : (past : Option (List Receive)) → HasNonePast past → (control : ControlAddress) (opening : List Group) (workers : ℕ) (sources : List WorkerSourceValue)
    (before after : Option (List ℕ)) → AreNewSources past workers sources → BeginsCounted control opening (AreStartsOf sources) before after → BeginsServedAt control opening workers before after
silent_begun past none control opening workers sources before after new (ready_begun front begun) = ready_begun front begun
silent_begun past none control opening workers sources before after new (totals_begun front totals between ready counted begun) =
    totals_begun front totals between ready (silent_counted past none opening workers sources totals new counted) begun
