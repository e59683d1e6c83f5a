use Rattle.std.proofs.Common.{refl, ◌≡◌, ◌∙◌, Err, Ok, Result, Some, ap, inl, inr, map, rules, string_bytes, subst, sym}
use Rattle.clap.specs.Words.{IsAmong, kind_of}
use Rattle.command_line.specs.CommandLine.{command_of, faults_in, packets, request_of, returning}
use Rattle.command_line.specs.declared.command.Subcommand.{Subcommand}
use Rattle.command_line.specs.declared.ending.Failure.{Failure}
use Rattle.command_line.specs.declared.ending.Failure.TheVariants.{OutOfMemory}
use Rattle.command_line.specs.declared.ending.Status.{Status}
use Rattle.command_line.specs.declared.ending.Status.TheVariants.{Done, Failed, Misused, Refused}
use Rattle.command_streams.proofs.FailureLemmas.{cause_borrow, write_cause}
use Rattle.command_replay.proofs.CauseLemmas.{flush_borrow}
use Rattle.command_returning.proofs.FailureLemmas.{command_caused, command_failed, command_then_flush, ended_ok, fault_caused, fault_failed, never_misused, same_request, waits_not}
use Rattle.command_returning.proofs.running.run_over.Goals as goal

pub returns-in-Ok-Returning-clause-answers : goal.returns-in-Ok-Returning-clause-answers
returns-in-Ok-Returning-clause-answers g c = λ ask. absurd (waits_not (map string_bytes c.args.words.now) (request_of c.in-Ok-Returning.command) (c.in-Ok-Returning.ensures.named ∙ ap (λ (s : Subcommand). Some (command_of s)) c.in-Ok-Returning.field-0-is) ask)

pub returns-in-Ok-Returning-clause-done : goal.returns-in-Ok-Returning-clause-done
returns-in-Ok-Returning-clause-done g c = λ zero. inl c.in-Ok-Returning.ensures.faults

pub returns-in-Ok-Returning-clause-done_written : goal.returns-in-Ok-Returning-clause-done_written
returns-in-Ok-Returning-clause-done_written g c = λ code none.
    let is : c.reported.result ≡ Done = search rules in
    ((request_of c.in-Ok-Returning.command), (c.in-Ok-Returning.ensures.named ∙ ap (λ (s : Subcommand). Some (command_of s)) c.in-Ok-Returning.field-0-is), rw (ended_ok c.run_command-ended.result c.reported.result Done c.reported.ensures.status c.reported.ensures.failed is (λ e. cc)) at c.run_command-ended.ensures.written)

pub returns-in-Ok-Returning-clause-refused : goal.returns-in-Ok-Returning-clause-refused
returns-in-Ok-Returning-clause-refused g c = λ one. c.in-Ok-Returning.ensures.faults

pub returns-in-Ok-Returning-clause-refused_written : goal.returns-in-Ok-Returning-clause-refused_written
returns-in-Ok-Returning-clause-refused_written g c = λ code.
    let is : c.reported.result ≡ Refused = search rules in
    ((request_of c.in-Ok-Returning.command), (c.in-Ok-Returning.ensures.named ∙ ap (λ (s : Subcommand). Some (command_of s)) c.in-Ok-Returning.field-0-is), rw (ended_ok c.run_command-ended.result c.reported.result Refused c.reported.ensures.status c.reported.ensures.failed is (λ e. cc)) at c.run_command-ended.ensures.written)

pub returns-in-Ok-Returning-clause-misused : goal.returns-in-Ok-Returning-clause-misused
returns-in-Ok-Returning-clause-misused g c = λ two.
    let is : c.reported.result ≡ Misused = search rules in
    absurd (never_misused (request_of c.in-Ok-Returning.command) _ _ _ (rw (ended_ok c.run_command-ended.result c.reported.result Misused c.reported.ensures.status c.reported.ensures.failed is (λ e. cc)) at c.run_command-ended.ensures.written))

pub returns-in-Ok-Returning-clause-nothing_written : goal.returns-in-Ok-Returning-clause-nothing_written
returns-in-Ok-Returning-clause-nothing_written g c = λ either. elim either [
  | inl none ↦ cc
  | inr two ↦
      let is : c.reported.result ≡ Misused = search rules in
      absurd (never_misused (request_of c.in-Ok-Returning.command) _ _ _ (rw (ended_ok c.run_command-ended.result c.reported.result Misused c.reported.ensures.status c.reported.ensures.failed is (λ e. cc)) at c.run_command-ended.ensures.written))
]

pub returns-in-Ok-Returning-clause-failed : goal.returns-in-Ok-Returning-clause-failed
returns-in-Ok-Returning-clause-failed g c = λ three.
    let is : c.reported.result ≡ Failed = search rules in
    let run = c.run_command-ended.ensures in let told = c.reported.ensures in
    command_failed g.E.Write.contents _ _ (map string_bytes c.args.words.now) (request_of c.in-Ok-Returning.command) c.run_command-ended.result c.reported.result _ _ _ _ _ (c.in-Ok-Returning.ensures.named ∙ ap (λ (s : Subcommand). Some (command_of s)) c.in-Ok-Returning.field-0-is) run.failed run.failed_written run.untold told.told told.status run.written is

pub returns-in-Ok-Returning-clause-no_errors : goal.returns-in-Ok-Returning-clause-no_errors
returns-in-Ok-Returning-clause-no_errors g c = λ either other. elim either [
  | inl none ↦ cc
  | inr one ↦ elim one [
    | inl zero ↦
        let is : c.reported.result ≡ Done = search rules in
        (rw (ended_ok c.run_command-ended.result c.reported.result Done c.reported.ensures.status c.reported.ensures.failed is (λ e. cc)) at c.reported.ensures.untold) ∙ (rw (ended_ok c.run_command-ended.result c.reported.result Done c.reported.ensures.status c.reported.ensures.failed is (λ e. cc)) at c.run_command-ended.ensures.no_errors) (λ port same. other port ((c.in-Ok-Returning.ensures.named ∙ ap (λ (s : Subcommand). Some (command_of s)) c.in-Ok-Returning.field-0-is) ∙ ap (λ r. Some (returning r)) same))
    | inr refused ↦
        let is : c.reported.result ≡ Refused = search rules in
        (rw (ended_ok c.run_command-ended.result c.reported.result Refused c.reported.ensures.status c.reported.ensures.failed is (λ e. cc)) at c.reported.ensures.untold) ∙ (rw (ended_ok c.run_command-ended.result c.reported.result Refused c.reported.ensures.status c.reported.ensures.failed is (λ e. cc)) at c.run_command-ended.ensures.no_errors) (λ port same. other port ((c.in-Ok-Returning.ensures.named ∙ ap (λ (s : Subcommand). Some (command_of s)) c.in-Ok-Returning.field-0-is) ∙ ap (λ r. Some (returning r)) same))
  ]
]

pub returns-in-Ok-Returning-clause-counted : goal.returns-in-Ok-Returning-clause-counted
returns-in-Ok-Returning-clause-counted g c = λ either none port also. elim either [
  | inl zero ↦
      let is : c.reported.result ≡ Done = search rules in
      rw (rw (ended_ok c.run_command-ended.result c.reported.result Done c.reported.ensures.status c.reported.ensures.failed is (λ e. cc)) at c.reported.ensures.untold) ((rw (ended_ok c.run_command-ended.result c.reported.result Done c.reported.ensures.status c.reported.ensures.failed is (λ e. cc)) at c.run_command-ended.ensures.counted) port (same_request (map string_bytes c.args.words.now) (request_of c.in-Ok-Returning.command) (packets port) (c.in-Ok-Returning.ensures.named ∙ ap (λ (s : Subcommand). Some (command_of s)) c.in-Ok-Returning.field-0-is) also))
  | inr one ↦
      let is : c.reported.result ≡ Refused = search rules in
      rw (rw (ended_ok c.run_command-ended.result c.reported.result Refused c.reported.ensures.status c.reported.ensures.failed is (λ e. cc)) at c.reported.ensures.untold) ((rw (ended_ok c.run_command-ended.result c.reported.result Refused c.reported.ensures.status c.reported.ensures.failed is (λ e. cc)) at c.run_command-ended.ensures.counted) port (same_request (map string_bytes c.args.words.now) (request_of c.in-Ok-Returning.command) (packets port) (c.in-Ok-Returning.ensures.named ∙ ap (λ (s : Subcommand). Some (command_of s)) c.in-Ok-Returning.field-0-is) also))
]

pub returns-in-Ok-Waiting-clause-waits : goal.returns-in-Ok-Waiting-clause-waits
returns-in-Ok-Waiting-clause-waits g c =
    (c.in-Ok-Waiting.ensures.faults, c.in-Ok-Waiting.ensures.named ∙ ap (λ (s : Subcommand). Some (command_of s)) c.in-Ok-Waiting.field-0-is)

pub returns-in-Err-clause-done : goal.returns-in-Err-clause-done
returns-in-Err-clause-done g c = λ zero.
    let is : c.reported-in-Err.result ≡ Done = search rules in
    elim c.in-Err.ensures.faults [
      | inl no_memory ↦ let bad : ◌≡◌ {A = Result Status Failure} (Err OutOfMemory) (Ok Done) = sym (c.answer.ensures.no_memory no_memory).0 ∙ (ended_ok c.answer.result c.reported-in-Err.result Done c.reported-in-Err.ensures.status c.reported-in-Err.ensures.failed is (λ e. cc)) in cc
      | inr among ↦ inr (elim (c.answer.ensures.done (ended_ok c.answer.result c.reported-in-Err.result Done c.reported-in-Err.ensures.status c.reported-in-Err.ensures.failed is (λ e. cc))) [
        | inl help ↦ inl (subst (λ k. IsAmong k (faults_in (map string_bytes c.args.words.now))) help among)
        | inr version ↦ inr (subst (λ k. IsAmong k (faults_in (map string_bytes c.args.words.now))) version among)
      ])
    ]

pub returns-in-Err-clause-done_written : goal.returns-in-Err-clause-done_written
returns-in-Err-clause-done_written g c = λ zero none.
    let is : c.reported-in-Err.result ≡ Done = search rules in
    elim c.in-Err.ensures.faults [
      | inl no_memory ↦ let bad : ◌≡◌ {A = Result Status Failure} (Err OutOfMemory) (Ok Done) = sym (c.answer.ensures.no_memory no_memory).0 ∙ (ended_ok c.answer.result c.reported-in-Err.result Done c.reported-in-Err.ensures.status c.reported-in-Err.ensures.failed is (λ e. cc)) in cc
      | inr among ↦ absurd (subst (IsAmong (kind_of c.in-Err.fault)) none among)
    ]

pub returns-in-Err-clause-refused : goal.returns-in-Err-clause-refused
returns-in-Err-clause-refused g c = λ one.
    let is : c.reported-in-Err.result ≡ Refused = search rules in
    elim (rw (ended_ok c.answer.result c.reported-in-Err.result Refused c.reported-in-Err.ensures.status c.reported-in-Err.ensures.failed is (λ e. cc)) at c.answer.ensures.done_or_misused) [ inl e ↦ let bad : ◌≡◌ {A = Status} Refused Done = e in cc | inr e ↦ let bad : ◌≡◌ {A = Status} Refused Misused = e in cc ]

pub returns-in-Err-clause-refused_written : goal.returns-in-Err-clause-refused_written
returns-in-Err-clause-refused_written g c = λ one.
    let is : c.reported-in-Err.result ≡ Refused = search rules in
    elim (rw (ended_ok c.answer.result c.reported-in-Err.result Refused c.reported-in-Err.ensures.status c.reported-in-Err.ensures.failed is (λ e. cc)) at c.answer.ensures.done_or_misused) [ inl e ↦ let bad : ◌≡◌ {A = Status} Refused Done = e in cc | inr e ↦ let bad : ◌≡◌ {A = Status} Refused Misused = e in cc ]

pub returns-in-Err-clause-misused : goal.returns-in-Err-clause-misused
returns-in-Err-clause-misused g c = λ two.
    let is : c.reported-in-Err.result ≡ Misused = search rules in
    elim c.in-Err.ensures.faults [
      | inl no_memory ↦ let bad : ◌≡◌ {A = Result Status Failure} (Err OutOfMemory) (Ok Misused) = sym (c.answer.ensures.no_memory no_memory).0 ∙ (ended_ok c.answer.result c.reported-in-Err.result Misused c.reported-in-Err.ensures.status c.reported-in-Err.ensures.failed is (λ e. cc)) in cc
      | inr among ↦ let asked = c.answer.ensures.misused (ended_ok c.answer.result c.reported-in-Err.result Misused c.reported-in-Err.ensures.status c.reported-in-Err.ensures.failed is (λ e. cc)) in (kind_of c.in-Err.fault, among, asked.0, asked.1)
    ]

pub returns-in-Err-clause-nothing_written : goal.returns-in-Err-clause-nothing_written
returns-in-Err-clause-nothing_written g c = λ either. elim either [
  | inl none ↦ cc
  | inr two ↦ let is : c.reported-in-Err.result ≡ Misused = search rules in c.answer.ensures.nothing_written (ended_ok c.answer.result c.reported-in-Err.result Misused c.reported-in-Err.ensures.status c.reported-in-Err.ensures.failed is (λ e. cc))
]

pub returns-in-Err-clause-failed : goal.returns-in-Err-clause-failed
returns-in-Err-clause-failed g c = λ three.
    let is : c.reported-in-Err.result ≡ Failed = search rules in
    let told = c.reported-in-Err.ensures in let answer = c.answer.ensures in
    fault_failed g.E.Write.contents g.W.CountedWrite.contents _ _ _ _ (map string_bytes c.args.words.now) c.in-Err.fault c.answer.result c.reported-in-Err.result _ _ c.in-Err.ensures.faults answer.failed answer.no_memory answer.untold told.told told.status answer.done_or_misused is

pub returns-in-Err-clause-no_errors : goal.returns-in-Err-clause-no_errors
returns-in-Err-clause-no_errors g c = λ either other. elim either [
  | inl none ↦ cc
  | inr one ↦ elim one [
    | inl zero ↦ let is : c.reported-in-Err.result ≡ Done = search rules in (rw (ended_ok c.answer.result c.reported-in-Err.result Done c.reported-in-Err.ensures.status c.reported-in-Err.ensures.failed is (λ e. cc)) at c.reported-in-Err.ensures.untold) ∙ c.answer.ensures.no_errors (ended_ok c.answer.result c.reported-in-Err.result Done c.reported-in-Err.ensures.status c.reported-in-Err.ensures.failed is (λ e. cc))
    | inr refused ↦
        let is : c.reported-in-Err.result ≡ Refused = search rules in
        elim (rw (ended_ok c.answer.result c.reported-in-Err.result Refused c.reported-in-Err.ensures.status c.reported-in-Err.ensures.failed is (λ e. cc)) at c.answer.ensures.done_or_misused) [ inl e ↦ let bad : ◌≡◌ {A = Status} Refused Done = e in cc | inr e ↦ let bad : ◌≡◌ {A = Status} Refused Misused = e in cc ]
  ]
]

pub returns-in-Err-clause-counted : goal.returns-in-Err-clause-counted
returns-in-Err-clause-counted g c = λ either none port also. elim either [
  | inl zero ↦
      let is : c.reported-in-Err.result ≡ Done = search rules in
      elim c.in-Err.ensures.faults [
        | inl no_memory ↦ let bad : ◌≡◌ {A = Result Status Failure} (Err OutOfMemory) (Ok Done) = sym (c.answer.ensures.no_memory no_memory).0 ∙ (ended_ok c.answer.result c.reported-in-Err.result Done c.reported-in-Err.ensures.status c.reported-in-Err.ensures.failed is (λ e. cc)) in cc
        | inr among ↦ absurd (subst (IsAmong (kind_of c.in-Err.fault)) none among)
      ]
  | inr one ↦
      let is : c.reported-in-Err.result ≡ Refused = search rules in
      elim c.in-Err.ensures.faults [
        | inl no_memory ↦ let bad : ◌≡◌ {A = Result Status Failure} (Err OutOfMemory) (Ok Refused) = sym (c.answer.ensures.no_memory no_memory).0 ∙ (ended_ok c.answer.result c.reported-in-Err.result Refused c.reported-in-Err.ensures.status c.reported-in-Err.ensures.failed is (λ e. cc)) in cc
        | inr among ↦ absurd (subst (IsAmong (kind_of c.in-Err.fault)) none among)
      ]
]

pub returns-in-Ok-Returning-clause-device_failed : goal.returns-in-Ok-Returning-clause-device_failed
returns-in-Ok-Returning-clause-device_failed g c = λ three.
    let is : c.reported.result ≡ Failed = search rules in
    let run = c.run_command-ended.ensures in let told = c.reported.ensures in
    command_caused g.E.Write.contents _ _ (map string_bytes c.args.words.now) (request_of c.in-Ok-Returning.command) c.run_command-ended.result c.reported.result _ _ _ _ _ _ _ _ _ (c.in-Ok-Returning.ensures.named ∙ ap (λ (s : Subcommand). Some (command_of s)) c.in-Ok-Returning.field-0-is) run.failed run.failed_written run.untold told.told told.status run.written is c.in-Ok-Returning.ensures.faults run.device_failed

pub returns-in-Ok-Returning-clause-no_device_failed : goal.returns-in-Ok-Returning-clause-no_device_failed
returns-in-Ok-Returning-clause-no_device_failed g c = λ either. elim either [
  | inl none ↦ cc
  | inr done_or ↦ elim done_or [
    | inl zero ↦
        let is : c.reported.result ≡ Done = search rules in
        rw (ended_ok c.run_command-ended.result c.reported.result Done c.reported.ensures.status c.reported.ensures.failed is (λ e. cc)) at (command_then_flush (request_of c.in-Ok-Returning.command) c.run_command-ended.result _ _ _ _ c.run_command-ended.ensures.device_failed)
    | inr refused_or ↦ elim refused_or [
      | inl one ↦
          let is : c.reported.result ≡ Refused = search rules in
          rw (ended_ok c.run_command-ended.result c.reported.result Refused c.reported.ensures.status c.reported.ensures.failed is (λ e. cc)) at (command_then_flush (request_of c.in-Ok-Returning.command) c.run_command-ended.result _ _ _ _ c.run_command-ended.ensures.device_failed)
      | inr two ↦
          let is : c.reported.result ≡ Misused = search rules in
          rw (ended_ok c.run_command-ended.result c.reported.result Misused c.reported.ensures.status c.reported.ensures.failed is (λ e. cc)) at (command_then_flush (request_of c.in-Ok-Returning.command) c.run_command-ended.result _ _ _ _ c.run_command-ended.ensures.device_failed)
    ]
  ]
]

pub returns-in-Err-clause-device_failed : goal.returns-in-Err-clause-device_failed
returns-in-Err-clause-device_failed g c = λ three.
    let is : c.reported-in-Err.result ≡ Failed = search rules in
    let told = c.reported-in-Err.ensures in let answer = c.answer.ensures in
    fault_caused g.E.Write.contents g.W.CountedWrite.contents _ _ _ _ (map string_bytes c.args.words.now) c.in-Err.fault c.answer.result c.reported-in-Err.result _ _ _ _ _ c.in-Err.ensures.faults answer.failed answer.no_memory answer.untold told.told told.status answer.done_or_misused is answer.device_failed

pub returns-in-Err-clause-no_device_failed : goal.returns-in-Err-clause-no_device_failed
returns-in-Err-clause-no_device_failed g c = λ either. elim either [
  | inl none ↦ cc
  | inr done_or ↦ elim done_or [
    | inl zero ↦
        let is : c.reported-in-Err.result ≡ Done = search rules in
        (refl, rw (ended_ok c.answer.result c.reported-in-Err.result Done c.reported-in-Err.ensures.status c.reported-in-Err.ensures.failed is (λ e. cc)) at c.answer.ensures.device_failed)
    | inr refused_or ↦ elim refused_or [
      | inl one ↦
          let is : c.reported-in-Err.result ≡ Refused = search rules in
          (refl, rw (ended_ok c.answer.result c.reported-in-Err.result Refused c.reported-in-Err.ensures.status c.reported-in-Err.ensures.failed is (λ e. cc)) at c.answer.ensures.device_failed)
      | inr two ↦
          let is : c.reported-in-Err.result ≡ Misused = search rules in
          (refl, rw (ended_ok c.answer.result c.reported-in-Err.result Misused c.reported-in-Err.ensures.status c.reported-in-Err.ensures.failed is (λ e. cc)) at c.answer.ensures.device_failed)
    ]
  ]
]

pub returns-in-Ok-Returning-clause-borrow_kept : goal.returns-in-Ok-Returning-clause-borrow_kept
returns-in-Ok-Returning-clause-borrow_kept g c =
    flush_borrow c.run_command-ended.result _ _ _ _
    (command_then_flush (request_of c.in-Ok-Returning.command) c.run_command-ended.result _ _ _ _ c.run_command-ended.ensures.device_failed)

pub returns-in-Err-clause-borrow_kept : goal.returns-in-Err-clause-borrow_kept
returns-in-Err-clause-borrow_kept g c =
    let read = (g.R.Input.state c.args.input.now).failures in
    cause_borrow c.answer.result read read _ _ (write_cause c.answer.result read read _ _ c.answer.ensures.failed refl c.answer.ensures.device_failed)
