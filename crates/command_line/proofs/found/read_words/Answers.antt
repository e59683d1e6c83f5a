use Rattle.std.proofs.Common.{inl, inr, map, None, Some, string_bytes, is_some, ◌≡◌, ◌∙◌, ap, subst, sym, []}
use Rattle.std.specs.Option.{option_map}
use Rattle.clap.specs.Words.{App, HasKind, IsAmong, app_of, fault_of, found_of, is_simple, is_simple_and_free, kind_of, rows_of, subcommand_of}
use Rattle.command_line.specs.Arguments.{command_line}
use Rattle.command_line.specs.CommandLine.{command_in, command_of, faults_in, way_faults}
use Rattle.command_line.proofs.CommandLineLemmas.{fails_by, no_faults, way_is_refused, kind_or_else, command_is}
use Rattle.command_line.proofs.found.read_words.Goals as goal

pub returns-clause-faults : goal.returns-clause-faults
returns-clause-faults c =
    let words = map string_bytes c.args.words.now in
    let program_is : app_of c.in_ok-program.program ≡ command_line = c.in_ok-program.ensures in
    let none : fault_of command_line words ≡ [] =
    ap (λ (a : App). fault_of a words) (sym program_is) ∙ c.in_ok-matches.ensures.kinds (ap is_simple_and_free program_is) in
    let rows = (c.in_ok-matches.ensures.matches (ap is_simple program_is)).1 in
    let named = command_is (app_of c.in_ok-program.program) words c.in_ok-matches.matches c.in-Some.name.now (rows_of (found_of c.in-Some.found.now))
    program_is rows c.in-Some.ensures.name c.in-Some.ensures.rows in
    let nothing : command_in words ≡ None = named ∙ sym c.in_ok-command.ensures ∙ ap (option_map command_of) c.in-None.is in
    let fault = c.in_ok-value_fault-in-None.field-0 in
    inr (subst (IsAmong (kind_of fault)) (sym (way_is_refused words none nothing)) (inl c.in_ok-value_fault-in-None.ensures))

pub returns-in-Some-2-clause-faults : goal.returns-in-Some-2-clause-faults
returns-in-Some-2-clause-faults c =
    let words = map string_bytes c.args.words.now in
    let program_is : app_of c.in_ok-program.program ≡ command_line = c.in_ok-program.ensures in
    let none : fault_of command_line words ≡ [] =
    ap (λ (a : App). fault_of a words) (sym program_is) ∙ c.in_ok-matches.ensures.kinds (ap is_simple_and_free program_is) in
    let rows = (c.in_ok-matches.ensures.matches (ap is_simple program_is)).1 in
    let named : command_in words ≡ Some (command_of c.in-Some-2.command) =
    command_is (app_of c.in_ok-program.program) words c.in_ok-matches.matches c.in-Some.name.now (rows_of (found_of c.in-Some.found.now))
    program_is rows c.in-Some.ensures.name c.in-Some.ensures.rows
    ∙ sym c.in_ok-command.ensures ∙ ap (option_map command_of) c.in-Some-2.is in
    no_faults words none (ap is_some named)

pub returns-in_err-matches-clause-faults : goal.returns-in_err-matches-clause-faults
returns-in_err-matches-clause-faults c =
    let words = map string_bytes c.args.words.now in
    let program_is : app_of c.in_ok-program.program ≡ command_line = c.in_ok-program.ensures in
    let fault = c.in_err-matches.field-0.0 in
    fails_by c.from_residual-in_err-matches.result (faults_in words) fault c.from_residual-in_err-matches.ensures.1
    (kind_or_else (fault_of command_line words) (way_faults (subcommand_of command_line words)) fault
    (subst (λ (a : App). HasKind (fault_of a words) fault) program_is (c.in_err-matches.ensures.kinds (ap is_simple_and_free program_is))))

pub returns-in-Some-2-clause-named : goal.returns-in-Some-2-clause-named
returns-in-Some-2-clause-named c =
    let words = map string_bytes c.args.words.now in
    let program_is : app_of c.in_ok-program.program ≡ command_line = c.in_ok-program.ensures in
    let rows = (c.in_ok-matches.ensures.matches (ap is_simple program_is)).1 in
    command_is (app_of c.in_ok-program.program) words c.in_ok-matches.matches c.in-Some.name.now (rows_of (found_of c.in-Some.found.now))
    program_is rows c.in-Some.ensures.name c.in-Some.ensures.rows
    ∙ sym c.in_ok-command.ensures ∙ ap (option_map command_of) c.in-Some-2.is
