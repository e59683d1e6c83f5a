-- Words without a fault name a command: each number that a command is given is read.
use Rattle.std.proofs.Common.{◌≡◌, ◌∷◌, ◌||◌, ◌-◌, ◌^◌, [], ℕ, List, Bool, true, false, not, cond, Option, Some, None, is_some, inl, inr, refl, codes, slice_index_or}
use Rattle.std.specs.Prelude.{IfSome, option_and_then, option_map, unwrap_or}
use Rattle.clap.specs.Kinds.{value_kinds}
use Rattle.clap.specs.Faults.{check_fault, defaults_fault, entered_fault, fault_of, settle_fault, walk_fault}
use Rattle.clap.specs.Simple.{Shape, built, entered, names_of, subcommand_of}
use Rattle.clap.specs.Walk.{Held, Row, Text}
use Rattle.clap.specs.Walk.{walk, walk_from, nothing_held, finished, first_of, rows_after, settled}
use Rattle.clap.specs.declared.error.kind.ErrorKind.TheVariants.{InvalidValue, MissingRequiredArgument}
use Rattle.clap.specs.declared.builder.value_parser.ValueParser.TheVariants.{Unsigned}
use Rattle.clap.specs.Takes.{is_given}
use Rattle.clap.specs.ValueTests.{accepts}
use Rattle.versions.specs.declared.layout.TheConstants.{WORKERS}
use Rattle.command_line.specs.Arguments.{command_line}
use Rattle.command_line.specs.CommandLine.{command_in, count_in, datagrams_in, interval_in, number_if_given, number_in, receive_buffer_in, receive_in, spread_in, timeout_in, unwrap_in, way_faults, workers_in}
use Rattle.command_line.specs.declared.command.TheConstants.{MAX_DATAGRAMS, MAX_INTERVAL, MAX_PORT, MAX_TIMEOUT}
use Rattle.command_line.specs.declared.receive.TheConstants.{MAX_RECEIVE_BUFFER}
use Rattle.command_line.proofs.ValueLemmas.{AreRead, accepted, given_passes, level_fine, none_of_both, value_passes}
use Rattle.command_line.proofs.MetLemmas.{AreCommands, IsCommand, IsNoHelp, Stop, command_met, commands, fault_at, has_met, help_command, met_among, not_named, top, walk_on}

-- ---- the numbers that commands are given

abbrev IsNumber : ℕ → Text → Type 0
IsNumber most text = accepts false (Unsigned 1 most) text ≡ true

is_number : (most : ℕ) (text : Text) → IsNumber most text → is_some (number_in most text) ≡ true
is_number most text accepted = rw accepted refl

-- three required options, of which the last is looked at
third_given : (a b c rest : Bool) → cond (not a || (not b || (not c || rest))) (MissingRequiredArgument ∷ []) [] ≡ [] → c ≡ true
third_given true true true rest none = refl
third_given true true false rest none = cc
third_given true false c rest none = cc
third_given false b c rest none = cc

not_refused : (has : Bool) → cond (not has) (InvalidValue ∷ []) [] ≡ [] → has ≡ true
not_refused true none = refl
not_refused false none = cc

not_refused_first : (has : Bool) → cond (not has || false) (InvalidValue ∷ []) [] ≡ [] → has ≡ true
not_refused_first true none = refl
not_refused_first false none = cc

first_given : (a rest : Bool) → cond (not a || rest) (MissingRequiredArgument ∷ []) [] ≡ [] → a ≡ true
first_given true rest none = refl
first_given false rest none = cc

abbrev spread_shape : Shape
spread_shape = slice_index_or commands 6 top

abbrev packets_shape : Shape
packets_shape = slice_index_or commands 8 top

abbrev flood_shape : Shape
flood_shape = slice_index_or commands 9 top

abbrev serve_shape : Shape
serve_shape = slice_index_or commands 10 top

abbrev tell_shape : Shape
tell_shape = slice_index_or commands 11 top

abbrev rules_shape : Shape
rules_shape = slice_index_or commands 12 top

abbrev load_shape : Shape
load_shape = slice_index_or commands 13 top

abbrev drain_shape : Shape
drain_shape = slice_index_or commands 14 top

abbrev metrics_shape : Shape
metrics_shape = slice_index_or commands 15 top

abbrev top_shape : Shape
top_shape = slice_index_or commands 16 top

-- the most screens
abbrev MOST : ℕ
MOST = 2 ^ 64 - 1

-- the checks at the end of a level
abbrev rows_of_command : Shape → List Text → List Row
rows_of_command s words = rows_after s.rules [] words

last_check : (s : Shape) (words : List Text) → fault_at s words ≡ [] → check_fault s (rows_of_command s words) false ≡ []
last_check s words none =
    let walks = none_of_both (walk_fault s [] (walk_from nothing_held) words) _ none in
    let held : Held = (walk s.rules [] nothing_held words).held in
    let settles = none_of_both (settle_fault s.rules s.args_override_self held) _ walks.1 in
    (none_of_both (defaults_fault (settled s.rules held).rows s.rules) _ settles.1).1

-- the number of a text, if there is one
is_number_if_given : (most : ℕ) (given : Option Text) → IfSome given (IsNumber most) → is_some (number_if_given most given) ≡ true
is_number_if_given most None accepted = refl
is_number_if_given most (Some text) accepted = rw accepted refl

-- an option that is a number, and others
abbrev reads : (most : ℕ) → (text : Text) → value_kinds false (Unsigned 1 most) text ≡ [] → IsNumber most text
reads most text none = accepted (Unsigned 1 most) text none

packets_port : AreRead packets_shape (codes "unwrap") (IsNumber MAX_PORT) packets_shape.rules
packets_port = (inl refl, λ same. (refl, reads MAX_PORT), (inl refl, λ same. cc, tt))

flood_workers : AreRead flood_shape (codes "workers") (IsNumber WORKERS) flood_shape.rules
flood_workers = (inl refl, λ same. (refl, reads WORKERS), (inl refl, λ same. cc, (inl refl, λ same. cc, tt)))

flood_datagrams : AreRead flood_shape (codes "datagrams") (IsNumber MAX_DATAGRAMS) flood_shape.rules
flood_datagrams = (inl refl, λ same. cc, (inl refl, λ same. (refl, reads MAX_DATAGRAMS), (inl refl, λ same. cc, tt)))

serve_workers : AreRead serve_shape (codes "workers") (IsNumber WORKERS) serve_shape.rules
serve_workers = (inl refl, λ same. cc, (inl refl, λ same. cc, (inl refl, λ same. (refl, reads WORKERS), (inl refl, λ same. cc, (inr refl, λ same. cc, (inl refl, λ same. cc, (inl refl, λ same. cc, (inl refl, λ same. cc, tt))))))))

serve_buffer : AreRead serve_shape (codes "receive-buffer") (IsNumber MAX_RECEIVE_BUFFER) serve_shape.rules
serve_buffer = (inl refl, λ same. cc, (inl refl, λ same. cc, (inl refl, λ same. cc, (inl refl, λ same. cc, (inr refl, λ same. cc, (inl refl, λ same. cc, (inl refl, λ same. (refl, reads MAX_RECEIVE_BUFFER), (inl refl, λ same. cc, tt))))))))

tell_timeout : AreRead tell_shape (codes "timeout") (IsNumber MAX_TIMEOUT) tell_shape.rules
tell_timeout = (inl refl, λ same. cc, (inl refl, λ same. (refl, reads MAX_TIMEOUT), (inr refl, λ same. cc, (inl refl, λ same. cc, (inl refl, λ same. cc, tt)))))

rules_timeout : AreRead rules_shape (codes "timeout") (IsNumber MAX_TIMEOUT) rules_shape.rules
rules_timeout = (inl refl, λ same. cc, (inl refl, λ same. (refl, reads MAX_TIMEOUT), (inl refl, λ same. cc, tt)))

load_timeout : AreRead load_shape (codes "timeout") (IsNumber MAX_TIMEOUT) load_shape.rules
load_timeout = (inl refl, λ same. cc, (inl refl, λ same. (refl, reads MAX_TIMEOUT), (inr refl, λ same. cc, (inr refl, λ same. cc, (inl refl, λ same. cc, (inl refl, λ same. cc, tt))))))

drain_timeout : AreRead drain_shape (codes "timeout") (IsNumber MAX_TIMEOUT) drain_shape.rules
drain_timeout = (inl refl, λ same. cc, (inl refl, λ same. (refl, reads MAX_TIMEOUT), (inl refl, λ same. cc, (inl refl, λ same. cc, (inl refl, λ same. cc, tt)))))

metrics_timeout : AreRead metrics_shape (codes "timeout") (IsNumber MAX_TIMEOUT) metrics_shape.rules
metrics_timeout = (inl refl, λ same. cc, (inl refl, λ same. cc, (inl refl, λ same. (refl, reads MAX_TIMEOUT), (inl refl, λ same. cc, tt))))

top_interval : AreRead top_shape (codes "interval") (IsNumber MAX_INTERVAL) top_shape.rules
top_interval = (inl refl, λ same. cc, (inl refl, λ same. (refl, reads MAX_INTERVAL), (inl refl, λ same. cc, (inl refl, λ same. cc, (inl refl, λ same. cc, tt)))))

top_count : AreRead top_shape (codes "count") (IsNumber MOST) top_shape.rules
top_count = (inl refl, λ same. cc, (inl refl, λ same. cc, (inl refl, λ same. (refl, reads MOST), (inl refl, λ same. cc, (inl refl, λ same. cc, tt)))))

top_timeout : AreRead top_shape (codes "timeout") (IsNumber MAX_TIMEOUT) top_shape.rules
top_timeout = (inl refl, λ same. cc, (inl refl, λ same. cc, (inl refl, λ same. cc, (inl refl, λ same. (refl, reads MAX_TIMEOUT), (inl refl, λ same. cc, tt)))))

-- a number of workers and one of datagrams make a command
both_numbers : {A B C : Type 0} (f : A → B → C) (a : Option A) (b : Option B) → is_some a ≡ true → is_some b ≡ true
    → is_some (option_and_then (λ x. option_map (λ y. f x y) b) a) ≡ true
both_numbers f None b has has' = cc
both_numbers f (Some x) None has has' = cc
both_numbers f (Some x) (Some y) has has' = refl

one_number : {A C : Type 0} (f : A → C) (a : Option A) → is_some a ≡ true → is_some (option_map (λ x. f x) a) ≡ true
one_number f None has = cc
one_number f (Some x) has = refl

three_numbers : {A B C D : Type 0} (f : A → B → C → D) (a : Option A) (b : Option B) (c : Option C) → is_some a ≡ true → is_some b ≡ true
    → is_some c ≡ true → is_some (option_and_then (λ x. option_and_then (λ y. option_map (λ z. f x y z) c) b) a) ≡ true
three_numbers f None b c has has' has'' = cc
three_numbers f (Some x) None c has has' has'' = cc
three_numbers f (Some x) (Some y) None has has' has'' = cc
three_numbers f (Some x) (Some y) (Some z) has has' has'' = refl

is_spread : IsCommand spread_shape
is_spread words none way = not_refused (is_some (spread_in (rows_of_command spread_shape words))) way

is_packets : IsCommand packets_shape
is_packets words none way =
    let rows = rows_of_command packets_shape words in
    let port = given_passes packets_shape (codes "unwrap") (IsNumber MAX_PORT) rows (level_fine packets_shape (codes "unwrap") (IsNumber MAX_PORT) packets_port words none) in
    one_number _ (unwrap_in rows) (is_number_if_given MAX_PORT (first_of (codes "unwrap") rows) port)

is_flood : IsCommand flood_shape
is_flood words none way =
    let rows = rows_of_command flood_shape words in
    let given : is_given (codes "workers") rows ≡ true = first_given _ _ (last_check flood_shape words none) in
    let workers = value_passes flood_shape (codes "workers") (IsNumber WORKERS) rows [] (level_fine flood_shape (codes "workers") (IsNumber WORKERS) flood_workers words none) (inl given) in
    let datagrams = value_passes flood_shape (codes "datagrams") (IsNumber MAX_DATAGRAMS) rows (codes "4096") (level_fine flood_shape (codes "datagrams") (IsNumber MAX_DATAGRAMS) flood_datagrams words none) (inr refl) in
    both_numbers _ (workers_in rows) (datagrams_in rows) (is_number WORKERS (unwrap_or (first_of (codes "workers") rows) []) workers) (is_number MAX_DATAGRAMS (unwrap_or (first_of (codes "datagrams") rows) (codes "4096")) datagrams)

is_serve : IsCommand serve_shape
is_serve words none way =
    let rows = rows_of_command serve_shape words in
    let given : is_given (codes "workers") rows ≡ true = third_given _ _ _ _ (last_check serve_shape words none) in
    let workers = value_passes serve_shape (codes "workers") (IsNumber WORKERS) rows [] (level_fine serve_shape (codes "workers") (IsNumber WORKERS) serve_workers words none) (inl given) in
    let buffer = given_passes serve_shape (codes "receive-buffer") (IsNumber MAX_RECEIVE_BUFFER) rows (level_fine serve_shape (codes "receive-buffer") (IsNumber MAX_RECEIVE_BUFFER) serve_buffer words none) in
    three_numbers _ (workers_in rows) (receive_in rows) (receive_buffer_in rows)
    (is_number WORKERS (unwrap_or (first_of (codes "workers") rows) []) workers)
    (not_refused_first (is_some (receive_in rows)) way)
    (is_number_if_given MAX_RECEIVE_BUFFER (first_of (codes "receive-buffer") rows) buffer)

is_tell : IsCommand tell_shape
is_tell words none way =
    let rows = rows_of_command tell_shape words in
    let timeout = value_passes tell_shape (codes "timeout") (IsNumber MAX_TIMEOUT) rows (codes "1") (level_fine tell_shape (codes "timeout") (IsNumber MAX_TIMEOUT) tell_timeout words none) (inr refl) in
    one_number _ (timeout_in rows) (is_number MAX_TIMEOUT (unwrap_or (first_of (codes "timeout") rows) (codes "1")) timeout)

is_rules : IsCommand rules_shape
is_rules words none way =
    let rows = rows_of_command rules_shape words in
    let timeout = value_passes rules_shape (codes "timeout") (IsNumber MAX_TIMEOUT) rows (codes "1") (level_fine rules_shape (codes "timeout") (IsNumber MAX_TIMEOUT) rules_timeout words none) (inr refl) in
    one_number _ (timeout_in rows) (is_number MAX_TIMEOUT (unwrap_or (first_of (codes "timeout") rows) (codes "1")) timeout)

is_load : IsCommand load_shape
is_load words none way =
    let rows = rows_of_command load_shape words in
    let timeout = value_passes load_shape (codes "timeout") (IsNumber MAX_TIMEOUT) rows (codes "1") (level_fine load_shape (codes "timeout") (IsNumber MAX_TIMEOUT) load_timeout words none) (inr refl) in
    one_number _ (timeout_in rows) (is_number MAX_TIMEOUT (unwrap_or (first_of (codes "timeout") rows) (codes "1")) timeout)

is_drain : IsCommand drain_shape
is_drain words none way =
    let rows = rows_of_command drain_shape words in
    let timeout = value_passes drain_shape (codes "timeout") (IsNumber MAX_TIMEOUT) rows (codes "1") (level_fine drain_shape (codes "timeout") (IsNumber MAX_TIMEOUT) drain_timeout words none) (inr refl) in
    one_number _ (timeout_in rows) (is_number MAX_TIMEOUT (unwrap_or (first_of (codes "timeout") rows) (codes "1")) timeout)

is_metrics : IsCommand metrics_shape
is_metrics words none way =
    let rows = rows_of_command metrics_shape words in
    let timeout = value_passes metrics_shape (codes "timeout") (IsNumber MAX_TIMEOUT) rows (codes "1") (level_fine metrics_shape (codes "timeout") (IsNumber MAX_TIMEOUT) metrics_timeout words none) (inr refl) in
    one_number _ (timeout_in rows) (is_number MAX_TIMEOUT (unwrap_or (first_of (codes "timeout") rows) (codes "1")) timeout)

is_top : IsCommand top_shape
is_top words none way =
    let rows = rows_of_command top_shape words in
    let interval = value_passes top_shape (codes "interval") (IsNumber MAX_INTERVAL) rows (codes "1") (level_fine top_shape (codes "interval") (IsNumber MAX_INTERVAL) top_interval words none) (inr refl) in
    let count = value_passes top_shape (codes "count") (IsNumber MOST) rows (codes "18446744073709551615") (level_fine top_shape (codes "count") (IsNumber MOST) top_count words none) (inr refl) in
    let timeout = value_passes top_shape (codes "timeout") (IsNumber MAX_TIMEOUT) rows (codes "1") (level_fine top_shape (codes "timeout") (IsNumber MAX_TIMEOUT) top_timeout words none) (inr refl) in
    three_numbers _ (interval_in rows) (count_in rows) (timeout_in rows)
    (is_number MAX_INTERVAL (unwrap_or (first_of (codes "interval") rows) (codes "1")) interval)
    (is_number MOST (unwrap_or (first_of (codes "count") rows) (codes "18446744073709551615")) count)
    (is_number MAX_TIMEOUT (unwrap_or (first_of (codes "timeout") rows) (codes "1")) timeout)

are_commands : AreCommands commands
are_commands = ((λ words none way. refl), ((λ words none way. refl), ((λ words none way. refl), ((λ words none way. refl), ((λ words none way. refl), ((λ words none way. refl), (is_spread, ((λ words none way. refl), (is_packets, (is_flood, (is_serve, (is_tell, (is_rules, (is_load, (is_drain, (is_metrics, (is_top, tt)))))))))))))))))

entered_command : (stop : Stop) → IsNoHelp top stop → entered_fault (built command_line) stop ≡ [] → way_faults (entered (built command_line) stop) ≡ []
    → is_some (entered (built command_line) stop) ≡ true → is_some (command_met (entered (built command_line) stop)) ≡ true
entered_command None no_help none way met = cc
entered_command (Some p) no_help none way met =
    met_among commands help_command p.0 p.1 are_commands (not_named (codes "help") p.0 no_help) none way met

-- words without a fault name a command
pub names_command : (words : List Text) → fault_of command_line words ≡ [] → way_faults (subcommand_of command_line words) ≡ [] → is_some (command_in words) ≡ true
names_command words none way =
    let names = names_of (built command_line) in
    let end = walk top.rules names nothing_held words in
    let on = none_of_both (walk_fault top names (walk_from nothing_held) words) _ none in
    let in_command = none_of_both (entered_fault (built command_line) end.stopped) _ on.1 in
    let in_last = none_of_both (settle_fault top.rules top.args_override_self end.held) _ in_command.1 in
    let in_defaults = none_of_both (defaults_fault (settled top.rules end.held).rows top.rules) _ in_last.1 in
    entered_command end.stopped (walk_on top names words (walk_from nothing_held) tt on.0) in_command.0 way
    (has_met (finished top.rules end.held) (is_some (entered (built command_line) end.stopped)) in_defaults.1)
