-- The command that the program's words name, and their faults, as the contracts of `clap` see them.
use Rattle.std.specs.Prelude.{◌≢◌, ◌⊎◌, ◌∷◌, ◌&&◌, ◌||◌, ◌-◌, ◌^◌, [], Bool, List, None, Option, Some, codes, false, if◌then◌else◌, is_some, map, not, option_and_then, option_map, unwrap_or, ℕ}
use Rattle.std.specs.Str.{bytes_eq}
use Rattle.std.specs.Str.Parse.{digits_value, without_leading_plus}
use Rattle.clap.specs.Kinds.{or_else}
use Rattle.clap.specs.ValueTests.{accepts}
use Rattle.clap.specs.Walk.{all_of, first_of}
use Rattle.clap.specs.Words.{IsAmong, Kinds, Row, Text, fault_of, subcommand_of}
use Rattle.clap.specs.declared.builder.value_parser.ValueParser.TheVariants.{Unsigned}
use Rattle.clap.specs.declared.error.kind.ErrorKind.{ErrorKind}
use Rattle.clap.specs.declared.error.kind.ErrorKind.TheVariants.{DisplayHelp, DisplayVersion, InvalidValue}
use Rattle.command_line.specs.declared.command.Query.{Query}
use Rattle.command_line.specs.declared.command.Query.TheVariants as query
use Rattle.command_line.specs.declared.command.Returning.{Returning}
use Rattle.command_line.specs.declared.command.Returning.TheVariants as returned
use Rattle.command_line.specs.declared.command.Subcommand.{Subcommand}
use Rattle.command_line.specs.declared.command.Subcommand.TheVariants as subcommand
use Rattle.command_line.specs.declared.command.Waiting.{Waiting}
use Rattle.command_line.specs.declared.command.Waiting.TheVariants as waited
use Rattle.command_line.specs.declared.command.TheConstants.{MAX_DATAGRAMS, MAX_INTERVAL, MAX_PORT, MAX_TIMEOUT}
use Rattle.command_line.specs.declared.receive.ReceiveWay.{ReceiveWay}
use Rattle.command_line.specs.declared.receive.ReceiveWay.TheVariants.{Direct, Queued}
use Rattle.command_line.specs.declared.receive.TheConstants.{MAX_RECEIVE_BUFFER}
use Rattle.versions.specs.declared.layout.TheConstants.{WORKERS}
use Rattle.selector_buckets.specs.declared.hash.HashBy.{HashBy}
use Rattle.selector_buckets.specs.declared.share.Share.{Share}
use Rattle.command_line.specs.Shares.{spreading_in}
use Rattle.command_line.specs.Arguments.{command_line}

-- the help or the version is asked for
abbrev pub AsksForText : Kinds → Type 0
AsksForText kinds = IsAmong DisplayHelp kinds ⊎ IsAmong DisplayVersion kinds

-- there is a fault beside requests for the help or the version
abbrev pub HasMisuse : Kinds → Type 0
HasMisuse kinds = (kind : ErrorKind) × IsAmong kind kinds × (kind ≢ DisplayHelp) × (kind ≢ DisplayVersion)

-- ---- the command that is named

-- a command that returns, with its arguments
pub data Request : Type 0 where
  first : Request
  check : (format : Text) → Request
  compile : (expression format : Text) → Request
  run : (packet format : Text) → Request
  judge : (packet expression : Text) → Request
  pack : (source destination : Text) (payload text : Option Text) → Request
  explain : (words : List Text) → Request
  spread : (depth : ℕ) (by : HashBy) (shares : List Share) → Request
  replay : (summary quiet : Bool) → Request
  packets : (unwrapped : Option ℕ) → Request

-- a command that may wait: it runs worker threads, or awaits replies
pub data WaitingRequest : Type 0 where
  flood : (workers datagrams : ℕ) → WaitingRequest
  serve : (front control : Text) (workers : ℕ) (rules_file : Option Text) (logs : Bool) (receive : ReceiveWay) (buffer : Option ℕ) → WaitingRequest
  tell : (control : Text) (timeout : ℕ) (all : Bool) (lines : List Text) → WaitingRequest
  rules : (control : Text) (timeout : ℕ) → WaitingRequest
  load : (control : Option Text) (timeout : ℕ) (rules_file : Text) (only_check only_diff : Bool) → WaitingRequest
  drain : (control : Text) (timeout : ℕ) (key member : Text) → WaitingRequest
  metrics : (control : Text) (front : Option Text) (timeout : ℕ) → WaitingRequest
  top : (control : Text) (interval count timeout : ℕ) → WaitingRequest

pub data Command : Type 0 where
  returning : Request → Command
  waiting : WaitingRequest → Command

abbrev pub query_request : Query → Request
query_request query.First = first
query_request (query.Check format) = check format.now
query_request (query.Compile expression format) = compile expression.now format.now
query_request (query.Run packet format) = run packet.now format.now
query_request (query.Judge packet expression) = judge packet.now expression.now
query_request (query.Pack source destination payload text) =
    pack source.now destination.now (option_map (λ digits. digits.now) payload) (option_map (λ it. it.now) text)
query_request (query.Explain words) = explain (map (λ word. word.now) words.items)
query_request (query.Spread asked) = spread asked.depth asked.by asked.shares.items

abbrev pub request_of : Returning → Request
request_of (returned.Query asked) = query_request asked
request_of (returned.Replay summary quiet) = replay summary quiet
request_of (returned.Packets unwrapped) = packets unwrapped

abbrev pub waiting_of : Waiting → WaitingRequest
waiting_of (waited.Flood workers datagrams) = flood workers.count datagrams
waiting_of (waited.Serve front control workers file logs receive buffer) =
    serve front.now control.now workers.count (option_map (λ name. name.now) file) logs receive (option_map (λ asked. asked.bytes) buffer)
waiting_of (waited.Tell control timeout all lines) = tell control.now timeout all (map (λ line. line.now) lines.items)
waiting_of (waited.Rules control timeout) = rules control.now timeout
waiting_of (waited.Load control timeout file only_check only_diff) =
    load (option_map (λ address. address.now) control) timeout file.now only_check only_diff
waiting_of (waited.Drain control timeout key member) = drain control.now timeout key.now member.now
waiting_of (waited.Metrics control front timeout) = metrics control.now (option_map (λ address. address.now) front) timeout
waiting_of (waited.Top control interval count timeout) = top control.now interval count timeout

abbrev pub command_of : Subcommand → Command
command_of (subcommand.Returning asked) = returning (request_of asked)
command_of (subcommand.Waiting asked) = waiting (waiting_of asked)

-- `run`, with an expression, of which no program is read, or without
abbrev pub run_or_judge : Text → Text → Option Text → Request
run_or_judge packet format None = run packet format
run_or_judge packet format (Some expression) = judge packet expression

-- the value of an argument, which a required one has
abbrev pub value_in : List Row → Text → Text
value_in rows id = unwrap_or (first_of id rows) []

-- the values of an argument that may have any number of them, in order
abbrev pub values_in : List Row → Text → List Text
values_in rows id = unwrap_or (all_of id rows) []

-- the number of a text of decimal digits, if it is from 1 to `most`; leading zeros and one plus sign before them are allowed
abbrev pub number_in : ℕ → Text → Option ℕ
number_in most text = if accepts false (Unsigned 1 most) text then Some (digits_value 10 (without_leading_plus text)) else None

abbrev pub workers_in : List Row → Option ℕ
workers_in rows = number_in WORKERS (value_in rows (codes "workers"))

-- a second, if no other number is given
abbrev pub timeout_in : List Row → Option ℕ
timeout_in rows = number_in MAX_TIMEOUT (unwrap_or (first_of (codes "timeout") rows) (codes "1"))

-- a second between screens, if no other number is given
abbrev pub interval_in : List Row → Option ℕ
interval_in rows = number_in MAX_INTERVAL (unwrap_or (first_of (codes "interval") rows) (codes "1"))

-- 2^64 - 1 screens, if no other number is given
abbrev pub count_in : List Row → Option ℕ
count_in rows = number_in (2 ^ 64 - 1) (unwrap_or (first_of (codes "count") rows) (codes "18446744073709551615"))

-- 4096 datagrams, if no other number is given
abbrev pub datagrams_in : List Row → Option ℕ
datagrams_in rows = number_in MAX_DATAGRAMS (unwrap_or (first_of (codes "datagrams") rows) (codes "4096"))

-- the way to receive that a text names
abbrev pub receive_named : Text → Option ReceiveWay
receive_named text =
    if bytes_eq text (codes "queued") then Some Queued else if bytes_eq text (codes "direct") then Some Direct else None

-- in turn, if no other way is given
abbrev pub receive_in : List Row → Option ReceiveWay
receive_in rows = receive_named (unwrap_or (first_of (codes "receive") rows) (codes "queued"))

-- the number of a text, if there is a text
abbrev pub number_if_given : ℕ → Option Text → Option (Option ℕ)
number_if_given most None = Some None
number_if_given most (Some text) = option_map (λ number. Some number) (number_in most text)

-- a number of bytes, if it is given
abbrev pub receive_buffer_in : List Row → Option (Option ℕ)
receive_buffer_in rows = number_if_given MAX_RECEIVE_BUFFER (first_of (codes "receive-buffer") rows)

-- a port, if it is given
abbrev pub unwrap_in : List Row → Option (Option ℕ)
unwrap_in rows = number_if_given MAX_PORT (first_of (codes "unwrap") rows)

-- a flag is given
abbrev pub is_set : List Row → Text → Bool
is_set rows id = bytes_eq (value_in rows id) (codes "true")

-- assembly text, if no other format is given
abbrev pub format_in : List Row → Text
format_in rows = unwrap_or (first_of (codes "format") rows) (codes "asm")

abbrev pub pack_in : List Row → Request
pack_in rows = pack (value_in rows (codes "from")) (value_in rows (codes "to")) (first_of (codes "payload") rows) (first_of (codes "text") rows)

abbrev pub packets_in : List Row → Option Command
packets_in rows = option_map (λ port. returning (packets port)) (unwrap_in rows)

abbrev pub spread_in : List Row → Option Command
spread_in rows =
    option_map
    (λ asked. returning (spread asked.0 asked.1 asked.2))
    (spreading_in (value_in rows (codes "buckets")) (value_in rows (codes "by")) (values_in rows (codes "ID=WEIGHT")))

abbrev pub flood_in : List Row → Option Command
flood_in rows = option_and_then (λ workers. option_map (λ datagrams. waiting (flood workers datagrams)) (datagrams_in rows)) (workers_in rows)

abbrev pub serve_in : List Row → Option Command
serve_in rows =
    option_and_then
    (λ workers. option_and_then
    (λ receive. option_map
    (λ buffer. waiting
    (serve (value_in rows (codes "front")) (value_in rows (codes "control")) workers (first_of (codes "rules") rows) (is_set rows (codes "log")) receive buffer))
    (receive_buffer_in rows))
    (receive_in rows))
    (workers_in rows)

abbrev pub tell_in : List Row → Option Command
tell_in rows =
    option_map (λ timeout. waiting (tell (value_in rows (codes "control")) timeout (is_set rows (codes "all")) (values_in rows (codes "LINE"))))
    (timeout_in rows)

abbrev pub rules_in : List Row → Option Command
rules_in rows = option_map (λ timeout. waiting (rules (value_in rows (codes "control")) timeout)) (timeout_in rows)

abbrev pub load_in : List Row → Option Command
load_in rows =
    option_map
    (λ timeout. waiting (load (first_of (codes "control") rows) timeout (value_in rows (codes "FILE")) (is_set rows (codes "check")) (is_set rows (codes "diff"))))
    (timeout_in rows)

abbrev pub drain_in : List Row → Option Command
drain_in rows =
    option_map
    (λ timeout. waiting (drain (value_in rows (codes "control")) timeout (value_in rows (codes "KEY")) (value_in rows (codes "ID"))))
    (timeout_in rows)

abbrev pub metrics_in : List Row → Option Command
metrics_in rows =
    option_map (λ timeout. waiting (metrics (value_in rows (codes "control")) (first_of (codes "front") rows) timeout)) (timeout_in rows)

abbrev pub top_in : List Row → Option Command
top_in rows =
    option_and_then
    (λ interval. option_and_then (λ count. option_map (λ timeout. waiting (top (value_in rows (codes "control")) interval count timeout)) (timeout_in rows))
    (count_in rows))
    (interval_in rows)

abbrev pub command_named : Text → List Row → Option Command
command_named name rows =
    if bytes_eq name (codes "first")
    then Some (returning first)
    else if bytes_eq name (codes "check")
    then Some (returning (check (format_in rows)))
    else if bytes_eq name (codes "compile")
    then Some (returning (compile (value_in rows (codes "EXPR")) (format_in rows)))
    else if bytes_eq name (codes "run")
    then Some (returning (run_or_judge (value_in rows (codes "packet")) (format_in rows) (first_of (codes "expr") rows)))
    else if bytes_eq name (codes "pack")
    then Some (returning (pack_in rows))
    else if bytes_eq name (codes "explain")
    then Some (returning (explain (values_in rows (codes "WORD"))))
    else if bytes_eq name (codes "spread")
    then spread_in rows
    else if bytes_eq name (codes "replay")
    then Some (returning (replay (is_set rows (codes "summary")) (is_set rows (codes "quiet"))))
    else if bytes_eq name (codes "packets")
    then packets_in rows
    else if bytes_eq name (codes "flood")
    then flood_in rows
    else if bytes_eq name (codes "serve")
    then serve_in rows
    else if bytes_eq name (codes "tell")
    then tell_in rows
    else if bytes_eq name (codes "rules")
    then rules_in rows
    else if bytes_eq name (codes "load")
    then load_in rows
    else if bytes_eq name (codes "drain")
    then drain_in rows
    else if bytes_eq name (codes "metrics")
    then metrics_in rows
    else if bytes_eq name (codes "top")
    then top_in rows
    else None

-- a command is given an invalid value: `serve` a way to receive, or `spread` any of its values
abbrev pub has_bad_value : Text → List Row → Bool
has_bad_value name rows =
    (bytes_eq name (codes "serve") && not (is_some (receive_in rows))) || (bytes_eq name (codes "spread") && not (is_some (spread_in rows)))

-- the fault of words in which `clap` finds none
abbrev pub way_faults : Option (Text × List Row) → Kinds
way_faults None = []
way_faults (Some named) = if has_bad_value named.0 named.1 then InvalidValue ∷ [] else []

-- the faults that `clap` finds in the words after the program's name, or else that fault: none, if they name a command
abbrev pub faults_in : List Text → Kinds
faults_in words = or_else (fault_of command_line words) (way_faults (subcommand_of command_line words))

-- the command that the words name, with the values that they give its arguments
abbrev pub command_in : List Text → Option Command
command_in words = option_and_then (λ named. command_named named.0 named.1) (subcommand_of command_line words)
