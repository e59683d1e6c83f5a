-- The commands and their arguments, as the contracts of `clap` see them.
use Rattle.std.specs.Prelude.{◌-◌, ◌^◌, ℕ, [], Some, codes, true}
use Rattle.clap.specs.Words.{App, Rule, Shape, Text, new_app, new_rule, with_rule, with_subcommand}
use Rattle.clap.specs.declared.builder.action.ArgAction.TheVariants.{Append, SetTrue}
use Rattle.clap.specs.declared.builder.value_parser.ValueParser.TheVariants.{Unsigned}
use Rattle.command_line.specs.declared.command.TheConstants.{MAX_DATAGRAMS, MAX_INTERVAL, MAX_PORT, MAX_TIMEOUT}
use Rattle.command_line.specs.declared.receive.TheConstants.{MAX_RECEIVE_BUFFER}
use Rattle.versions.specs.declared.layout.TheConstants.{WORKERS}

-- a required argument by place, one by name, and a required one by name
abbrev pub required_argument : Text → Rule
required_argument id = record (new_rule id) { required = true }

abbrev pub named_argument : Text → Rule
named_argument id = record (new_rule id) { long = Some id; value_names = 1 }

abbrev pub required_named_argument : Text → Rule
required_named_argument id = record (named_argument id) { required = true }

-- one by name, which is a number from 1 on
abbrev pub number_argument : Text → ℕ → Rule
number_argument id most = record (named_argument id) { parser = Some (Unsigned 1 most) }

-- a flag
abbrev pub flag : Text → Rule
flag id = record (new_rule id) { long = Some id; action = Some SetTrue }

-- any number of arguments by place
abbrev pub any_number_of : Text → Rule
any_number_of id = record (new_rule id) { action = Some Append }

-- at least one
abbrev pub some_number_of : Text → Rule
some_number_of id = record (any_number_of id) { required = true }

-- ---- the commands

abbrev pub first_line : App
first_line = new_app (codes "first")

-- `check`, with the format of the program or none
abbrev pub check_line : App
check_line = with_rule (new_app (codes "check")) (named_argument (codes "format"))

-- `compile EXPR`, with a format or none
abbrev pub compile_line : App
compile_line =
    with_rule (with_rule (new_app (codes "compile")) (required_argument (codes "EXPR"))) (named_argument (codes "format"))

-- `run --packet HEX`, with an expression or none, and a format or none
abbrev pub run_line : App
run_line =
    with_rule
    (with_rule (with_rule (new_app (codes "run")) (required_named_argument (codes "packet"))) (named_argument (codes "expr")))
    (named_argument (codes "format"))

-- `pack --from A --to KEY`, with digits or none, and a text or none
abbrev pub pack_line : App
pack_line =
    with_rule
    (with_rule
    (with_rule (with_rule (new_app (codes "pack")) (required_named_argument (codes "from"))) (required_named_argument (codes "to")))
    (named_argument (codes "payload")))
    (named_argument (codes "text"))

-- `explain`, with words
abbrev pub explain_line : App
explain_line = with_rule (new_app (codes "explain")) (some_number_of (codes "WORD"))

-- `spread --buckets B --by FIELDS`, with members
abbrev pub spread_line : App
spread_line =
    with_rule
    (with_rule (with_rule (new_app (codes "spread")) (required_named_argument (codes "buckets"))) (required_named_argument (codes "by")))
    (some_number_of (codes "ID=WEIGHT"))

-- `replay`, with each of its flags or without
abbrev pub replay_line : App
replay_line = with_rule (with_rule (new_app (codes "replay")) (flag (codes "summary"))) (flag (codes "quiet"))

-- `--unwrap PORT`, from 1 on
abbrev pub unwrap_argument : Rule
unwrap_argument = number_argument (codes "unwrap") MAX_PORT

-- `packets`, with a port or none
abbrev pub packets_line : App
packets_line = with_rule (new_app (codes "packets")) unwrap_argument

-- `--workers N`, N from 1 on
abbrev pub workers_argument : Rule
workers_argument = record (required_named_argument (codes "workers")) { parser = Some (Unsigned 1 WORKERS) }

-- `--datagrams D`, from 1 on
abbrev pub datagrams_argument : Rule
datagrams_argument = number_argument (codes "datagrams") MAX_DATAGRAMS

-- `flood --workers N`, with a number of datagrams or none
abbrev pub flood_line : App
flood_line = with_rule (with_rule (new_app (codes "flood")) workers_argument) datagrams_argument

-- `--receive-buffer BYTES`, from 1 on
abbrev pub receive_buffer_argument : Rule
receive_buffer_argument = number_argument (codes "receive-buffer") MAX_RECEIVE_BUFFER

-- `serve --front A --control A --workers N`, with a rules file or none, its flag or not, a way to receive or none, and a receive buffer or none
abbrev pub serve_line : App
serve_line =
    with_rule
    (with_rule
    (with_rule
    (with_rule
    (with_rule
    (with_rule (with_rule (new_app (codes "serve")) (required_named_argument (codes "front"))) (required_named_argument (codes "control")))
    workers_argument)
    (named_argument (codes "rules")))
    (flag (codes "log")))
    (named_argument (codes "receive")))
    receive_buffer_argument

-- `--timeout SECONDS`, from 1 on
abbrev pub timeout_argument : Rule
timeout_argument = number_argument (codes "timeout") MAX_TIMEOUT

-- `tell --control A`, a timeout or none, its flag or not, and lines
abbrev pub tell_line : App
tell_line =
    with_rule
    (with_rule (with_rule (with_rule (new_app (codes "tell")) (required_named_argument (codes "control"))) timeout_argument) (flag (codes "all")))
    (any_number_of (codes "LINE"))

-- `rules --control A`, with a timeout or none
abbrev pub rules_line : App
rules_line = with_rule (with_rule (new_app (codes "rules")) (required_named_argument (codes "control"))) timeout_argument

-- `load FILE`, with an address or none, a timeout or none, and each of its flags or without
abbrev pub load_line : App
load_line =
    with_rule
    (with_rule
    (with_rule (with_rule (with_rule (new_app (codes "load")) (named_argument (codes "control"))) timeout_argument) (flag (codes "check")))
    (flag (codes "diff")))
    (required_argument (codes "FILE"))

-- `drain --control A KEY ID`, with a timeout or none
abbrev pub drain_line : App
drain_line =
    with_rule
    (with_rule (with_rule (with_rule (new_app (codes "drain")) (required_named_argument (codes "control"))) timeout_argument) (required_argument (codes "KEY")))
    (required_argument (codes "ID"))

-- `metrics --control A`, with a front or none, and a timeout or none
abbrev pub metrics_line : App
metrics_line =
    with_rule
    (with_rule (with_rule (new_app (codes "metrics")) (required_named_argument (codes "control"))) (named_argument (codes "front")))
    timeout_argument

-- `--interval SECONDS`, from 1 on
abbrev pub interval_argument : Rule
interval_argument = number_argument (codes "interval") MAX_INTERVAL

-- `--count N`, from 1 on
abbrev pub count_argument : Rule
count_argument = number_argument (codes "count") (2 ^ 64 - 1)

-- `top --control A`, with an interval, a count and a timeout, or without
abbrev pub top_line : App
top_line =
    with_rule
    (with_rule (with_rule (with_rule (new_app (codes "top")) (required_named_argument (codes "control"))) interval_argument) count_argument)
    timeout_argument

abbrev pub bare : Shape
bare = (new_app (codes "dswitch")).top

abbrev pub without_commands : App
without_commands = record {
  top = record bare { has_version = true; no_binary_name = true; subcommand_required = true };
  subs = [];
}

-- a command is required
abbrev pub command_line : App
command_line =
    with_subcommand
    (with_subcommand
    (with_subcommand
    (with_subcommand
    (with_subcommand
    (with_subcommand
    (with_subcommand
    (with_subcommand
    (with_subcommand
    (with_subcommand
    (with_subcommand
    (with_subcommand
    (with_subcommand
    (with_subcommand (with_subcommand (with_subcommand (with_subcommand without_commands first_line.top) check_line.top) compile_line.top)
    run_line.top)
    pack_line.top)
    explain_line.top)
    spread_line.top)
    replay_line.top)
    packets_line.top)
    flood_line.top)
    serve_line.top)
    tell_line.top)
    rules_line.top)
    load_line.top)
    drain_line.top)
    metrics_line.top)
    top_line.top
