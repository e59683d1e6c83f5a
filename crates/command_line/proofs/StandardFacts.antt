-- What `clap` finds in words that are written out.
use Rattle.std.proofs.Common.{◌≡◌, ◌∷◌, [], None, Some, codes, false, refl, true}
use Rattle.clap.proofs.OnLiterals.{clap_on_literals}
use Rattle.clap.specs.declared.error.kind.ErrorKind.TheVariants.{ArgumentConflict, DisplayHelp, DisplayVersion, InvalidSubcommand, InvalidValue, MissingRequiredArgument, MissingSubcommand, TooManyValues, UnknownArgument, ValueValidation}
use Rattle.command_line.specs.declared.receive.ReceiveWay.TheVariants.{Direct, Queued}
use Rattle.command_line.specs.CommandLine.{check, command_in, compile, explain, faults_in, flood, judge, load, metrics, pack, packets, replay, returning, rules, run, serve, tell, top, waiting}

in_first : faults_in (codes "first" ∷ []) ≡ []
unfolding clap_on_literals
in_first = refl

in_no_words : faults_in [] ≡ MissingSubcommand ∷ []
unfolding clap_on_literals
in_no_words = refl

in_unknown_word : faults_in (codes "second" ∷ []) ≡ UnknownArgument ∷ InvalidSubcommand ∷ []
unfolding clap_on_literals
in_unknown_word = refl

in_one_word_more : faults_in (codes "first" ∷ codes "first" ∷ []) ≡ UnknownArgument ∷ []
unfolding clap_on_literals
in_one_word_more = refl

in_help : faults_in (codes "--help" ∷ []) ≡ DisplayHelp ∷ []
unfolding clap_on_literals
in_help = refl

in_help_on_first : faults_in (codes "first" ∷ codes "-h" ∷ []) ≡ DisplayHelp ∷ []
unfolding clap_on_literals
in_help_on_first = refl

in_version : faults_in (codes "--version" ∷ []) ≡ DisplayVersion ∷ []
unfolding clap_on_literals
in_version = refl

in_flood : faults_in (codes "flood" ∷ codes "--workers" ∷ codes "64" ∷ []) ≡ []
unfolding clap_on_literals
in_flood = refl

in_flood_request : command_in (codes "flood" ∷ codes "--workers" ∷ codes "64" ∷ []) ≡ Some (waiting (flood 64 4096))
unfolding clap_on_literals
in_flood_request = refl

in_flood_of_none : faults_in (codes "flood" ∷ codes "--workers" ∷ codes "0" ∷ []) ≡ ValueValidation ∷ []
unfolding clap_on_literals
in_flood_of_none = refl

in_flood_of_too_many : faults_in (codes "flood" ∷ codes "--workers" ∷ codes "65" ∷ []) ≡ ValueValidation ∷ []
unfolding clap_on_literals
in_flood_of_too_many = refl

in_flood_of_a_letter : faults_in (codes "flood" ∷ codes "--workers" ∷ codes "x" ∷ []) ≡ ValueValidation ∷ []
unfolding clap_on_literals
in_flood_of_a_letter = refl

in_flood_alone : faults_in (codes "flood" ∷ []) ≡ MissingRequiredArgument ∷ []
unfolding clap_on_literals
in_flood_alone = refl

in_flood_of_the_most : command_in (codes "flood" ∷ codes "--workers" ∷ codes "4" ∷ codes "--datagrams" ∷ codes "16777216" ∷ [])
    ≡ Some (waiting (flood 4 16777216))
unfolding clap_on_literals
in_flood_of_the_most = refl

in_flood_of_the_most_has_no_fault : faults_in (codes "flood" ∷ codes "--workers" ∷ codes "4" ∷ codes "--datagrams" ∷ codes "16777216" ∷ []) ≡ []
unfolding clap_on_literals
in_flood_of_the_most_has_no_fault = refl

in_flood_of_one_more : faults_in (codes "flood" ∷ codes "--workers" ∷ codes "4" ∷ codes "--datagrams" ∷ codes "16777217" ∷ []) ≡ ValueValidation ∷ []
unfolding clap_on_literals
in_flood_of_one_more = refl

in_flood_of_no_datagrams : faults_in (codes "flood" ∷ codes "--workers" ∷ codes "4" ∷ codes "--datagrams" ∷ codes "0" ∷ []) ≡ ValueValidation ∷ []
unfolding clap_on_literals
in_flood_of_no_datagrams = refl

in_replay : command_in (codes "replay" ∷ []) ≡ Some (returning (replay false false))
unfolding clap_on_literals
in_replay = refl

in_replay_with_a_summary : command_in (codes "replay" ∷ codes "--summary" ∷ []) ≡ Some (returning (replay true false))
unfolding clap_on_literals
in_replay_with_a_summary = refl

in_quiet_replay : command_in (codes "replay" ∷ codes "--quiet" ∷ []) ≡ Some (returning (replay false true))
unfolding clap_on_literals
in_quiet_replay = refl

in_replay_with_both : command_in (codes "replay" ∷ codes "--quiet" ∷ codes "--summary" ∷ []) ≡ Some (returning (replay true true))
unfolding clap_on_literals
in_replay_with_both = refl

in_replay_with_both_has_no_fault : faults_in (codes "replay" ∷ codes "--quiet" ∷ codes "--summary" ∷ []) ≡ []
unfolding clap_on_literals
in_replay_with_both_has_no_fault = refl

in_replay_with_a_flag_twice : faults_in (codes "replay" ∷ codes "--quiet" ∷ codes "--quiet" ∷ []) ≡ ArgumentConflict ∷ []
unfolding clap_on_literals
in_replay_with_a_flag_twice = refl

in_replay_with_a_value : faults_in (codes "replay" ∷ codes "--quiet=true" ∷ []) ≡ TooManyValues ∷ []
unfolding clap_on_literals
in_replay_with_a_value = refl

in_serve : faults_in (codes "serve" ∷ codes "--front" ∷ codes "0.0.0.0:1" ∷ codes "--control" ∷ codes "0.0.0.0:2" ∷ codes "--workers" ∷ codes "64" ∷ []) ≡ []
unfolding clap_on_literals
in_serve = refl

in_serve_request : command_in (codes "serve" ∷ codes "--front" ∷ codes "0.0.0.0:1" ∷ codes "--control" ∷ codes "0.0.0.0:2" ∷ codes "--workers" ∷ codes "64" ∷ [])
    ≡ Some (waiting (serve (codes "0.0.0.0:1") (codes "0.0.0.0:2") 64 None false Queued None))
unfolding clap_on_literals
in_serve_request = refl

in_serve_with_rules : command_in (codes "serve" ∷ codes "--rules" ∷ codes "r" ∷ codes "--front" ∷ codes "0.0.0.0:1" ∷ codes "--control" ∷ codes "0.0.0.0:2" ∷ codes "--workers" ∷ codes "64" ∷ [])
    ≡ Some (waiting (serve (codes "0.0.0.0:1") (codes "0.0.0.0:2") 64 (Some (codes "r")) false Queued None))
unfolding clap_on_literals
in_serve_with_rules = refl

in_serve_with_log : command_in (codes "serve" ∷ codes "--front" ∷ codes "0.0.0.0:1" ∷ codes "--log" ∷ codes "--control" ∷ codes "0.0.0.0:2" ∷ codes "--workers" ∷ codes "64" ∷ [])
    ≡ Some (waiting (serve (codes "0.0.0.0:1") (codes "0.0.0.0:2") 64 None true Queued None))
unfolding clap_on_literals
in_serve_with_log = refl

in_serve_without_front : faults_in (codes "serve" ∷ codes "--control" ∷ codes "0.0.0.0:2" ∷ codes "--workers" ∷ codes "64" ∷ []) ≡ MissingRequiredArgument ∷ []
unfolding clap_on_literals
in_serve_without_front = refl

in_serve_of_too_many : faults_in (codes "serve" ∷ codes "--front" ∷ codes "0.0.0.0:1" ∷ codes "--control" ∷ codes "0.0.0.0:2" ∷ codes "--workers" ∷ codes "65" ∷ [])
    ≡ ValueValidation ∷ []
unfolding clap_on_literals
in_serve_of_too_many = refl

in_serve_that_receives_queued : command_in (codes "serve" ∷ codes "--front" ∷ codes "0.0.0.0:1" ∷ codes "--control" ∷ codes "0.0.0.0:2" ∷ codes "--workers" ∷ codes "64" ∷ codes "--receive" ∷ codes "queued" ∷ [])
    ≡ Some (waiting (serve (codes "0.0.0.0:1") (codes "0.0.0.0:2") 64 None false Queued None))
unfolding clap_on_literals
in_serve_that_receives_queued = refl

in_serve_that_receives_directly : command_in (codes "serve" ∷ codes "--front" ∷ codes "0.0.0.0:1" ∷ codes "--control" ∷ codes "0.0.0.0:2" ∷ codes "--workers" ∷ codes "64" ∷ codes "--receive" ∷ codes "direct" ∷ [])
    ≡ Some (waiting (serve (codes "0.0.0.0:1") (codes "0.0.0.0:2") 64 None false Direct None))
unfolding clap_on_literals
in_serve_that_receives_directly = refl

in_serve_that_receives_directly_has_no_fault : faults_in (codes "serve" ∷ codes "--front" ∷ codes "0.0.0.0:1" ∷ codes "--control" ∷ codes "0.0.0.0:2" ∷ codes "--workers" ∷ codes "64" ∷ codes "--receive" ∷ codes "direct" ∷ [])
    ≡ []
unfolding clap_on_literals
in_serve_that_receives_directly_has_no_fault = refl

in_serve_with_the_least_buffer : command_in (codes "serve" ∷ codes "--front" ∷ codes "0.0.0.0:1" ∷ codes "--receive-buffer" ∷ codes "1" ∷ codes "--control" ∷ codes "0.0.0.0:2" ∷ codes "--workers" ∷ codes "64" ∷ [])
    ≡ Some (waiting (serve (codes "0.0.0.0:1") (codes "0.0.0.0:2") 64 None false Queued (Some 1)))
unfolding clap_on_literals
in_serve_with_the_least_buffer = refl

in_serve_with_both : command_in (codes "serve" ∷ codes "--receive-buffer=2147483647" ∷ codes "--receive=direct" ∷ codes "--log" ∷ codes "--front" ∷ codes "0.0.0.0:1" ∷ codes "--control" ∷ codes "0.0.0.0:2" ∷ codes "--workers" ∷ codes "64" ∷ [])
    ≡ Some (waiting (serve (codes "0.0.0.0:1") (codes "0.0.0.0:2") 64 None true Direct (Some 2147483647)))
unfolding clap_on_literals
in_serve_with_both = refl

in_serve_with_both_has_no_fault : faults_in (codes "serve" ∷ codes "--receive-buffer=2147483647" ∷ codes "--receive=direct" ∷ codes "--log" ∷ codes "--front" ∷ codes "0.0.0.0:1" ∷ codes "--control" ∷ codes "0.0.0.0:2" ∷ codes "--workers" ∷ codes "64" ∷ [])
    ≡ []
unfolding clap_on_literals
in_serve_with_both_has_no_fault = refl

in_serve_of_another_way : faults_in (codes "serve" ∷ codes "--front" ∷ codes "0.0.0.0:1" ∷ codes "--control" ∷ codes "0.0.0.0:2" ∷ codes "--workers" ∷ codes "64" ∷ codes "--receive" ∷ codes "Direct" ∷ [])
    ≡ InvalidValue ∷ []
unfolding clap_on_literals
in_serve_of_another_way = refl

in_serve_of_an_empty_way : faults_in (codes "serve" ∷ codes "--front" ∷ codes "0.0.0.0:1" ∷ codes "--control" ∷ codes "0.0.0.0:2" ∷ codes "--workers" ∷ codes "64" ∷ codes "--receive" ∷ codes "" ∷ [])
    ≡ InvalidValue ∷ []
unfolding clap_on_literals
in_serve_of_an_empty_way = refl

in_serve_of_two_ways : faults_in (codes "serve" ∷ codes "--front" ∷ codes "0.0.0.0:1" ∷ codes "--control" ∷ codes "0.0.0.0:2" ∷ codes "--workers" ∷ codes "64" ∷ codes "--receive" ∷ codes "direct" ∷ codes "--receive" ∷ codes "direct" ∷ [])
    ≡ ArgumentConflict ∷ []
unfolding clap_on_literals
in_serve_of_two_ways = refl

in_serve_of_no_buffer : faults_in (codes "serve" ∷ codes "--front" ∷ codes "0.0.0.0:1" ∷ codes "--control" ∷ codes "0.0.0.0:2" ∷ codes "--workers" ∷ codes "64" ∷ codes "--receive-buffer" ∷ codes "0" ∷ [])
    ≡ ValueValidation ∷ []
unfolding clap_on_literals
in_serve_of_no_buffer = refl

in_serve_of_too_large_a_buffer : faults_in (codes "serve" ∷ codes "--front" ∷ codes "0.0.0.0:1" ∷ codes "--control" ∷ codes "0.0.0.0:2" ∷ codes "--workers" ∷ codes "64" ∷ codes "--receive-buffer" ∷ codes "2147483648" ∷ [])
    ≡ ValueValidation ∷ []
unfolding clap_on_literals
in_serve_of_too_large_a_buffer = refl

in_serve_of_a_buffer_in_letters : faults_in (codes "serve" ∷ codes "--front" ∷ codes "0.0.0.0:1" ∷ codes "--control" ∷ codes "0.0.0.0:2" ∷ codes "--workers" ∷ codes "64" ∷ codes "--receive-buffer" ∷ codes "1M" ∷ [])
    ≡ ValueValidation ∷ []
unfolding clap_on_literals
in_serve_of_a_buffer_in_letters = refl

in_serve_of_two_buffers : faults_in (codes "serve" ∷ codes "--front" ∷ codes "0.0.0.0:1" ∷ codes "--control" ∷ codes "0.0.0.0:2" ∷ codes "--workers" ∷ codes "64" ∷ codes "--receive-buffer" ∷ codes "1" ∷ codes "--receive-buffer" ∷ codes "1" ∷ [])
    ≡ ArgumentConflict ∷ []
unfolding clap_on_literals
in_serve_of_two_buffers = refl

in_explain : command_in (codes "explain" ∷ codes "G3" ∷ []) ≡ Some (returning (explain (codes "G3" ∷ [])))
unfolding clap_on_literals
in_explain = refl

in_explain_of_words : command_in (codes "explain" ∷ codes "refused" ∷ codes "P1" ∷ codes "17" ∷ []) ≡ Some (returning (explain (codes "refused" ∷ codes "P1" ∷ codes "17" ∷ [])))
unfolding clap_on_literals
in_explain_of_words = refl

in_explain_of_nothing : faults_in (codes "explain" ∷ []) ≡ MissingRequiredArgument ∷ []
unfolding clap_on_literals
in_explain_of_nothing = refl

in_tell : faults_in (codes "tell" ∷ codes "--control" ∷ codes "0.0.0.0:2" ∷ codes "show" ∷ codes "--timeout" ∷ codes "3600" ∷ codes "--" ∷ codes "-" ∷ []) ≡ []
unfolding clap_on_literals
in_tell = refl

in_tell_request : command_in (codes "tell" ∷ codes "--control" ∷ codes "0.0.0.0:2" ∷ codes "show" ∷ codes "--timeout" ∷ codes "3600" ∷ codes "--" ∷ codes "-" ∷ [])
    ≡ Some (waiting (tell (codes "0.0.0.0:2") 3600 false (codes "show" ∷ codes "-" ∷ [])))
unfolding clap_on_literals
in_tell_request = refl

in_tell_of_no_line : command_in (codes "tell" ∷ codes "--control" ∷ codes "0.0.0.0:2" ∷ []) ≡ Some (waiting (tell (codes "0.0.0.0:2") 1 false []))
unfolding clap_on_literals
in_tell_of_no_line = refl

in_tell_of_one_change : command_in (codes "tell" ∷ codes "--all" ∷ codes "--control" ∷ codes "0.0.0.0:2" ∷ []) ≡ Some (waiting (tell (codes "0.0.0.0:2") 1 true []))
unfolding clap_on_literals
in_tell_of_one_change = refl

in_tell_of_no_time : faults_in (codes "tell" ∷ codes "--control" ∷ codes "0.0.0.0:2" ∷ codes "--timeout" ∷ codes "0" ∷ []) ≡ ValueValidation ∷ []
unfolding clap_on_literals
in_tell_of_no_time = refl

in_tell_of_too_long_a_time : faults_in (codes "tell" ∷ codes "--control" ∷ codes "0.0.0.0:2" ∷ codes "--timeout" ∷ codes "3601" ∷ []) ≡ ValueValidation ∷ []
unfolding clap_on_literals
in_tell_of_too_long_a_time = refl

in_tell_without_control : faults_in (codes "tell" ∷ codes "show" ∷ []) ≡ MissingRequiredArgument ∷ []
unfolding clap_on_literals
in_tell_without_control = refl

in_check : command_in (codes "check" ∷ []) ≡ Some (returning (check (codes "asm")))
unfolding clap_on_literals
in_check = refl

in_check_of_a_format : command_in (codes "check" ∷ codes "--format" ∷ codes "ddd" ∷ []) ≡ Some (returning (check (codes "ddd")))
unfolding clap_on_literals
in_check_of_a_format = refl

in_compile_to_a_format : command_in (codes "compile" ∷ codes "--format=hex" ∷ codes "udp" ∷ []) ≡ Some (returning (compile (codes "udp") (codes "hex")))
unfolding clap_on_literals
in_compile_to_a_format = refl

in_run_of_a_format : command_in (codes "run" ∷ codes "--packet" ∷ codes "45" ∷ codes "--format" ∷ codes "hex" ∷ []) ≡ Some (returning (run (codes "45") (codes "hex")))
unfolding clap_on_literals
in_run_of_a_format = refl

in_judge_of_a_format : command_in (codes "run" ∷ codes "--packet" ∷ codes "45" ∷ codes "--expr" ∷ codes "udp" ∷ codes "--format" ∷ codes "hex" ∷ []) ≡ Some (returning (judge (codes "45") (codes "udp")))
unfolding clap_on_literals
in_judge_of_a_format = refl

in_rules : command_in (codes "rules" ∷ codes "--control" ∷ codes "A" ∷ []) ≡ Some (waiting (rules (codes "A") 1))
unfolding clap_on_literals
in_rules = refl

in_rules_alone : faults_in (codes "rules" ∷ []) ≡ MissingRequiredArgument ∷ []
unfolding clap_on_literals
in_rules_alone = refl

in_load : command_in (codes "load" ∷ codes "--control" ∷ codes "A" ∷ codes "F" ∷ []) ≡ Some (waiting (load (Some (codes "A")) 1 (codes "F") false false))
unfolding clap_on_literals
in_load = refl

in_load_that_checks : command_in (codes "load" ∷ codes "--check" ∷ codes "F" ∷ []) ≡ Some (waiting (load None 1 (codes "F") true false))
unfolding clap_on_literals
in_load_that_checks = refl

in_load_that_shows : command_in (codes "load" ∷ codes "F" ∷ codes "--diff" ∷ codes "--control" ∷ codes "A" ∷ codes "--timeout" ∷ codes "9" ∷ [])
    ≡ Some (waiting (load (Some (codes "A")) 9 (codes "F") false true))
unfolding clap_on_literals
in_load_that_shows = refl

in_load_of_no_file : faults_in (codes "load" ∷ codes "--control" ∷ codes "A" ∷ []) ≡ MissingRequiredArgument ∷ []
unfolding clap_on_literals
in_load_of_no_file = refl

in_metrics : command_in (codes "metrics" ∷ codes "--control" ∷ codes "0.0.0.0:2" ∷ []) ≡ Some (waiting (metrics (codes "0.0.0.0:2") None 1))
unfolding clap_on_literals
in_metrics = refl

in_metrics_with_a_front : command_in (codes "metrics" ∷ codes "--front" ∷ codes "0.0.0.0:1" ∷ codes "--control" ∷ codes "0.0.0.0:2" ∷ codes "--timeout" ∷ codes "5" ∷ [])
    ≡ Some (waiting (metrics (codes "0.0.0.0:2") (Some (codes "0.0.0.0:1")) 5))
unfolding clap_on_literals
in_metrics_with_a_front = refl

in_top : command_in (codes "top" ∷ codes "--control" ∷ codes "0.0.0.0:2" ∷ []) ≡ Some (waiting (top (codes "0.0.0.0:2") 1 18446744073709551615 1))
unfolding clap_on_literals
in_top = refl

in_top_with_all : command_in (codes "top" ∷ codes "--control" ∷ codes "0.0.0.0:2" ∷ codes "--interval" ∷ codes "3600" ∷ codes "--count" ∷ codes "2" ∷ codes "--timeout" ∷ codes "5" ∷ [])
    ≡ Some (waiting (top (codes "0.0.0.0:2") 3600 2 5))
unfolding clap_on_literals
in_top_with_all = refl

in_top_without_screens : faults_in (codes "top" ∷ codes "--control" ∷ codes "0.0.0.0:2" ∷ codes "--count" ∷ codes "0" ∷ []) ≡ ValueValidation ∷ []
unfolding clap_on_literals
in_top_without_screens = refl

in_top_of_a_long_interval : faults_in (codes "top" ∷ codes "--control" ∷ codes "0.0.0.0:2" ∷ codes "--interval" ∷ codes "3601" ∷ []) ≡ ValueValidation ∷ []
unfolding clap_on_literals
in_top_of_a_long_interval = refl

in_pack : command_in (codes "pack" ∷ codes "--to" ∷ codes "B" ∷ codes "--from" ∷ codes "A" ∷ []) ≡ Some (returning (pack (codes "A") (codes "B") None None))
unfolding clap_on_literals
in_pack = refl

in_pack_of_both : command_in (codes "pack" ∷ codes "--from" ∷ codes "A" ∷ codes "--to" ∷ codes "B" ∷ codes "--payload" ∷ codes "00" ∷ codes "--text=-" ∷ [])
    ≡ Some (returning (pack (codes "A") (codes "B") (Some (codes "00")) (Some (codes "-"))))
unfolding clap_on_literals
in_pack_of_both = refl

in_pack_without_source : faults_in (codes "pack" ∷ codes "--to" ∷ codes "B" ∷ []) ≡ MissingRequiredArgument ∷ []
unfolding clap_on_literals
in_pack_without_source = refl

in_packets : command_in (codes "packets" ∷ []) ≡ Some (returning (packets None))
unfolding clap_on_literals
in_packets = refl

in_packets_of_the_last_port : command_in (codes "packets" ∷ codes "--unwrap" ∷ codes "65535" ∷ []) ≡ Some (returning (packets (Some 65535)))
unfolding clap_on_literals
in_packets_of_the_last_port = refl

in_packets_of_no_port : faults_in (codes "packets" ∷ codes "--unwrap" ∷ codes "0" ∷ []) ≡ ValueValidation ∷ []
unfolding clap_on_literals
in_packets_of_no_port = refl

in_packets_past_the_ports : faults_in (codes "packets" ∷ codes "--unwrap" ∷ codes "65536" ∷ []) ≡ ValueValidation ∷ []
unfolding clap_on_literals
in_packets_past_the_ports = refl
