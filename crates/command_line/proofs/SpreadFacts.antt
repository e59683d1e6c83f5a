-- What is found in words of `spread` and `drain` that are written out.
use Rattle.std.proofs.Common.{◌≡◌, ◌∷◌, [], Some, codes, refl}
use Rattle.clap.proofs.OnLiterals.{clap_on_literals}
use Rattle.clap.specs.declared.error.kind.ErrorKind.TheVariants.{InvalidValue, MissingRequiredArgument}
use Rattle.selector_buckets.specs.declared.hash.HashBy.TheVariants.{Both, Ports}
use Rattle.command_line.specs.CommandLine.{command_in, drain, faults_in, returning, spread, waiting}

in_spread : command_in (codes "spread" ∷ codes "--buckets" ∷ codes "4" ∷ codes "--by" ∷ codes "ports" ∷ codes "7=1" ∷ codes "4294967295=65535" ∷ [])
    ≡ Some (returning (spread 2 Ports (record { id = 7; weight = 1 } ∷ record { id = 4294967295; weight = 65535 } ∷ [])))
unfolding clap_on_literals
in_spread = refl

in_spread_has_no_fault : faults_in (codes "spread" ∷ codes "--buckets" ∷ codes "4" ∷ codes "--by" ∷ codes "ports" ∷ codes "7=1" ∷ []) ≡ []
unfolding clap_on_literals
in_spread_has_no_fault = refl

in_spread_with_options_last : command_in (codes "spread" ∷ codes "0=0" ∷ codes "1=1" ∷ codes "--by=both" ∷ codes "--buckets=256" ∷ [])
    ≡ Some (returning (spread 8 Both (record { id = 0; weight = 0 } ∷ record { id = 1; weight = 1 } ∷ [])))
unfolding clap_on_literals
in_spread_with_options_last = refl

in_spread_of_three_buckets : faults_in (codes "spread" ∷ codes "--buckets" ∷ codes "3" ∷ codes "--by" ∷ codes "ports" ∷ codes "7=1" ∷ []) ≡ InvalidValue ∷ []
unfolding clap_on_literals
in_spread_of_three_buckets = refl

in_spread_by_another_field : faults_in (codes "spread" ∷ codes "--buckets" ∷ codes "4" ∷ codes "--by" ∷ codes "port" ∷ codes "7=1" ∷ []) ≡ InvalidValue ∷ []
unfolding clap_on_literals
in_spread_by_another_field = refl

in_spread_of_an_id_alone : faults_in (codes "spread" ∷ codes "--buckets" ∷ codes "4" ∷ codes "--by" ∷ codes "ports" ∷ codes "7" ∷ []) ≡ InvalidValue ∷ []
unfolding clap_on_literals
in_spread_of_an_id_alone = refl

in_spread_of_two_equals_signs : faults_in (codes "spread" ∷ codes "--buckets" ∷ codes "4" ∷ codes "--by" ∷ codes "ports" ∷ codes "7=1=1" ∷ []) ≡ InvalidValue ∷ []
unfolding clap_on_literals
in_spread_of_two_equals_signs = refl

in_spread_of_a_great_weight : faults_in (codes "spread" ∷ codes "--buckets" ∷ codes "4" ∷ codes "--by" ∷ codes "ports" ∷ codes "7=65536" ∷ []) ≡ InvalidValue ∷ []
unfolding clap_on_literals
in_spread_of_a_great_weight = refl

in_spread_of_an_id_twice : faults_in (codes "spread" ∷ codes "--buckets" ∷ codes "4" ∷ codes "--by" ∷ codes "ports" ∷ codes "7=1" ∷ codes "07=2" ∷ []) ≡ InvalidValue ∷ []
unfolding clap_on_literals
in_spread_of_an_id_twice = refl

in_spread_of_no_weight : faults_in (codes "spread" ∷ codes "--buckets" ∷ codes "4" ∷ codes "--by" ∷ codes "ports" ∷ codes "7=0" ∷ []) ≡ InvalidValue ∷ []
unfolding clap_on_literals
in_spread_of_no_weight = refl

in_spread_of_nobody : faults_in (codes "spread" ∷ codes "--buckets" ∷ codes "4" ∷ codes "--by" ∷ codes "ports" ∷ []) ≡ MissingRequiredArgument ∷ []
unfolding clap_on_literals
in_spread_of_nobody = refl

in_drain : command_in (codes "drain" ∷ codes "--control" ∷ codes "A" ∷ codes "K" ∷ codes "7" ∷ []) ≡ Some (waiting (drain (codes "A") 1 (codes "K") (codes "7")))
unfolding clap_on_literals
in_drain = refl

in_drain_with_a_timeout : command_in (codes "drain" ∷ codes "K" ∷ codes "--timeout" ∷ codes "9" ∷ codes "7" ∷ codes "--control" ∷ codes "A" ∷ [])
    ≡ Some (waiting (drain (codes "A") 9 (codes "K") (codes "7")))
unfolding clap_on_literals
in_drain_with_a_timeout = refl

in_drain_of_nobody : faults_in (codes "drain" ∷ codes "--control" ∷ codes "A" ∷ codes "K" ∷ []) ≡ MissingRequiredArgument ∷ []
unfolding clap_on_literals
in_drain_of_nobody = refl
