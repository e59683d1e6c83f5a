-- What a parse of the program's words gives: the command that it has met, and its faults.
use Rattle.std.proofs.Common.{◌≡◌, ◌∙◌, ◌∷◌, ◌&&◌, [], List, Bool, Err, IsErrAnd, Ok, Result, true, false, not, cond, Option, Some, None, is_some, inl, inr, ap, ap₂, subst, sym, refl, codes}
use Rattle.std.specs.Prelude.{option_and_then, option_map, unwrap_or}
use Rattle.std.specs.Borrow.{Bor}
use Rattle.std.specs.Str.{bytes_eq}
use Rattle.std.proofs.lemmas.Slice.Eq.{bytes_eq-Decides}
use Rattle.clap.specs.Kinds.{FailsBy, HasKind, Kinds, or_else}
use Rattle.clap.specs.Faults.{fault_of}
use Rattle.clap.specs.Simple.{App, subcommand_of, subcommand_rows, subcommand_rows_of}
use Rattle.clap.specs.Walk.{rows_of, Row, Text}
use Rattle.clap.specs.declared.error.Error.{Error}
use Rattle.clap.specs.declared.error.kind.ErrorKind.TheVariants.{InvalidValue}
use Rattle.clap.specs.Matches.{found_of, subcommand_name_of}
use Rattle.clap.specs.declared.parser.matches.ArgMatches.{ArgMatches}
use Rattle.clap.specs.declared.parser.matches.ArgMatches.TheViews.{out-ArgMatches, out-SubCommand}
use Rattle.clap.specs.declared.parser.matches.SubCommand.{SubCommand}
use Rattle.std.specs.Prelude.{Box}
use Rattle.std.specs.Box.{box_value}
use Rattle.command_line.specs.Arguments.{command_line}
use Rattle.command_line.specs.CommandLine.{Command, command_in, command_named, faults_in, has_bad_value, receive_buffer_in, receive_in, returning, serve_in, spread, spread_in, value_in, values_in, way_faults, workers_in}
use Rattle.command_line.specs.Shares.{Spread, spreading_in}
use Rattle.command_line.proofs.MetLemmas.{command_met}
use Rattle.command_line.proofs.NamedLemmas.{names_command}

abbrev spread_command : Spread → Command
spread_command asked = returning (spread asked.0 asked.1 asked.2)

-- ---- the way to receive

is_not_some : {A : Type 0} (found : Option A) → found ≡ None → is_some found ≡ true → ⊥
is_not_some None nothing some = cc
is_not_some (Some x) nothing some = cc

-- words that name a command have no such fault
way_is_named : (met : Option (Text × List Row)) → is_some (command_met met) ≡ true → way_faults met ≡ []
way_is_named None named = refl
way_is_named (Some p) named = rw (no_bad_way, no_bad_spread) refl
  where
    both_named : {A B C D : Type 0} (f : A → B → C → D) (a : Option A) (b : Option B) (c : Option C)
        → is_some (option_and_then (λ x. option_and_then (λ y. option_map (λ z. f x y z) c) b) a) ≡ true → is_some b ≡ true
    both_named f None b c has = cc
    both_named f (Some x) None c has = cc
    both_named f (Some x) (Some y) c has = refl

    no_bad_way : (bytes_eq p.0 (codes "serve") && not (is_some (receive_in p.1))) ≡ false
    no_bad_way = go (bytes_eq p.0 (codes "serve")) refl
      where
        go : (b : Bool) → bytes_eq p.0 (codes "serve") ≡ b → (b && not (is_some (receive_in p.1))) ≡ false
        go false e = refl
        go true e =
            let same : p.0 ≡ codes "serve" = (bytes_eq-Decides p.0 (codes "serve")).0 e in
            let serves : is_some (serve_in p.1) ≡ true = subst (λ (name : Text). is_some (command_named name p.1) ≡ true) same named in
            rw (both_named _ (workers_in p.1) (receive_in p.1) (receive_buffer_in p.1) serves) refl

    no_bad_spread : (bytes_eq p.0 (codes "spread") && not (is_some (spread_in p.1))) ≡ false
    no_bad_spread = go (bytes_eq p.0 (codes "spread")) refl
      where
        go : (b : Bool) → bytes_eq p.0 (codes "spread") ≡ b → (b && not (is_some (spread_in p.1))) ≡ false
        go false e = refl
        go true e =
            let same : p.0 ≡ codes "spread" = (bytes_eq-Decides p.0 (codes "spread")).0 e in
            let spreads : is_some (spread_in p.1) ≡ true = subst (λ (name : Text). is_some (command_named name p.1) ≡ true) same named in
            rw spreads refl

pub no_faults : (words : List Text) → fault_of command_line words ≡ [] → is_some (command_in words) ≡ true → faults_in words ≡ []
no_faults words none named = rw none (way_is_named (subcommand_of command_line words) named)

no_way : (met : Option (Text × List Row)) (named : Option Command) → (way_faults met ≡ [] → is_some named ≡ true) → named ≡ None
    → way_faults met ≡ InvalidValue ∷ []
no_way None named names nothing = absurd (is_not_some named nothing (names refl))
no_way (Some p) named names nothing = go (has_bad_value p.0 p.1) names
  where
    go : (b : Bool) → (cond b (InvalidValue ∷ []) [] ≡ [] → is_some named ≡ true) → cond b (InvalidValue ∷ []) [] ≡ InvalidValue ∷ []
    go true names = refl
    go false names = absurd (is_not_some named nothing (names refl))

-- words in which `clap` finds no fault, and that name no command, have this one
pub way_is_refused : (words : List Text) → fault_of command_line words ≡ [] → command_in words ≡ None → faults_in words ≡ InvalidValue ∷ []
way_is_refused words none nothing = rw none (no_way (subcommand_of command_line words) (command_in words) (names_command words none) nothing)

-- ---- what the parse gives

module _ {Z : Type 0} where
  met_is : (sub : Option (Box SubCommand Z)) (name : Text) (rows : List Row)
      → Some name ≡ option_map (λ b. (out-SubCommand (box_value b)).name.now) sub
      → Some rows ≡ option_map (λ p. p.1) (subcommand_rows sub) → subcommand_rows sub ≡ Some (name, rows)
  met_is None name rows same_name same_rows = cc
  met_is (Some b) name rows same_name same_rows =
      let name_is : (out-SubCommand (box_value b)).name.now ≡ name = cc in
      let rows_is : rows_of (found_of (out-SubCommand (box_value b)).matches) ≡ rows = cc in
      ap₂ (λ (n : Text) (r : List Row). Some (n, r)) name_is rows_is

-- the name and the rows that the parse gives are those of the command that the words name
pub command_is : (program : App) (words : List Text) (m : ArgMatches) (name : Text) (rows : List Row) → program ≡ command_line
    → subcommand_rows_of m ≡ subcommand_of program words → Some name ≡ subcommand_name_of m
    → Some rows ≡ option_map (λ p. p.1) (subcommand_rows_of m) → command_in words ≡ command_named name rows
command_is program words m name rows same given name_is rows_is =
    let met : subcommand_of command_line words ≡ Some (name, rows) =
    sym (given ∙ ap (λ a. subcommand_of a words) same) ∙ met_is (out-ArgMatches m).subcommand name rows name_is rows_is in
    ap command_met met

-- ---- `spread`

module _ (rows : List Row) (buckets by : Text) (words : List Text) (buckets_is : buckets ≡ value_in rows (codes "buckets")) (by_is : by ≡ value_in rows (codes "by"))
    (words_are : words ≡ values_in rows (codes "ID=WEIGHT")) where
  spread_is : option_map spread_command (spreading_in buckets by words) ≡ spread_in rows
  spread_is = rw (buckets_is, by_is, words_are) refl

  pub spread_none : None ≡ spreading_in buckets by words → None ≡ spread_in rows
  spread_none none = ap (option_map spread_command) none ∙ spread_is

  pub spread_some : (asked : Spread) → Some asked ≡ spreading_in buckets by words → Some (spread_command asked) ≡ spread_in rows
  spread_some asked some = ap (option_map spread_command) some ∙ spread_is

-- ---- values of arguments

-- the value that is read, or another text
pub read_or : (given : Option (Bor Text)) (other : Bor Text) (text : Option Text) → option_map (λ s. s.now) given ≡ text
    → (unwrap_or given other).now ≡ unwrap_or text other.now
read_or None other text is = ap (λ (v : Option Text). unwrap_or v other.now) is
read_or (Some lent) other text is = ap (λ (v : Option Text). unwrap_or v other.now) is

-- ---- faults that `?` hands on

-- what `clap` finds counts first
pub kind_or_else : (kinds more : Kinds) (fault : Error) → HasKind kinds fault → HasKind (or_else kinds more) fault
kind_or_else [] more fault (inl memory) = inl memory
kind_or_else [] more fault (inr among) = absurd among
kind_or_else (k ∷ ks) more fault has = has

pub fails_by : {T : Type 0} (result : Result T Error) (kinds : Kinds) (fault : Error) → IsErrAnd result (λ given. given ≡ fault) → HasKind kinds fault → FailsBy kinds result
fails_by (Ok x) kinds fault is has = absurd is
fails_by (Err given) kinds fault is has = subst (HasKind kinds) (sym is) has
