-- The command that a parse of the program's words has met, if `clap` finds no fault in them.
use Rattle.std.proofs.Common.{◌≡◌, ◌∙◌, ◌∷◌, ◌&&◌, ◌||◌, [], ℕ, List, Bool, true, false, not, cond, Option, Some, None, is_some, ap, sym, refl, codes, ◌++◌, take, slice_index_or}
use Rattle.std.specs.Prelude.{find, fold, option_and_then, option_map}
use Rattle.std.specs.Str.{bytes_eq}
use Rattle.std.proofs.lemmas.Slice.Eq.{bytes_eq-Decides}
use Rattle.clap.specs.Kinds.{Kinds, or_else}
use Rattle.clap.specs.Faults.{check_fault, level_fault, other_fault, step_fault, turn_fault, walk_fault, word_fault}
use Rattle.clap.specs.Simple.{Shape, built, label_of, rows_at}
use Rattle.clap.specs.Walk.{answers_to, Held, Names, Outcome, Row, Rule, Step, Text, Waiting, Walk, after_flag, after_step}
use Rattle.clap.specs.Walk.{arg_by_index, done, idle, long_or_other, next, option, plain, plain_word, positional, refused}
use Rattle.clap.specs.Walk.{short_or_plain, subcommand, subcommand_met, subcommand_or_other, to_positional, trailing, value, waits}
use Rattle.clap.specs.Walk.{walked, walked_from, word_met, nothing_held, rows_after}
use Rattle.clap.specs.declared.error.kind.ErrorKind.TheVariants.{DisplayHelp, InvalidSubcommand}
use Rattle.std.specs.Option.{option_map_or}
use Rattle.clap.specs.Lexer.{long_of, short_of}
use Rattle.command_line.specs.Arguments.{command_line}
use Rattle.command_line.specs.CommandLine.{Command, command_named, way_faults}
use Rattle.command_line.proofs.ValueLemmas.{none_of_both}

module _ (s : Shape) where
  abbrev asks_help : Text → Bool
  asks_help name = bytes_eq name (codes "help") && not s.disable_help_subcommand

  -- what was met, if anything, is no call for help
  abbrev pub IsNoHelp : Option (Text × List Text) → Type 0
  IsNoHelp None = Unit {0}
  IsNoHelp (Some p) = asks_help p.0 ≡ false

  abbrev StepsOn : Step → Type 0
  StepsOn (subcommand name) = asks_help name ≡ false
  StepsOn _ = Unit {0}

  after : (word : Text) (w : Walk) (h : Held) (step : Step) → IsNoHelp w.stopped → StepsOn step
      → IsNoHelp (after_step s.rules word w h step).stopped
  after word w h (next waiting) before on = before
  after word w h (trailing position) before on = before
  after word w h (subcommand name) before on = on
  after word w h value before on = go (arg_by_index s.rules w.position)
    where
      go : (a : Option Rule) → IsNoHelp (to_positional s.rules a word w h).stopped
      go None = before
      go (Some a) = tt

  plain_on : (waiting : Waiting) (word : Text) (h : Held) → StepsOn (plain_word s.rules waiting word h).1
  plain_on idle word h = tt
  plain_on (option id) word h = tt
  plain_on positional word h = tt

  flag_on : (waiting : Waiting) (word : Text) (h : Held) (outcome : Outcome) → StepsOn (after_flag s.rules waiting word h outcome).1
  flag_on waiting word h done = tt
  flag_on waiting word h (waits id) = tt
  flag_on waiting word h plain = plain_on waiting word h
  flag_on waiting word h refused = plain_on waiting word h

  short_on : (waiting : Waiting) (word : Text) (flags : Option Text) (h : Held) → StepsOn (short_or_plain s.rules waiting word flags h).1
  short_on waiting word None h = plain_on waiting word h
  short_on waiting word (Some flags) h = flag_on waiting word _ _

  long_on : (waiting : Waiting) (word : Text) (long : Option (Text × Option Text)) (h : Held) → StepsOn (long_or_other s.rules waiting word long h).1
  long_on waiting word None h = short_on waiting word (short_of word) h
  long_on waiting word (Some p) h = flag_on waiting word _ _

  other_on : (name : Option Text) (waiting : Waiting) (position : ℕ) (word : Text) (h : Held) → other_fault s name word h ≡ []
      → StepsOn (subcommand_or_other s.rules name waiting position word h).1
  other_on (Some name) waiting position word h none = go (asks_help name) none
    where
      go : (b : Bool) → cond b (DisplayHelp ∷ InvalidSubcommand ∷ []) [] ≡ [] → b ≡ false
      go true e = cc
      go false e = refl
  other_on None waiting position word h none = go (bytes_eq word (45 ∷ 45 ∷ []))
    where
      go : (b : Bool) → StepsOn (cond b (h, trailing position) (long_or_other s.rules waiting word (long_of word) h)).1
      go true = tt
      go false = long_on waiting word (long_of word) h

  word_on : (names : Names) (is_trailing : Bool) (waiting : Waiting) (position : ℕ) (word : Text) (h : Held)
      → word_fault s names is_trailing waiting word h ≡ [] → StepsOn (word_met s.rules names is_trailing waiting position word h).1
  word_on names true waiting position word h none = tt
  word_on names false waiting position word h none = other_on (subcommand_met names waiting word) waiting position word h none

  turn_on : (names : Names) (w : Walk) (word : Text) → IsNoHelp w.stopped → turn_fault s names w word ≡ []
      → IsNoHelp (walked s.rules names w word).stopped
  unfolding walked
  turn_on names w word before none = go w.stopped before none
    where
      go : (o : Option (Text × List Text)) → IsNoHelp o
          → cond (is_some o) [] (or_else (word_fault s names w.is_trailing w.waiting word w.held)
          (step_fault s w.position (word_met s.rules names w.is_trailing w.waiting w.position word w.held).0
          (word_met s.rules names w.is_trailing w.waiting w.position word w.held).1)) ≡ []
          → IsNoHelp (walked_from s.rules names o w word).stopped
      go (Some p) fine e = fine
      go None fine e = after word w _ _ before
          (word_on names w.is_trailing w.waiting w.position word w.held (none_of_both _ _ e).0)

  pub walk_on : (names : Names) (words : List Text) (w : Walk) → IsNoHelp w.stopped → walk_fault s names w words ≡ []
      → IsNoHelp (fold (walked s.rules names) w words).stopped
  unfolding walk_fault
  walk_on names [] w before none = before
  walk_on names (x ∷ xs) w before none =
      let parts = none_of_both (turn_fault s names w x) _ none in
      walk_on names xs (walked s.rules names w x) (turn_on names w x before parts.0) parts.1

-- the shapes that `clap` builds
abbrev pub top : Shape
top = (built command_line).top

-- the commands, and behind them `clap`'s own, `help`
abbrev pub commands : List Shape
commands = take 17 (built command_line).subs

abbrev pub help_command : Shape
help_command = slice_index_or (built command_line).subs 17 top

pub has_met : (rows : List Row) (has : Bool) → check_fault top rows has ≡ [] → has ≡ true
has_met rows true none = refl
has_met rows false none = cc

abbrev pub Stop : Type 0
Stop = Option (Text × List Text)

-- ---- what is named is a command

abbrev pub command_met : Option (Text × List Row) → Option Command
command_met met = option_and_then (λ named. command_named named.0 named.1) met

abbrev pub fault_at : Shape → List Text → Kinds
fault_at s words = level_fault s [] nothing_held words false []

abbrev fault_in : Option Shape → List Text → Kinds
fault_in found words = option_map_or (λ s. fault_at s words) found []

abbrev pub IsCommand : Shape → Type 0
IsCommand s = (words : List Text) → fault_at s words ≡ [] → way_faults (Some (rows_at s words)) ≡ []
    → is_some (command_named s.name (rows_after s.rules [] words)) ≡ true

abbrev pub AreCommands : List Shape → Type 0
AreCommands [] = Unit {0}
AreCommands (s ∷ subs) = IsCommand s × AreCommands subs

abbrev found_in : List Shape → Text → Option Shape
found_in subs word = find (λ s. answers_to word (label_of s)) subs

pub met_among : (subs : List Shape) (help : Shape) (word : Text) (words : List Text) → AreCommands subs
    → answers_to word (label_of help) ≡ false
    → fault_in (found_in (subs ++ help ∷ []) word) words ≡ []
    → way_faults (option_map (λ s. rows_at s words) (found_in (subs ++ help ∷ []) word)) ≡ []
    → is_some (option_map (λ s. rows_at s words) (found_in (subs ++ help ∷ []) word)) ≡ true
    → is_some (command_met (option_map (λ s. rows_at s words) (found_in (subs ++ help ∷ []) word))) ≡ true
met_among [] help word words commands no_help none way met = go (answers_to word (label_of help)) no_help met
  where
    go : (b : Bool) → b ≡ false → is_some (option_map (λ s. rows_at s words) (cond b (Some help) None)) ≡ true
        → is_some (command_met (option_map (λ s. rows_at s words) (cond b (Some help) None))) ≡ true
    go true no_help met = cc
    go false no_help met = cc
met_among (s ∷ subs) help word words commands no_help none way met =
    go (answers_to word (label_of s)) (λ none way later. met_among subs help word words commands.1 no_help none way later) none way met
  where
    go : (b : Bool)
        → (fault_in (found_in (subs ++ help ∷ []) word) words ≡ []
        → way_faults (option_map (λ s. rows_at s words) (found_in (subs ++ help ∷ []) word)) ≡ []
        → is_some (option_map (λ s. rows_at s words) (found_in (subs ++ help ∷ []) word)) ≡ true
        → is_some (command_met (option_map (λ s. rows_at s words) (found_in (subs ++ help ∷ []) word))) ≡ true)
        → fault_in (cond b (Some s) (found_in (subs ++ help ∷ []) word)) words ≡ []
        → way_faults (option_map (λ s. rows_at s words) (cond b (Some s) (found_in (subs ++ help ∷ []) word))) ≡ []
        → is_some (option_map (λ s. rows_at s words) (cond b (Some s) (found_in (subs ++ help ∷ []) word))) ≡ true
        → is_some (command_met (option_map (λ s. rows_at s words) (cond b (Some s) (found_in (subs ++ help ∷ []) word)))) ≡ true
    go true later none way met = commands.0 words none way
    go false later none way met = later none way met

pub not_named : (word name : Text) → (bytes_eq name word && true) ≡ false → (bytes_eq word name || false) ≡ false
not_named word name differs = go (bytes_eq word name) refl
  where
    go : (b : Bool) → bytes_eq word name ≡ b → (b || false) ≡ false
    go false e = refl
    go true e =
        let same : word ≡ name = (bytes_eq-Decides word name).0 e in
        let back : bytes_eq name word ≡ true = (bytes_eq-Decides name word).1 (sym same) in
        sym (ap (λ x. x && true) back) ∙ differs
