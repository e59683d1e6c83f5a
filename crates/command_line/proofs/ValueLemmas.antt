-- The values of a command's options, where `clap` finds no fault in its words: the first value of an option passed the option's parser.
use Rattle.std.proofs.Common.{◌≡◌, ◌⊎◌, ◌∷◌, ◌++◌, ◌&&◌, ◌<◌, ◌≤◌, ◌+◌, ◌^◌, min, nat_lt, [], ap, ℕ, zero, suc, List, Bool, true, false, cond, inl, inr, Option, Some, None, is_some, refl, length, subst}
use Rattle.std.specs.Prelude.{IfSome, find, fold, option_and_then, slice_get, unwrap_or}
use Rattle.std.specs.List.{All}
use Rattle.std.specs.Option.{option_map_or}
use Rattle.std.specs.Str.{bytes_eq, chars}
use Rattle.std.specs.Str.Parse.{IsNumeral, digits_value, without_leading_plus}
use Rattle.clap.proofs.ValueTestLemmas.{Accepts-accepts, accepts-Accepts}
use Rattle.clap.specs.declared.builder.value_parser.ValueParser.TheVariants.{Unsigned}
use Rattle.command_line.specs.CommandLine.{number_in}
use Rattle.std.proofs.lemmas.List.Elements.{All-append, All-cons, All-head, All-nil, All-tail}
use Rattle.clap.specs.Facts.{explicit_source, parser_of_value, unwrap_or_range}
use Rattle.clap.specs.Faults.{action_fault, bundle_fault, bundle_step_fault, count_fault, flag_word_fault, flags_fault, level_fault, long_fault, option_fault, other_fault, positional_fault, react_fault, repeat_fault, set_fault, settle_fault, short_fault, step_fault, stray_fault, turn_fault, use_fault, values_fault, walk_fault, word_fault}
use Rattle.clap.specs.Kinds.{Kinds, or_else, range_kinds, value_kinds}
use Rattle.clap.specs.Lexer.{long_of, short_of}
use Rattle.clap.specs.Simple.{Shape}
use Rattle.clap.specs.Matches.{count_text}
use Rattle.clap.specs.Takes.{is_given}
use Rattle.clap.specs.Values.{refused_kind}
use Rattle.clap.specs.ValueTests.{accepts}
use Rattle.clap.specs.Walk.{Held, Names, Outcome, Row, Rule, Step, Text, Waiting, Walk, action_of, after_flag, after_step, arg_by_id, arg_by_index, arg_by_long, arg_by_short}
use Rattle.clap.specs.Walk.{at_row, attached_value, bundle_met, bundle_step, count_of, counted, default_rows, done, first_of, flag_met, has_row, idle, is_pending, long_met, long_or_other}
use Rattle.clap.specs.Walk.{more_values, most_values, new_count, next, nothing_held, option, option_met, option_word, plain, plain_word, positional, pushed, reacted, reading_by, refused, rows_after, settled, settled_rows}
use Rattle.clap.specs.Walk.{short_met, short_or_plain, stronger, subcommand, subcommand_met, subcommand_or_other, takes_several, takes_values, to_positional, trailing, used, used_as, used_by_id}
use Rattle.clap.specs.Walk.{value, values_or_missing, waits, walk, walk_from, walked, walked_from, with_default, with_values, without, word_met}
use Rattle.clap.specs.declared.builder.action.ArgAction.{ArgAction}
use Rattle.clap.specs.declared.builder.action.ArgAction.TheVariants.{Append, Count, Help, HelpLong, HelpShort, Set, SetFalse, SetTrue, Version}
use Rattle.clap.specs.declared.builder.value_parser.Reading.{Reading}
use Rattle.clap.specs.declared.builder.value_parser.ValueParser.{ValueParser}
use Rattle.clap.specs.declared.error.kind.ErrorKind.TheVariants.{InvalidValue, TooManyValues}
use Rattle.clap.specs.declared.parser.matches.ValueSource.{ValueSource}
use Rattle.clap.specs.declared.parser.matches.ValueSource.TheVariants.{CommandLine, DefaultValue}

pub none_of_both : (a b : Kinds) → or_else a b ≡ [] → (a ≡ []) × (b ≡ [])
none_of_both [] b none = (refl, none)
none_of_both (k ∷ ks) b none = cc

pub accepted : (parser : ValueParser) (text : Text) → value_kinds false parser text ≡ [] → accepts false parser text ≡ true
accepted parser text none = go (accepts false parser text) none
  where
    go : (b : Bool) → cond b [] (refused_kind parser ∷ []) ≡ [] → b ≡ true
    go true none = refl
    go false none = cc

-- the first value is there, and is so
abbrev pub First : (Text → Type 0) → List Text → Type 0
First Passes [] = ⊥
First Passes (v ∷ vs) = Passes v

first_more : (Passes : Text → Type 0) (values more : List Text) → First Passes values → First Passes (values ++ more)
first_more Passes [] more first = absurd first
first_more Passes (v ∷ vs) more first = first

none_given : (least most : ℕ) → nat_lt 0 least ≡ true → range_kinds least most 0 ≡ [] → ⊥
none_given least most some none = let bad : ◌≡◌ {A = Kinds} (InvalidValue ∷ []) [] = rw some at none in cc

-- `s` are the command's settings and options, `id` the option, and what its first value is to be
module _ (s : Shape) (id : Text) (Passes : Text → Type 0) where
  abbrev pub Fine : Row → Type 0
  Fine r = bytes_eq r.id id ≡ true → First Passes r.values

  -- what is used of an option leaves the rows so
  abbrev Keeps : Rule → Type 0
  Keeps a = (values : List Text) (rows : List Row) → use_fault s.args_override_self a values rows ≡ [] → All Fine rows → All Fine (used a values rows)

  abbrev Reads : Rule → Type 0
  Reads a = (nat_lt 0 (unwrap_or_range a.range).start_inclusive ≡ true) × ((text : Text) → value_kinds a.ignore_case (parser_of_value a.parser) text ≡ [] → Passes text)

  -- the option has no default, and it has values, which its parser lets through only if they are so
  abbrev pub AreRead : List Rule → Type 0
  AreRead [] = Unit {0}
  AreRead (a ∷ rules) = ((a.defaults ≡ []) ⊎ (bytes_eq a.id id ≡ false)) × (bytes_eq a.id id ≡ true → Reads a) × AreRead rules

  -- ---- one use

  at_row_fine : (name : Text) (change : Row → List Row) (missing rows : List Row) → ((r : Row) → Fine r → All Fine (change r)) → All Fine missing
      → All Fine rows → All Fine (at_row name change missing rows)
  at_row_fine name change missing [] changed new all = new
  at_row_fine name change missing (r ∷ rows) changed new all =
      go (bytes_eq r.id name) (at_row_fine name change missing rows changed new (All-tail Fine r rows all))
    where
      go : (b : Bool) → All Fine (at_row name change missing rows) → All Fine (cond b (change r ++ rows) (r ∷ at_row name change missing rows))
      go true later = All-append Fine (change r) rows (changed r (All-head Fine r rows all)) (All-tail Fine r rows all)
      go false later = All-cons Fine r (at_row name change missing rows) (All-head Fine r rows all) later

  without_fine : (name : Text) (rows : List Row) → All Fine rows → All Fine (without name rows)
  without_fine name rows all = at_row_fine name (λ _. []) [] rows (λ r fine. All-nil Fine) (All-nil Fine) all

  with_fine : (name : Text) (how : Reading) (source : ValueSource) (values : List Text) (rows : List Row) → (bytes_eq name id ≡ true → First Passes values) → All Fine rows
      → All Fine (with_values name how source values rows)
  with_fine name how source values rows first all =
      at_row_fine name (more_values source values) (record { id = name; values = values; count = None; source = Some source; reading = how } ∷ []) rows
      (λ r fine. All-cons Fine (record r { values = r.values ++ values; source = Some (stronger r.source source) }) [] (λ same. first_more Passes r.values values (fine same)) (All-nil Fine))
      (All-cons Fine (record { id = name; values = values; count = None; source = Some source; reading = how }) [] first (All-nil Fine)) all

  set_fine : (name : Text) (how : Reading) (values : List Text) (rows : List Row) → (bytes_eq name id ≡ true → First Passes values) → All Fine rows
      → All Fine (with_values name how CommandLine values (without name rows))
  set_fine name how values rows first all = with_fine name how CommandLine values (without name rows) first (without_fine name rows all)

  first_passes : (a : Rule) (values : List Text) → Reads a → range_kinds (unwrap_or_range a.range).start_inclusive (most_values a) (length values) ≡ []
      → values_fault a (values_or_missing a values) ≡ [] → First Passes (values_or_missing a values)
  first_passes a [] reads range none = absurd (none_given (unwrap_or_range a.range).start_inclusive (most_values a) reads.0 range)
  first_passes a (v ∷ vs) reads range none = reads.1 v (none_of_both (value_kinds a.ignore_case (parser_of_value a.parser) v) _ none).0

  counted_fine : (a : Rule) (values : List Text) (rows : List Row) → (bytes_eq a.id id ≡ true → Reads a) → (bytes_eq a.id id ≡ true → values_fault a values ≡ [] → First Passes values)
      → count_fault a values rows ≡ [] → All Fine rows → All Fine (counted a.id (reading_by a) values rows)
  counted_fine a [] rows reads first none all =
      let n : ℕ = min (count_of a.id rows + 1) 255 in
      let new : Row = record { id = a.id; values = count_text n ∷ []; count = Some n; source = Some CommandLine; reading = reading_by a } in
      at_row_fine a.id (new_count CommandLine n) (new ∷ []) (without a.id rows)
      (λ r fine. All-cons Fine (record r { values = r.values ++ count_text n ∷ []; count = Some n; source = Some (stronger r.source CommandLine) }) []
      (λ same. first_more Passes r.values (count_text n ∷ []) (fine same)) (All-nil Fine))
      (All-cons Fine new [] (λ same. (reads same).1 (count_text n) none) (All-nil Fine)) (without_fine a.id rows all)
  counted_fine a (v ∷ vs) rows reads first none all = set_fine a.id (reading_by a) (v ∷ vs) rows (λ same. first same none) all

  use_keeps : (a : Rule) → (bytes_eq a.id id ≡ true → Reads a) → Keeps a
  use_keeps a reads values rows none all = go (action_of a) (none_of_both (range_kinds (unwrap_or_range a.range).start_inclusive (most_values a) (length values)) _ none).1
    where
      first : bytes_eq a.id id ≡ true → values_fault a (values_or_missing a values) ≡ [] → First Passes (values_or_missing a values)
      first same fault = first_passes a values (reads same) (none_of_both (range_kinds (unwrap_or_range a.range).start_inclusive (most_values a) (length values)) _ none).0 fault

      set : set_fault s.args_override_self a (values_or_missing a values) rows ≡ [] → All Fine (with_values a.id (reading_by a) CommandLine (values_or_missing a values) (without a.id rows))
      set fault = set_fine a.id (reading_by a) (values_or_missing a values) rows (λ same. first same (none_of_both (repeat_fault s.args_override_self a.id rows) _ fault).1) all

      go : (action : ArgAction) → action_fault action s.args_override_self a (values_or_missing a values) rows ≡ []
          → All Fine (used_as action a.id (reading_by a) (values_or_missing a values) rows)
      go Set fault = set fault
      go SetTrue fault = set fault
      go SetFalse fault = set fault
      go Append fault = with_fine a.id (reading_by a) CommandLine (values_or_missing a values) rows (λ same. first same fault) all
      go Count fault = counted_fine a (values_or_missing a values) rows reads first fault all
      go Help fault = all
      go HelpShort fault = all
      go HelpLong fault = all
      go Version fault = all

  -- ---- the walk

  module _ (read : AreRead s.rules) where
    kept : (test : Rule → Bool) (rules : List Rule) → AreRead rules → IfSome (find test rules) Keeps
    kept test [] each = tt
    kept test (a ∷ rules) each = go (test a) (kept test rules each.2)
      where
        go : (b : Bool) → IfSome (find test rules) Keeps → IfSome (cond b (Some a) (find test rules)) Keeps
        go true later = use_keeps a each.1
        go false later = later

    settled_fine : (h : Held) → settle_fault s.rules s.args_override_self h ≡ [] → All Fine h.rows → All Fine (settled s.rules h).rows
    settled_fine h none all = go h.pending none
      where
        by : (values : List Text) (found : Option Rule) → IfSome found Keeps
            → option_map_or (λ a. use_fault s.args_override_self a values h.rows) found [] ≡ [] → All Fine (used_by_id found values h.rows)
        by values None keeps none = all
        by values (Some a) keeps none = keeps values h.rows none all

        go : (pending : Option (Text × List Text))
            → option_map_or (λ p. option_map_or (λ a. use_fault s.args_override_self a p.1 h.rows) (arg_by_id s.rules p.0) []) pending [] ≡ []
            → All Fine (settled_rows s.rules pending h.rows)
        go None none = all
        go (Some p) none = by p.1 (arg_by_id s.rules p.0) (kept _ s.rules read) none

    reacted_fine : (a : Rule) (values : List Text) (h : Held) → Keeps a → react_fault s.rules s.args_override_self a values h ≡ [] → All Fine h.rows
        → All Fine (reacted s.rules a values h).rows
    reacted_fine a values h keeps none all =
        let parts = none_of_both (settle_fault s.rules s.args_override_self h) _ none in
        keeps values (settled s.rules h).rows parts.1 (settled_fine h parts.0 all)

    option_fine : (a : Rule) (v : Option Text) (h : Held) → Keeps a → option_fault s.rules s.args_override_self a v h ≡ [] → All Fine h.rows
        → All Fine (option_met s.rules a v h).0.rows
    option_fine a (Some v) h keeps none all = reacted_fine a (v ∷ []) h keeps none all
    option_fine a None h keeps none all = settled_fine h none all

    long_fine : (found : Option Rule) (v : Option Text) (h : Held) → IfSome found Keeps → long_fault s.rules s.args_override_self found v h ≡ []
        → All Fine h.rows → All Fine (long_met s.rules found v h).0.rows
    long_fine None v h keeps none all = all
    long_fine (Some a) v h keeps none all = go (takes_values a) v none
      where
        go : (b : Bool) (v : Option Text)
            → cond b (option_fault s.rules s.args_override_self a v h) (cond (is_some v) (TooManyValues ∷ []) (react_fault s.rules s.args_override_self a [] h)) ≡ []
            → All Fine (cond b (option_met s.rules a v h) (flag_met s.rules a v h)).0.rows
        go true v none = option_fine a v h keeps none all
        go false None none = reacted_fine a [] h keeps none all
        go false (Some v) none = all

    short_fine : (found : Option Rule) (rest : Text) (h : Held) (fault : Held → Kinds) (met : Held → Held × Outcome) → IfSome found Keeps
        → ((later : Held) → fault later ≡ [] → All Fine later.rows → All Fine (met later).0.rows)
        → short_fault s.rules s.args_override_self found rest h fault ≡ [] → All Fine h.rows → All Fine (short_met s.rules found rest h met).0.rows
    short_fine None rest h fault met keeps on none all = all
    short_fine (Some a) rest h fault met keeps on none all = go (takes_values a) none
      where
        go : (b : Bool)
            → cond b (option_fault s.rules s.args_override_self a (attached_value rest) h)
            (or_else (react_fault s.rules s.args_override_self a [] h) (fault (reacted s.rules a [] h))) ≡ []
            → All Fine (cond b (option_met s.rules a (attached_value rest) h) (met (reacted s.rules a [] h))).0.rows
        go true none = option_fine a (attached_value rest) h keeps none all
        go false none =
            let parts = none_of_both (react_fault s.rules s.args_override_self a [] h) _ none in
            on (reacted s.rules a [] h) parts.1 (reacted_fine a [] h keeps parts.0 all)

    bundle_fine : (k : ℕ) (flags : Text) (skip : ℕ) (so_far : Outcome) (h : Held) → flags_fault s.rules s.args_override_self k flags skip h ≡ []
        → All Fine h.rows → All Fine (bundle_met s.rules k flags skip so_far h).0.rows
    unfolding flags_fault bundle_met
    bundle_fine zero flags skip so_far h none all = all
    bundle_fine (suc k) flags skip so_far h none all = go (bundle_fine k) (slice_get (chars flags) 0) skip none
      where
        go : ((flags : Text) (skip : ℕ) (so_far : Outcome) (h : Held) → flags_fault s.rules s.args_override_self k flags skip h ≡ [] → All Fine h.rows
            → All Fine (bundle_met s.rules k flags skip so_far h).0.rows)
            → (x : Option ℕ) (skip : ℕ) → bundle_step_fault s.rules s.args_override_self x flags skip h (flags_fault s.rules s.args_override_self k) ≡ []
            → All Fine (bundle_step s.rules x flags skip so_far h (bundle_met s.rules k)).0.rows
        go later None skip none = all
        go later (Some x) zero none =
            short_fine (arg_by_short s.rules x) _ h _ _ (kept _ s.rules read) (λ held none fine. later _ 0 done held none fine) none all
        go later (Some x) (suc skip) none = later _ skip so_far h none all

    plain_fine : (waiting : Waiting) (word : Text) (h : Held) → All Fine h.rows → All Fine (plain_word s.rules waiting word h).0.rows
    plain_fine idle word h all = all
    plain_fine positional word h all = all
    plain_fine (option name) word h all = go (arg_by_id s.rules name)
      where
        go : (found : Option Rule) → All Fine (option_word found name word h).0.rows
        go None = all
        go (Some a) = all

    flag_fine : (waiting : Waiting) (word : Text) (h : Held) (outcome : Outcome) → All Fine h.rows → All Fine (after_flag s.rules waiting word h outcome).0.rows
    flag_fine waiting word h done all = all
    flag_fine waiting word h (waits name) all = all
    flag_fine waiting word h plain all = plain_fine waiting word h all
    flag_fine waiting word h refused all = plain_fine waiting word h all

    long_or_other_fine : (waiting : Waiting) (word : Text) (long : Option (Text × Option Text)) (h : Held)
        → flag_word_fault s.rules s.args_override_self long word h ≡ [] → All Fine h.rows → All Fine (long_or_other s.rules waiting word long h).0.rows
    long_or_other_fine waiting word (Some p) h none all =
        flag_fine waiting word _ _ (long_fine (arg_by_long s.rules p.0) p.1 h (kept _ s.rules read) none all)
    long_or_other_fine waiting word None h none all = go (short_of word) none
      where
        go : (flags : Option Text) → option_map_or (λ flags. bundle_fault s.rules s.args_override_self flags h) flags [] ≡ []
            → All Fine (short_or_plain s.rules waiting word flags h).0.rows
        go None none = plain_fine waiting word h all
        go (Some flags) none = flag_fine waiting word _ _ (bundle_fine (length flags) flags h.skip plain (record h { skip = 0 }) none all)

    other_fine : (name : Option Text) (waiting : Waiting) (position : ℕ) (word : Text) (h : Held) → other_fault s name word h ≡ [] → All Fine h.rows
        → All Fine (subcommand_or_other s.rules name waiting position word h).0.rows
    other_fine (Some name) waiting position word h none all = all
    other_fine None waiting position word h none all = go (bytes_eq word (45 ∷ 45 ∷ [])) none
      where
        go : (b : Bool) → cond b [] (flag_word_fault s.rules s.args_override_self (long_of word) word h) ≡ []
            → All Fine (cond b (h, trailing position) (long_or_other s.rules waiting word (long_of word) h)).0.rows
        go true none = all
        go false none = long_or_other_fine waiting word (long_of word) h none all

    met_fine : (names : Names) (is_trailing : Bool) (waiting : Waiting) (position : ℕ) (word : Text) (h : Held)
        → word_fault s names is_trailing waiting word h ≡ [] → All Fine h.rows → All Fine (word_met s.rules names is_trailing waiting position word h).0.rows
    met_fine names true waiting position word h none all = all
    met_fine names false waiting position word h none all = other_fine (subcommand_met names waiting word) waiting position word h none all

    after_fine : (word : Text) (w : Walk) (h : Held) (step : Step) → step_fault s w.position h step ≡ [] → All Fine h.rows
        → All Fine (after_step s.rules word w h step).held.rows
    after_fine word w h (next waiting) none all = all
    after_fine word w h (trailing position) none all = all
    after_fine word w h (subcommand name) none all = all
    after_fine word w h value none all = go (arg_by_index s.rules w.position) none
      where
        waits_on : (a : Rule) (b : Bool) → cond b [] (settle_fault s.rules s.args_override_self h) ≡ []
            → All Fine (pushed a.id word (cond b h (settled s.rules h))).rows
        waits_on a true none = all
        waits_on a false none = settled_fine h none all

        go : (found : Option Rule) → option_map_or (λ a. positional_fault s.rules s.args_override_self a h) found (stray_fault s) ≡ []
            → All Fine (to_positional s.rules found word w h).held.rows
        go None none = all
        go (Some a) none = waits_on a (is_pending a h.pending && takes_several a) none

    turn_fine : (names : Names) (w : Walk) (word : Text) → turn_fault s names w word ≡ [] → All Fine w.held.rows → All Fine (walked s.rules names w word).held.rows
    unfolding walked
    turn_fine names w word none all = go w.stopped none
      where
        go : (o : Option (Text × List Text))
            → cond (is_some o) [] (or_else (word_fault s names w.is_trailing w.waiting word w.held)
            (step_fault s w.position (word_met s.rules names w.is_trailing w.waiting w.position word w.held).0
            (word_met s.rules names w.is_trailing w.waiting w.position word w.held).1)) ≡ []
            → All Fine (walked_from s.rules names o w word).held.rows
        go (Some p) none = all
        go None none =
            let parts = none_of_both _ _ none in
            after_fine word w _ _ parts.1 (met_fine names w.is_trailing w.waiting w.position word w.held parts.0 all)

    walk_fine : (names : Names) (words : List Text) (w : Walk) → walk_fault s names w words ≡ [] → All Fine w.held.rows
        → All Fine (fold (walked s.rules names) w words).held.rows
    unfolding walk_fault
    walk_fine names [] w none all = all
    walk_fine names (x ∷ xs) w none all =
        let parts = none_of_both (turn_fault s names w x) _ none in
        walk_fine names xs (walked s.rules names w x) parts.1 (turn_fine names w x parts.0 all)

    defaults_fine : (rules : List Rule) (rows : List Row) → AreRead rules → All Fine rows → All Fine (fold with_default rows rules)
    defaults_fine [] rows each all = all
    defaults_fine (a ∷ rules) rows each all = defaults_fine rules (with_default rows a) each.2 (go (has_row a.id rows) a.defaults each.0)
      where
        go : (b : Bool) (defaults : List Text) → (defaults ≡ []) ⊎ (bytes_eq a.id id ≡ false) → All Fine (cond b rows (default_rows a.id (reading_by a) defaults rows))
        go true defaults bare = all
        go false [] bare = all
        go false (v ∷ vs) (inl bare) = cc
        go false (v ∷ vs) (inr other) = with_fine a.id (reading_by a) DefaultValue (v ∷ vs) rows (λ same. absurd (cc)) all

    -- the rows at the end of words without a fault
    pub level_fine : (words : List Text) → level_fault s [] nothing_held words false [] ≡ [] → All Fine (rows_after s.rules [] words)
    level_fine words none =
        let walks = none_of_both (walk_fault s [] (walk_from nothing_held) words) _ none in
        let held : Held = (walk s.rules [] nothing_held words).held in
        let settles = none_of_both (settle_fault s.rules s.args_override_self held) _ walks.1 in
        defaults_fine s.rules (settled s.rules held).rows read
        (settled_fine held settles.0 (walk_fine [] words (walk_from nothing_held) walks.0 (All-nil Fine)))

  -- ---- the option's value

  found_fine : (rows : List Row) → All Fine rows → IfSome (find (λ (row : Row). bytes_eq row.id id) rows) (λ row. First Passes row.values)
  found_fine [] all = tt
  found_fine (r ∷ rows) all = go (bytes_eq r.id id) refl (found_fine rows (All-tail Fine r rows all))
    where
      go : (b : Bool) → bytes_eq r.id id ≡ b → IfSome (find (λ (row : Row). bytes_eq row.id id) rows) (λ row. First Passes row.values)
          → IfSome (cond b (Some r) (find (λ (row : Row). bytes_eq row.id id) rows)) (λ row. First Passes row.values)
      go true same later = All-head Fine r rows all same
      go false same later = later

  -- it passes, where the option is given or its default passes
  pub value_passes : (rows : List Row) (other : Text) → All Fine rows → (is_given id rows ≡ true) ⊎ Passes other → Passes (unwrap_or (first_of id rows) other)
  value_passes rows other all either = go (find (λ (row : Row). bytes_eq row.id id) rows) either (found_fine rows all)
    where
      first : (values : List Text) → First Passes values → Passes (unwrap_or (slice_get values 0) other)
      first [] passes = absurd passes
      first (v ∷ vs) passes = passes

      go : (found : Option Row) → (option_map_or (λ (row : Row). explicit_source row.source) found false ≡ true) ⊎ Passes other
          → IfSome found (λ row. First Passes row.values) → Passes (unwrap_or (option_and_then (λ (row : Row). slice_get row.values 0) found) other)
      go None (inl given) fine = cc
      go None (inr passes) fine = passes
      go (Some row) either fine = first row.values fine

  -- so does the value of an option that is given
  pub given_passes : (rows : List Row) → All Fine rows → IfSome (first_of id rows) Passes
  given_passes rows all = go (find (λ (row : Row). bytes_eq row.id id) rows) (found_fine rows all)
    where
      first : (values : List Text) → First Passes values → IfSome (slice_get values 0) Passes
      first [] passes = absurd passes
      first (v ∷ vs) passes = passes

      go : (found : Option Row) → IfSome found (λ row. First Passes row.values) → IfSome (option_and_then (λ (row : Row). slice_get row.values 0) found) Passes
      go None fine = tt
      go (Some row) fine = first row.values fine

-- ---- the number that a text is

pub number_is : (most : ℕ) (text : Text) (number : ℕ) → IsNumeral 10 (without_leading_plus text) → digits_value 10 (without_leading_plus text) < 2 ^ 64
    → number ≡ digits_value 10 (without_leading_plus text) → 1 ≤ number → number ≤ most → Some number ≡ number_in most text
number_is most text number digits fits is low high =
    rw (Accepts-accepts false (Unsigned 1 most) text (digits, fits, subst (λ n. 1 ≤ n) is low, subst (λ n. n ≤ most) is high)) (ap (λ (n : ℕ). Some n) is)

pub number_none : (most : ℕ) (text : Text) → (IsNumeral 10 (without_leading_plus text) × (digits_value 10 (without_leading_plus text) < 2 ^ 64) → ⊥)
    → None ≡ number_in most text
number_none most text none = go (accepts false (Unsigned 1 most) text) refl
  where
    go : (b : Bool) → accepts false (Unsigned 1 most) text ≡ b → None ≡ cond b (Some (digits_value 10 (without_leading_plus text))) None
    go true e = let is = accepts-Accepts false (Unsigned 1 most) text e in absurd (none (is.0, is.1))
    go false e = refl
