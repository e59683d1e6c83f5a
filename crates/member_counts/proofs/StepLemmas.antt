-- What one addition to a table's map, or to what is gone, is by its contract's words.
use Rattle.std.proofs.Common.{◌≡◌, ◌∙◌, Err, List, None, Ok, OnErr, OnOk, Option, Result, Some, ap, ap₂, cond, false, inl, inr, is_ok, refl, subst, sym, true}
use Rattle.std.specs.BTreeMap.{insert_entry, is_at}
use Rattle.std.specs.Map.{lookup, set_value}
use Rattle.member_counts.specs.declared.counts.Counts.{Counts}
use Rattle.member_counts.specs.declared.key.CountKey.{CountKey}
use Rattle.member_counts.specs.Counts.{plus}
use Rattle.member_counts.specs.Key.{same_key}
use Rattle.member_counts.specs.Table.{Table, joined}
use Rattle.member_counts.specs.body.Step.{AddsAt, GrowsEach}
use Rattle.member_counts.proofs.KeyLemmas.{is_at-order, order, same_test}
use Rattle.member_counts.proofs.SumLemmas.{grows_at_kept, grows_at_new, grows_gone}

pub as_kept : (key : CountKey) (entries : List (CountKey × Counts)) → lookup (is_at (order key)) entries ≡ lookup (same_key key) entries
as_kept key entries = ap (λ test. lookup test entries) (same_test key)

module _ (entries : List (CountKey × Counts)) (gone : Counts) (key : CountKey) (counts : Counts) where
  -- by what the map has at each key afterwards
  adds : (after : List (CountKey × Counts)) (kept : Option Counts) → lookup (is_at (order key)) entries ≡ kept
      → ((other : CountKey) → lookup (is_at (order other)) after ≡ cond (is_at (order key) other) (Some (joined kept counts)) (lookup (is_at (order other)) entries))
      → AddsAt key counts (record { entries = entries; gone = gone }) (record { entries = after; gone = gone })
  adds after kept found updated = inl (record {
    at_each_key = λ other.
        sym (as_kept other after) ∙ updated other
        ∙ ap (λ test. cond test (Some (joined kept counts)) (lookup (is_at (order other)) entries)) (is_at-order key other)
        ∙ ap (λ now. cond (same_key key other) (Some (joined kept counts)) now) (as_kept other entries)
        ∙ ap (λ before. cond (same_key key other) (Some (joined before counts)) (lookup (same_key other) entries)) (sym found ∙ as_kept key entries);
    gone = refl;
  })

  pub adds_at_kept : (after : List (CountKey × Counts)) (sum more : Counts) → Some sum ≡ lookup (is_at (order key)) entries → more ≡ plus sum counts
      → ((other : CountKey) → lookup (is_at (order other)) after ≡ cond (is_at (order key) other) (Some more) (lookup (is_at (order other)) entries))
      → AddsAt key counts (record { entries = entries; gone = gone }) (record { entries = after; gone = gone })
  adds_at_kept after sum more found is updated =
      adds after (Some sum) (sym found) (λ other. updated other
      ∙ ap (λ now. cond (is_at (order key) other) (Some now) (lookup (is_at (order other)) entries)) is)

  pub conserves_at_kept : (after : List (CountKey × Counts)) (sum more : Counts) → Some sum ≡ lookup (is_at (order key)) entries → more ≡ plus sum counts
      → after ≡ set_value (is_at (order key)) entries more
      → GrowsEach (record { entries = entries; gone = gone }) counts (record { entries = after; gone = gone })
  conserves_at_kept after sum more found is written =
      let same : after ≡ set_value (is_at (order key)) entries (plus sum counts) = written ∙ ap (set_value (is_at (order key)) entries) is in
      subst (λ (now : List (CountKey × Counts)). GrowsEach (record { entries = entries; gone = gone }) counts (record { entries = now; gone = gone }))
      (sym same) (grows_at_kept entries gone (is_at (order key)) sum counts (sym found))

  pub adds_at_new : (after : List (CountKey × Counts)) → None ≡ lookup (is_at (order key)) entries
      → ((other : CountKey) → lookup (is_at (order other)) after ≡ cond (is_at (order key) other) (Some counts) (lookup (is_at (order other)) entries))
      → AddsAt key counts (record { entries = entries; gone = gone }) (record { entries = after; gone = gone })
  adds_at_new after absent updated = adds after None (sym absent) updated

  pub conserves_at_new : (after : List (CountKey × Counts)) → None ≡ lookup (is_at (order key)) entries → after ≡ insert_entry order entries key counts
      → GrowsEach (record { entries = entries; gone = gone }) counts (record { entries = after; gone = gone })
  conserves_at_new after absent inserted =
      subst (λ (now : List (CountKey × Counts)). GrowsEach (record { entries = entries; gone = gone }) counts (record { entries = now; gone = gone }))
      (sym inserted) (grows_at_new entries gone order key counts (sym absent))

  pub adds_to_gone : (after : List (CountKey × Counts)) (sum : Counts) → None ≡ lookup (is_at (order key)) entries → after ≡ entries → sum ≡ plus gone counts
      → AddsAt key counts (record { entries = entries; gone = gone }) (record { entries = after; gone = sum })
  adds_to_gone after sum absent same is = inr (record { absent = sym (as_kept key entries) ∙ sym absent; entries = same; gone = is })

  pub conserves_gone : (after : List (CountKey × Counts)) (sum : Counts) → after ≡ entries → sum ≡ plus gone counts
      → GrowsEach (record { entries = entries; gone = gone }) counts (record { entries = after; gone = sum })
  conserves_gone after sum same is =
      let table : List (CountKey × Counts) → Counts → Table = λ entries gone. record { entries = entries; gone = gone } in
      subst (λ (now : Table). GrowsEach (record { entries = entries; gone = gone }) counts now) (sym (ap₂ table same is)) (grows_gone entries gone counts)

pub on_ok : {T E P : Type 0} (answer : Result T E) → is_ok answer ≡ true → OnOk answer P → P
on_ok (Ok x) is holds = holds
on_ok (Err e) is holds = cc

pub on_err : {T E P : Type 0} (answer : Result T E) → is_ok answer ≡ false → OnErr answer P → P
on_err (Ok x) is holds = cc
on_err (Err e) is holds = holds
