-- The words of a text, item by item.
use Rattle.std.proofs.Common.{◌+◌, List, inl, inr, subst, sym, ◌∷◌, ℕ}
use Rattle.bpf_formats.specs.declared.fault.FormatFault.{FormatFault}
use Rattle.bpf_formats.specs.declared.fault.FormatFault.TheVariants.{Count, OutOfMemory, Syntax}
use Rattle.bpf_formats.specs.declared.reading.Form.{Form}
use Rattle.bpf_formats.specs.body.View.{AddsWord, IsFaultAt, IsFaultOfItems, Spells}
use Rattle.bpf_formats.proofs.ItemLemmas.{Continues, skips_empty, stops, takes_word}

module _ (form : Form) (whole : List (List ℕ)) (first : ℕ) where
  pub takes_item : (item : List ℕ) (items : List (List ℕ)) (n : ℕ) (words after : List ℕ) → AddsWord form item words after → Continues (Spells form) whole first (item ∷ items) n words → Continues (Spells form) whole first items (n + 1) after
  takes_item item items n words after (inl (empty, same)) before =
      subst (Continues (Spells form) whole first items (n + 1)) (sym same) (skips_empty (Spells form) whole first item items n words empty before)
  takes_item item items n words after (inr (filled, (word, spelled, is))) before =
      subst (Continues (Spells form) whole first items (n + 1)) (sym is) (takes_word (Spells form) whole first item items n words word filled spelled before)

  pub stops_at : (item : List ℕ) (items : List (List ℕ)) (n : ℕ) (words : List ℕ) (fault : FormatFault) → IsFaultAt form n item fault → Continues (Spells form) whole first (item ∷ items) n words → IsFaultOfItems form first whole fault
  stops_at item items n words (Syntax line) at before = stops (Spells form) whole first item items n line words at.0 at.1 before
  stops_at item items n words Count at before = at
  stops_at item items n words OutOfMemory at before = tt
