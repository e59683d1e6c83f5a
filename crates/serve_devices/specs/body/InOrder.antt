-- The rule of a channel: what was put is what was taken, and then what the channel holds. One pass puts and one takes.
use Rattle.std.specs.Prelude.{◌≡◌, ℕ, Bool, true, List, ◌++◌}
use mathlib.Core.Option.{some}
use lib.ListN.{get_elem?}
use Rattle.serve_devices.specs.declared.channel.Share.{Share}

module _ {T : Type 0} where
  abbrev pub share : Bool → Bool → List T → List T → Share T
  share puts takes put taken = record { puts = puts; takes = takes; put = put; taken = taken }

  -- if a pass may put, it is this one, and knows all that was put; the same of taking
  abbrev pub Knows : ℕ → ℕ → List T → List T → ℕ → Share T → Type 0
  Knows putter taker put taken pass v =
      (v.puts ≡ true → (pass ≡ putter) × (v.put ≡ put)) × (v.takes ≡ true → (pass ≡ taker) × (v.taken ≡ taken))

  abbrev pub IsInOrder : List T → List (Share T) → Type 0
  IsInOrder items views = (putter : ℕ) × (taker : ℕ) × (put : List T) × (taken : List T) × (put ≡ taken ++ items)
      × ((pass : ℕ) (v : Share T) → get_elem? views pass ≡ some v → Knows putter taker put taken pass v)
