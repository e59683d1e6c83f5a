-- Screens of `top` of which a beginning was printed.
use Rattle.std.proofs.Common.{◌<◌, ◌≤◌, ◌+◌, ◌++◌, Bool, List, Option, Some, arith, codes, inl, inr, refl, ℕ}
use Rattle.std.specs.Borrow.{Bor}
use Rattle.std.specs.Io.KnownBytes.{Appends}
use Rattle.clap.specs.Words.{Text}
use Rattle.command_line.specs.ControlAddress.{IsNoControlAddress, SpellsControlAddress}
use Rattle.command_line.specs.Ending.{AppendsBeginning}
use Rattle.command_line.specs.declared.control_address.ControlAddress.{ControlAddress}
use Rattle.control_client.specs.Wire.{peer_of}
use Rattle.control_counters.specs.Reading.{AreCountersOf, IsKnown}
use Rattle.control_counters.specs.Watching.{Watches}
use Rattle.control_rules.specs.History.{ClientValue}
use Rattle.counter_text.specs.Screen.{screen_text}
use Rattle.counter_text.specs.declared.counters.Counters.{Counters}
use Rattle.command_operating.specs.Measured.{PrintsTop, WritesScreens, clear_text}
use Rattle.command_operating.specs.Printing.{Begins}
use Rattle.command_operating.specs.body.Screens.{BeginsMore, BeginsScreens, ShowsMore}
use Rattle.command_operating.proofs.MeasuringLemmas.{AreShown, one_shown, shows, writes_screens}
use Rattle.command_operating.proofs.PrintingLemmas.{begins_after, begins_as, begins_text}

pub screen_begun : (clears : Bool) (earlier : Bor Counters) (before after : ClientValue) (out out' : Option (List ℕ)) (later : Counters) (millis : ℕ) → 1000 ≤ millis
    → Watches before after (λ history told. IsKnown history (Some earlier) → AreCountersOf history told later)
    → AppendsBeginning out out' (clear_text clears ++ screen_text earlier.now later millis) → BeginsMore clears earlier before after out out'
screen_begun clears earlier before after out out' later millis long watches so_far =
    begins_text (λ start end. (next : Counters) × ShowsMore clears earlier before after start end next) out out' (clear_text clears ++ screen_text earlier.now later millis) so_far
    (λ whole written. (later, record { millis = millis; long = long; watches = watches; written = written }))

-- after others
pub screens_begun : (clears : Bool) (first mid then : ClientValue) (out out' out'' : Option (List ℕ)) (count all : ℕ) (last : Bor Counters) → count < all
    → AreShown clears first out count mid out' last.now → BeginsMore clears last mid then out' out'' → BeginsScreens clears all first.switch out out''
screens_begun clears first mid then out out' out'' count all last fewer shown more =
    begins_after (λ start end. (next : Counters) × ShowsMore clears last mid then start end next)
    (λ start end. (n : ℕ) × (n ≤ all) × WritesScreens first.switch clears n start end) out out' out'' shown.text shown.written
    (λ whole one. (
      count + 1,
      omega (arith, fewer),
      writes_screens first then first.switch clears (count + 1) out whole refl
          (shows clears first out (count + 1) then whole one.0 (one_shown clears first out count mid then out' whole last one.0 shown one.1)),
    ))
    more

pub top_begun : (control : Text) (address : ControlAddress) (clears : Bool) (count : ℕ) (before after : Option (List ℕ)) → SpellsControlAddress control address
    → BeginsScreens clears count (peer_of address) before after → Begins (PrintsTop control clears count) before after
top_begun control address clears count before after spells so_far =
    begins_as (λ start end. (n : ℕ) × (n ≤ count) × WritesScreens (peer_of address) clears n start end) (PrintsTop control clears count) before after
    (λ whole it. inl (it.0, it.1, record { address = address; is_address = spells; written = it.2 })) so_far

pub no_top_address : (control : Text) (clears : Bool) (count : ℕ) (before whole : Option (List ℕ)) → IsNoControlAddress control → Appends before whole (codes "refused C1\n")
    → PrintsTop control clears count before whole
no_top_address control clears count before whole none written = inr (none, written)
