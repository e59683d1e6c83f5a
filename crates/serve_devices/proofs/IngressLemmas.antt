-- What a source takes of its ingress, and gives.
use lib.Seq.{take-append_seam}
use Rattle.std.proofs.lemmas.List.{map-append}
use Rattle.std.proofs.lemmas.List.Elements.{filter_map-append}
use Rattle.std.proofs.Common.{◌++◌, ◌∙◌, ◌≡◌, ◌∷◌, Err, List, None, Ok, Option, Result, Some, [], ap, drop, length, option_map, refl, subst, suc, sym, take, ℕ}
use Rattle.dispatch.specs.declared.device.Failed.{Failed}
use Rattle.dispatch.specs.Device.{AreGivenAfter, Gives}
use Rattle.serve_devices.specs.Devices.{all_datagrams, datagrams_of}
use Rattle.serve_devices.specs.Ingress.{HasGiven, IsNext, Receive, cut_to}
use Rattle.serve_devices.specs.body.Ahead.{ComesAfter, past_of, with_ahead}

-- a datagram that was taken first is given
pub gives_taken : (left left' room size : ℕ) (bytes copied : List ℕ) (before after : Option (List Receive)) → left ≡ suc left'
    → copied ≡ take room (take size bytes) → before ≡ option_map (with_ahead {E = Failed} bytes (Some (Ok size))) after
    → Gives room (option_map (datagrams_of left) before) (option_map (datagrams_of left') after) (copied ∷ [])
gives_taken left left' room size bytes copied before None more same is = rw (is) tt
gives_taken left left' room size bytes copied before (Some later) more same is = rw (is, more) (take size bytes ∷ [], refl, ap (λ (c : List ℕ). c ∷ []) same)

-- of a failure that was taken first nothing is given
pub gives_failure : (left left' room : ℕ) (fault : Failed) (bytes : List ℕ) (before after : Option (List Receive)) → left ≡ suc left'
    → before ≡ option_map (with_ahead {E = Failed} bytes (Some (Err fault))) after
    → Gives room (option_map (datagrams_of left) before) (option_map (datagrams_of left') after) []
gives_failure left left' room fault bytes before None more is = rw (is) tt
gives_failure left left' room fault bytes before (Some later) more is = rw (is, more) ([], refl, refl)

-- a receive, cut to its buffer, is what was found
found_cut : {E : Type 0} (bytes : List ℕ) (found : Option (Result ℕ E)) (next : List Receive) → IsNext bytes found next [] → cut_to (length bytes) next ≡ with_ahead bytes found []
found_cut bytes (Some (Ok size)) next (whole, is, same) = ap (cut_to (length bytes)) is ∙ ap (λ (b : List ℕ). Some b ∷ []) (sym same)
found_cut bytes (Some (Err fault)) next is = ap (cut_to (length bytes)) is
found_cut bytes None next is = ap (cut_to (length bytes)) (sym is)

-- a receive into the whole of a room leaves what it wrote
pub whole_room : (len : ℕ) (old new : List ℕ) → len ≡ length old → length new ≡ length old → take len (new ++ drop (length new) old) ≡ new
whole_room len old new is same = ap (λ (n : ℕ). take n (new ++ drop (length new) old)) (is ∙ sym same) ∙ take-append_seam new (drop (length new) old)

-- what an ingress found now is given
pub found_given : {E : Type 0} (old new : List ℕ) (found : Option (Result ℕ E)) (before after : Option (List Receive)) → length new ≡ length old
    → HasGiven new found before after → ComesAfter new found (past_of {E = E} old None before) (past_of {E = E} new None after)
found_given old new found None None same given = refl
found_given old new found None (Some past) same given = absurd given
found_given old new found (Some earlier) None same given = absurd given
found_given old new found (Some earlier) (Some past) same (next, is, one) =
    let n = length new in
    ap Some (ap (cut_to n) is ∙ (map-append (option_map (take n)) earlier next
    ∙ (ap (λ (l : List Receive). cut_to n earlier ++ l) (found_cut new found next one)
    ∙ ap (λ (m : ℕ). cut_to m earlier ++ with_ahead new found []) same)))

taken_after : (room size : ℕ) (bytes copied : List ℕ) (before after : Option (List Receive)) → copied ≡ take room (take size bytes)
    → ComesAfter {E = Failed} bytes (Some (Ok size)) before after → AreGivenAfter room (option_map all_datagrams before) (option_map all_datagrams after) (copied ∷ [])
taken_after room size bytes copied None after same is = rw (is) tt
taken_after room size bytes copied (Some past) after same is =
    rw (is) (take size bytes ∷ [], filter_map-append (λ (receive : Receive). receive) past (Some (take size bytes) ∷ []), ap (λ (c : List ℕ). c ∷ []) same)

none_after : (room : ℕ) (fault : Failed) (bytes : List ℕ) (before after : Option (List Receive)) → ComesAfter {E = Failed} bytes (Some (Err fault)) before after
    → AreGivenAfter room (option_map all_datagrams before) (option_map all_datagrams after) []
none_after room fault bytes None after is = rw (is) tt
none_after room fault bytes (Some past) after is = rw (is) ([], filter_map-append (λ (receive : Receive). receive) past (None ∷ []), refl)

-- a datagram that was taken comes after those that were given
module _ (room : ℕ) (bytes : List ℕ) (found : Option (Result ℕ Failed)) (before before' after : Option (List Receive)) (past : before' ≡ before) (comes : ComesAfter bytes found before' after) where
  comes_as : (answer : Result ℕ Failed) → found ≡ Some answer → ComesAfter bytes (Some answer) before after
  comes_as answer is =
      subst (λ (f : Option (Result ℕ Failed)). ComesAfter bytes f before after) is (subst (λ (b : Option (List Receive)). ComesAfter bytes found b after) past comes)

  pub after_taken : (size : ℕ) (copied : List ℕ) → copied ≡ take room (take size bytes) → found ≡ Some (Ok size)
      → AreGivenAfter room (option_map all_datagrams before) (option_map all_datagrams after) (copied ∷ [])
  after_taken size copied same is = taken_after room size bytes copied before after same (comes_as (Ok size) is)

  -- after a failure that was taken no more were
  pub after_failure : (fault : Failed) → found ≡ Some (Err fault) → AreGivenAfter room (option_map all_datagrams before) (option_map all_datagrams after) []
  after_failure fault is = none_after room fault bytes before after (comes_as (Err fault) is)
