-- What becomes of the client in a place after its turn.
use Rattle.std.proofs.Common.{◌≡◌, ◌⊎◌, List, None, Option, Some, inl, inr, refl, subst, sym, ℕ}
use Rattle.serve_stream.specs.declared.conversation.Turn.{Turn}
use Rattle.serve_stream.specs.declared.conversation.Turn.TheVariants.{Closed, Stop, Waits, Went}
use Rattle.serve_stream.specs.Answers.{Exchange}
use Rattle.serve_stream.specs.Stream.{Event}
use Rattle.serve_unix.specs.declared.client.Client.{Client}
use Rattle.serve_unix.specs.Client.{IsClientTurn, IsClosed, IsKeptOrClosed, IsPlaceTurn}
use Rattle.serve_unix.specs.Connections.{Connection}

module _ {S A : Type 0} (log : S → Option (List Event)) (Does : A → A → Exchange → Type 0) (Notes : A → A → List ℕ → List ℕ → Type 0)
    (place : Option (Client S)) (client later : Client S) (state state' : A) (turn : Turn) (is : place ≡ Some client) (made : IsClientTurn log Does Notes client later state state' turn) where
  pub turn_kept : (told : Option (List Connection)) → (turn ≡ Went) ⊎ (turn ≡ Waits) → IsPlaceTurn log Does Notes place (Some later) state state' told told turn
  turn_kept told ends = subst (λ (p : Option (Client S)). IsPlaceTurn log Does Notes p (Some later) state state' told told turn) (sym is) (later, made, by ends)
    where
      by : (turn ≡ Went) ⊎ (turn ≡ Waits) → IsKeptOrClosed log Does Notes turn later (Some later) told told
      by (inl went) = subst (λ (t : Turn). IsKeptOrClosed log Does Notes t later (Some later) told told) (sym went) (refl, refl)
      by (inr waits) = subst (λ (t : Turn). IsKeptOrClosed log Does Notes t later (Some later) told told) (sym waits) (refl, refl)

  pub turn_closed : (place' : Option (Client S)) (told told' : Option (List Connection)) → (turn ≡ Closed) ⊎ (turn ≡ Stop) → place' ≡ None → IsClosed (log later.stream) told told'
      → IsPlaceTurn log Does Notes place place' state state' told told' turn
  turn_closed place' told told' ends none closes = subst (λ (p : Option (Client S)). IsPlaceTurn log Does Notes p place' state state' told told' turn) (sym is) (later, made, by ends)
    where
      by : (turn ≡ Closed) ⊎ (turn ≡ Stop) → IsKeptOrClosed log Does Notes turn later place' told told'
      by (inl over) = subst (λ (t : Turn). IsKeptOrClosed log Does Notes t later place' told told') (sym over) (none, closes)
      by (inr stop) = subst (λ (t : Turn). IsKeptOrClosed log Does Notes t later place' told told') (sym stop) (none, closes)
