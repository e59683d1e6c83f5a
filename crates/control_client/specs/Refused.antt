-- The requests that were not done, and how they are shown to people (docs/COMMANDS.md, "tell").
use Rattle.std.specs.Prelude.{◌≡◌, ◌++◌, ◌∷◌, Bool, List, Option, [], false, map, true, ℕ}
use Rattle.std.specs.List.{filter}
use Rattle.control_client.specs.Exchange.{Exchange, is_refusal}
use Rattle.control_client.specs.Lines.{Request}

-- a request, and its reply
pub record Told : Type 0 where
  pub request : Request
  pub reply : List ℕ

abbrev pub exchange_of : Told → Exchange
exchange_of one = record { line = one.request.text; reply = one.reply }

abbrev pub exchanges_of : List Told → List Exchange
exchanges_of told = map exchange_of told

abbrev pub requests_of : List Told → List Request
requests_of told = map (λ (one : Told). one.request) told

-- a request that was not done: its place in the input, and its reply
pub record Refusal : Type 0 where
  pub head : Option ℕ
  pub lines : List ℕ
  pub reply : List ℕ

abbrev pub refusal_of : Told → Refusal
refusal_of one = record { head = one.request.head; lines = one.request.lines; reply = one.reply }

-- the requests among these that were not done, in their order
abbrev pub refusals_of : List Told → List Refusal
refusals_of told = map refusal_of (filter (λ (one : Told). is_refusal one.reply) told)

-- these were shown, one after the other, and nothing else
pub data ShowsAll {S : Type 0} (Shows : S → S → Refusal → Type 0) (start : S) : S → List Refusal → Type 0 where
  none_shown : ShowsAll Shows start start []
  one_shown : (mid end : S) (refusals : List Refusal) (one : Refusal) → ShowsAll Shows start mid refusals → Shows mid end one →
      ShowsAll Shows start end (refusals ++ one ∷ [])

-- a request is shown if it was not done
abbrev pub ShowsIf : {S : Type 0} → (S → S → Refusal → Type 0) → S → S → Refusal → Bool → Type 0
ShowsIf Shows before after one true = Shows before after one
ShowsIf Shows before after one false = after ≡ before

-- how requests are shown on a writer whose bytes are these
abbrev pub ShownOn : {S : Type 0} → (S → Option (List ℕ)) → (Option (List ℕ) → Option (List ℕ) → Refusal → Type 0) → S → S → Refusal → Type 0
ShownOn contents shows before after one = shows (contents before) (contents after) one
