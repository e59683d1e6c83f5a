-- What an outbox in memory keeps when it is sent one datagram more.
use Rattle.std.proofs.Common.{◌≡◌, ◌∙◌, ◌++◌, ◌+◌, ◌∷◌, Err, List, Ok, Result, [], ap, arith, drop, flat_map, if◌then◌else◌, is_ok, length, option_map, refl, slice_get, suc, take, take-append-drop, zero, ℕ}
use Rattle.std.proofs.lemmas.List.{drop-append-le, length-drop, take-append-le, take_all}
use Rattle.std.specs.Prelude.{IsOk}
use Rattle.std.proofs.lemmas.List.Sums.{sum_by-cons}
use Rattle.ipv4_fields.specs.declared.endpoint.Endpoint.{Endpoint}
use Rattle.dispatch.specs.declared.memory.Extent.{Extent}
use Rattle.dispatch.specs.Device.{Sent}
use Rattle.dispatch.specs.Memory.{len_of, sent_in}

pub sent_in-more : (extents : List Extent) (bytes more : List ℕ) (to : Endpoint) → len_of extents ≡ length bytes
    → sent_in (extents ++ record { to = to; len = length more } ∷ []) (bytes ++ more) ≡ sent_in extents bytes ++ record { to = to; bytes = more } ∷ []
sent_in-more [] [] more to all = ap (λ (bytes : List ℕ). record { to = to; bytes = bytes } ∷ []) (take_all (length more) more (omega arith))
sent_in-more [] (first ∷ bytes) more to all = absurd (omega arith)
sent_in-more (first ∷ rest) bytes more to all =
    let parts : len_of (first ∷ rest) ≡ first.len + len_of rest = sum_by-cons (λ (extent : Extent). extent.len) first rest in
    let inside = take-append-le first.len bytes more (omega arith) in let behind = drop-append-le first.len bytes more (omega arith) in
    let left : len_of rest ≡ length (drop first.len bytes) = omega (arith, length-drop first.len bytes) in
    ap (λ (taken : List ℕ). record { to = first.to; bytes = taken } ∷ sent_in (rest ++ record { to = to; len = length more } ∷ []) (drop first.len (bytes ++ more))) inside
    ∙ ap (λ (left : List ℕ). record { to = first.to; bytes = take first.len bytes } ∷ sent_in (rest ++ record { to = to; len = length more } ∷ []) left) behind
    ∙ ap (λ (sent : List Sent). record { to = first.to; bytes = take first.len bytes } ∷ sent) (sent_in-more rest (drop first.len bytes) more to left)

-- what a call that had room left
pub items_kept : {A E X : Type 0} (answer : Result A E) (left kept as_before : X) → IsOk answer → left ≡ (if is_ok answer then kept else as_before) → left ≡ kept
items_kept (Ok done) left kept as_before ok is = is
items_kept (Err fault) left kept as_before ok is = absurd (cc)

pub count_of-sent_in : (extents : List Extent) (bytes : List ℕ) → length (sent_in extents bytes) ≡ length extents
count_of-sent_in [] bytes = refl
count_of-sent_in (first ∷ rest) bytes = ap (λ n. suc n) (count_of-sent_in rest (drop first.len bytes))

pub to_of-sent_in : (extents : List Extent) (bytes : List ℕ) (i : ℕ) → option_map (λ (extent : Extent). extent.to) (slice_get extents i) ≡ option_map (λ (sent : Sent). sent.to) (slice_get (sent_in extents bytes) i)
to_of-sent_in [] bytes i = refl
to_of-sent_in (first ∷ rest) bytes zero = refl
to_of-sent_in (first ∷ rest) bytes (suc i) = to_of-sent_in rest (drop first.len bytes) i

pub bytes_of-sent_in : (extents : List Extent) (bytes : List ℕ) → len_of extents ≡ length bytes → flat_map (λ (sent : Sent). sent.bytes) (sent_in extents bytes) ≡ bytes
bytes_of-sent_in [] [] all = refl
bytes_of-sent_in [] (first ∷ bytes) all = absurd (omega arith)
bytes_of-sent_in (first ∷ rest) bytes all =
    let parts : len_of (first ∷ rest) ≡ first.len + len_of rest = sum_by-cons (λ (extent : Extent). extent.len) first rest in
    let left : len_of rest ≡ length (drop first.len bytes) = omega (arith, length-drop first.len bytes) in
    ap (λ (behind : List ℕ). take first.len bytes ++ behind) (bytes_of-sent_in rest (drop first.len bytes) left) ∙ take-append-drop first.len bytes
