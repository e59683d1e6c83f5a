-- The request that is held, byte by byte.
use Rattle.std.proofs.Common.{◌≡◌, ◌∙◌, ◌+◌, ◌-◌, ◌<◌, ◌++◌, ◌∷◌, Err, List, Ok, Result, [], ap, append_assoc, append-nil, arith, length, length-append, refl, subst, sym, take, ℕ}
use Rattle.std.specs.Prelude.{MatchResult}
use Rattle.std.specs.List.{All}
use Rattle.std.proofs.lemmas.List.{length_push, take_at}
use Rattle.std.proofs.lemmas.List.Elements.{All-nil, All-push}
use Rattle.ipv4_fields.specs.Cut.{IsSplitAt, Lacks}
use Rattle.ipv4_fields.proofs.TextLemmas.{lacks-append}
use Rattle.control_line.specs.declared.TheConstants.{BLOCK_LIMIT, LINE_LIMIT}
use Rattle.control_line.specs.declared.head.Head.{Head}
use Rattle.control_line.specs.Block.{HasHead, IsHead, after_line_feeds, head_text}
use Rattle.serve_stream.specs.declared.held.Held.{Held}
use Rattle.serve_stream.specs.declared.held.HoldFault.{HoldFault}
use Rattle.serve_stream.specs.declared.held.HoldFault.TheVariants.{OutOfMemory, TooLong}
use Rattle.serve_stream.specs.declared.held.LineEnd.{LineEnd}
use Rattle.serve_stream.specs.declared.held.LineEnd.TheVariants.{BadHead, More, Request}
use Rattle.serve_stream.specs.Request.{IsBadHead, IsOverlong, IsPart, IsRequest, NamesBlock, is_block, is_line, long_block, long_line, part_of_block, part_of_line}
use Rattle.serve_stream.specs.body.Held.{Holds, IsAdded, IsEndWithoutHead, IsFault, IsLineEnd, IsTaken, IsTakenNoMore, of_block, of_line}
use Rattle.serve_stream.proofs.HeadLemmas.{feeds_longer, feeds_more, lacks-none, longer, next_line, no_head, with_lines}

pub nothing_held : (held : Held) → held.bytes.items ≡ [] → held.room ≡ LINE_LIMIT → held.due ≡ 0 → Holds held
nothing_held held none room due =
    let len = ap length none in of_line (subst (Lacks 10) (sym none) (lacks-none 10)) due (omega (arith, len, room))

-- what is held is a part of a request
pub part_held : (held : Held) → Holds held → IsPart held.bytes.items
part_held held (of_line lacks due room) = part_of_line lacks (omega (arith, room))
part_held held (of_block head lines last has each lacks count due room) =
    let len = length_push lines last in
    part_of_block head (lines ++ last ∷ []) has (All-push (Lacks 10) lines last each lacks) (omega (arith, len)) (omega (arith, len, count, due)) (omega (arith, room))

longer_by : (lines : List (List ℕ)) (last more : List ℕ) → length (after_line_feeds (lines ++ (last ++ more) ∷ [])) ≡ length (after_line_feeds (lines ++ last ∷ [])) + length more
longer_by lines last more = ap length (sym (feeds_longer lines last more)) ∙ length-append (after_line_feeds (lines ++ last ∷ [])) more

-- ---- more of a line

module _ (bytes : List ℕ) (lacks : Lacks 10 bytes) where
  pub holds_more : (held held' : Held) → IsAdded bytes held held' → Holds held → Holds held'
  holds_more held held' added (of_line lacks' due room) =
      let len = ap length added.items ∙ length-append held.bytes.items bytes in
      of_line (subst (Lacks 10) (sym added.items) (lacks-append 10 held.bytes.items bytes lacks' lacks)) (added.due ∙ due) (omega (arith, len, room, added.room))
  holds_more held held' added (of_block head lines last has each lacks' count due room) =
      let len = longer_by lines last bytes in
      let same = added.due in
      of_block head lines (last ++ bytes) (subst (λ t. HasHead t head (after_line_feeds (lines ++ (last ++ bytes) ∷ []))) (sym added.items) (longer held.bytes.items head lines last bytes has))
      each (lacks-append 10 last bytes lacks' lacks) (omega (arith, count, same)) (omega (arith, due, same)) (omega (arith, len, room, added.room))

  pub too_much : (held : Held) → held.room < length bytes → Holds held → IsOverlong (held.bytes.items ++ bytes)
  too_much held much (of_line lacks' due room) =
      let len = length-append held.bytes.items bytes in
      long_line (lacks-append 10 held.bytes.items bytes lacks' lacks) (omega (arith, len, room, much))
  too_much held much (of_block head lines last has each lacks' count due room) =
      let len = longer_by lines last bytes in
      let more = length_push lines (last ++ bytes) in
      long_block head (lines ++ (last ++ bytes) ∷ []) (longer held.bytes.items head lines last bytes has)
      (All-push (Lacks 10) lines (last ++ bytes) each (lacks-append 10 last bytes lacks' lacks)) (omega (arith, more, count, due)) (omega (arith, len, room, much))

-- ---- the end of a line of a block

module _ (held : Held) (head : Head) (lines : List (List ℕ)) (last : List ℕ) (has : HasHead held.bytes.items head (after_line_feeds (lines ++ last ∷ []))) (each : All (Lacks 10) lines) (lacks : Lacks 10 last) where
  all_lack : All (Lacks 10) (lines ++ last ∷ [])
  all_lack = All-push (Lacks 10) lines last each lacks

  one_more : length (after_line_feeds ((lines ++ last ∷ []) ++ [] ∷ [])) ≡ length (after_line_feeds (lines ++ last ∷ [])) + 1
  one_more = ap length (feeds_more (lines ++ last ∷ []) []) ∙ length-append (after_line_feeds (lines ++ last ∷ [])) (10 ∷ [])

  next : HasHead (held.bytes.items ++ 10 ∷ []) head (after_line_feeds ((lines ++ last ∷ []) ++ [] ∷ []))
  next = next_line held.bytes.items head (lines ++ last ∷ []) has.is_head has.whole

pub not_bad : (text : List ℕ) (head : Head) (rest : List ℕ) → HasHead text head rest → IsBadHead text → ⊥
not_bad text head rest has bad = bad.none head rest has

pub last_line_ended : (held : Held) → held.due ≡ 1 → Holds held → IsRequest held.bytes.items × (IsBadHead held.bytes.items → ⊥)
last_line_ended held one (of_line lacks due room) = absurd (omega (arith, one, due))
last_line_ended held one (of_block head lines last has each lacks count due room) =
    let len = length_push lines last in (
      is_block head (lines ++ last ∷ []) (record { has_head = has; are_lines = All-push (Lacks 10) lines last each lacks; count = omega (arith, len, count, one) }) (omega (arith, room)),
      not_bad held.bytes.items head (after_line_feeds (lines ++ last ∷ [])) has,
    )

pub line_ended : (held less held' : Held) → 1 < held.due → less.bytes.items ≡ held.bytes.items → less.room ≡ held.room → less.due ≡ held.due - 1 → IsAdded (10 ∷ []) less held' → Holds held → Holds held'
line_ended held less held' several items same fewer added (of_line lacks due room) = absurd (omega (arith, several, due))
line_ended held less held' several items same fewer added (of_block head lines last has each lacks count due room) =
    let len = length_push lines last in
    let more = one_more held head lines last has each lacks in
    let added_room = added.room in
    let added_due = added.due in
    of_block head (lines ++ last ∷ []) []
    (subst (λ t. HasHead t head (after_line_feeds ((lines ++ last ∷ []) ++ [] ∷ []))) (ap (λ t. t ++ 10 ∷ []) (sym items) ∙ sym added.items) (next held head lines last has each lacks))
    (all_lack held head lines last has each lacks) (lacks-none 10)
    (omega (arith, len, count, fewer, several, added_due)) (omega (arith, fewer, several, added_due)) (omega (arith, more, room, same, added_room))

pub no_more_lines : (held : Held) → 1 < held.due → held.room < 1 → Holds held → IsOverlong (held.bytes.items ++ 10 ∷ [])
no_more_lines held several full (of_line lacks due room) = absurd (omega (arith, several, due))
no_more_lines held several full (of_block head lines last has each lacks count due room) =
    let len = length_push lines last in
    let len' = length_push (lines ++ last ∷ []) [] in
    let more = one_more held head lines last has each lacks in
    long_block head ((lines ++ last ∷ []) ++ [] ∷ []) (next held head lines last has each lacks) (All-push (Lacks 10) (lines ++ last ∷ []) [] (all_lack held head lines last has each lacks) (lacks-none 10))
    (omega (arith, len, len', count, several)) (omega (arith, more, room, full))

-- ---- the end of a line outside of blocks

line_held : (held : Held) → held.due ≡ 0 → Holds held → Lacks 10 held.bytes.items × (length held.bytes.items + held.room ≡ LINE_LIMIT)
line_held held none (of_line lacks due room) = (lacks, room)
line_held held none (of_block head lines last has each lacks count due room) = absurd (omega (arith, none, due))

module _ (held : Held) (none : held.due ≡ 0) (holds : Holds held) where
  pub whole_line : ((head : Head) → IsHead head → held.bytes.items ≡ head_text head → ⊥) → IsRequest held.bytes.items × (NamesBlock held.bytes.items → IsBadHead held.bytes.items)
  whole_line other =
      let line = line_held held none holds in
      let room = line.1 in
      let no = no_head held.bytes.items line.0 other in (
        is_line line.0 (omega (arith, room)) no,
        λ names. record { names = names; none = no },
      )

  module _ (head : Head) (is : IsHead head) (here : held.bytes.items ≡ head_text head) where
    whole : held.bytes.items ≡ head_text head ++ after_line_feeds []
    whole = here ∙ sym (append-nil (head_text head))

    pub no_lines : head.count ≡ 0 → IsRequest held.bytes.items × (IsBadHead held.bytes.items → ⊥)
    no_lines count =
        let has = with_lines held.bytes.items head [] is whole in (
          is_block head [] (record { has_head = has; are_lines = All-nil (Lacks 10); count = sym count }) (omega arith),
          not_bad held.bytes.items head [] has,
        )

    pub block_begun : (begun held' : Held) → 0 < head.count → begun.bytes.items ≡ held.bytes.items → begun.room ≡ BLOCK_LIMIT → begun.due ≡ head.count → IsAdded (10 ∷ []) begun held' → Holds held'
    block_begun begun held' some items room due added =
        let added_room = added.room in
        let added_due = added.due in
        of_block head [] [] (subst (λ t. HasHead t head (after_line_feeds ([] ∷ []))) (ap (λ t. t ++ 10 ∷ []) (sym items) ∙ sym added.items) (next_line held.bytes.items head [] is whole))
        (All-nil (Lacks 10)) (lacks-none 10) (omega (arith, due, added_due)) (omega (arith, due, added_due, some)) (omega (arith, room, added_room))

-- ---- faults

pub fault_is : (fault : HoldFault) (bytes : List ℕ) → (fault ≡ TooLong → IsOverlong bytes) → IsFault fault bytes
fault_is TooLong bytes long = long refl
fault_is OutOfMemory bytes long = tt

pub added : (bytes : List ℕ) (held held' : Held) (result : Result (Unit {0}) HoldFault) → Lacks 10 bytes
    → MatchResult result (λ done. IsAdded bytes held held') (λ fault. fault ≡ TooLong → held.room < length bytes)
    → Holds held → MatchResult result (λ done. Holds held' × (held'.bytes.items ≡ held.bytes.items ++ bytes)) (λ fault. IsFault fault (held.bytes.items ++ bytes))
added bytes held held' (Ok done) lacks adds holds = (holds_more bytes lacks held held' adds holds, adds.items)
added bytes held held' (Err fault) lacks faults holds = fault_is fault (held.bytes.items ++ bytes) (λ long. too_much bytes lacks held (faults long) holds)

-- a line that begins no block ends
pub first_ended : (end : LineEnd) (line : List ℕ) (held held' : Held) → held.due ≡ 0 → line ≡ held.bytes.items → ((head : Head) → IsHead head → line ≡ head_text head → ⊥)
    → IsEndWithoutHead line end → held'.bytes.items ≡ held.bytes.items → Holds held → IsLineEnd end held held'
first_ended More line held held' none is other ends same holds = absurd ends
first_ended Request line held held' none is other ends same holds =
    let whole = whole_line held none holds (λ head is_head here. other head is_head (is ∙ here)) in (whole.0, λ bad. ends (subst NamesBlock (sym is) bad.names), same)
first_ended BadHead line held held' none is other ends same holds =
    let whole = whole_line held none holds (λ head is_head here. other head is_head (is ∙ here)) in (whole.0, whole.1 (subst NamesBlock is ends), same)

-- ---- bytes up to an LF

module _ (bytes line rest : List ℕ) (held middle held' : Held) (cut : IsSplitAt 10 bytes line rest) (items : middle.bytes.items ≡ held.bytes.items ++ line) where
  -- the line with its LF
  front : take (length line + 1) bytes ≡ line ++ 10 ∷ []
  front = ap (take (length line + 1)) (cut.whole ∙ sym (append_assoc line (10 ∷ []) rest)) ∙ take_at (line ++ 10 ∷ []) rest (length line + 1) (length_push line 10)

  with_front : middle.bytes.items ++ 10 ∷ [] ≡ held.bytes.items ++ take (length line + 1) bytes
  with_front = ap (λ t. t ++ 10 ∷ []) items ∙ (append_assoc held.bytes.items line (10 ∷ []) ∙ ap (λ t. held.bytes.items ++ t) (sym front))

  pub taken_line : (count : ℕ) (end : LineEnd) → count ≡ length line + 1 → IsLineEnd end middle held' → IsTaken bytes held held' count end
  taken_line count More counts ends = (ends.0, ends.1 ∙ (with_front ∙ ap (λ n. held.bytes.items ++ take n bytes) (sym counts)))
  taken_line count Request counts ends =
      (subst IsRequest (sym ends.2) ends.0, λ bad. ends.1 (subst IsBadHead ends.2 bad), ap (λ t. t ++ 10 ∷ []) ends.2 ∙ (with_front ∙ ap (λ n. held.bytes.items ++ take n bytes) (sym counts)))
  taken_line count BadHead counts ends =
      (subst IsRequest (sym ends.2) ends.0, subst IsBadHead (sym ends.2) ends.1, ap (λ t. t ++ 10 ∷ []) ends.2 ∙ (with_front ∙ ap (λ n. held.bytes.items ++ take n bytes) (sym counts)))

  pub not_taken : (fault : HoldFault) → IsFault fault (middle.bytes.items ++ 10 ∷ []) → IsTakenNoMore fault bytes held
  not_taken fault faults = (
    line ++ 10 ∷ [],
    rest,
    cut.whole ∙ sym (append_assoc line (10 ∷ []) rest),
    subst (IsFault fault) (ap (λ t. t ++ 10 ∷ []) items ∙ append_assoc held.bytes.items line (10 ∷ [])) faults,
  )
