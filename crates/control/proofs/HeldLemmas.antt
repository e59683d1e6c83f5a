-- What is held of a request: all of it, or as much as shows that it is too long.
use Rattle.std.proofs.Common.{◌≡◌, ◌∙◌, ◌+◌, ◌-◌, ◌<◌, ◌≤◌, ◌++◌, ◌∷◌, ◌⊎◌, ◌==◌, Bool, Err, List, Ok, Result, [], ap, append_assoc, append-nil, arith, drop, false, inl, inr, length, length-append, nat_eq, refl, subst, suc, sym, take, true, zero, ℕ}
use Rattle.std.specs.List.{All, ends_with}
use Rattle.std.specs.Prelude.{OnOk}
use Rattle.std.proofs.lemmas.Bool.{both_ways, cases_lt, eqb-true}
use Rattle.std.proofs.lemmas.Bool.Decides.{Decides-eqb}
use Rattle.std.proofs.lemmas.List.{append_cancel_left, length-drop, length-take, length-take-le, length_push, nil_from_length, same_from_push, take-append-drop, take-append-le, take_all, take_at}
use Rattle.std.proofs.lemmas.List.Elements.{All-nil, All-push}
use Rattle.std.proofs.lemmas.Slice.Eq.{ends_is}
use Rattle.std.proofs.Math.Seq.{take-length}
use Rattle.ipv4_fields.specs.Cut.{Lacks}
use Rattle.ipv4_fields.proofs.TextLemmas.{has_separator, lacks-append}
use Rattle.control_line.specs.declared.TheConstants.{BLOCK_LIMIT, LINE_LIMIT}
use Rattle.control_line.specs.declared.head.Head.{Head}
use Rattle.control_line.specs.declared.reply.LineAnswer.{LineAnswer}
use Rattle.control_line.specs.Agrees.{TextConfig}
use Rattle.control_line.specs.Answer.{Answers, bad_form, replied, too_long}
use Rattle.control_line.specs.Block.{EndsLine, HasHead, IsHead, IsTooLong, after_line_feeds, head_text, long_block, long_line}
use Rattle.control.specs.declared.held.Held.{Held}
use Rattle.control.specs.declared.held.TheConstants.{BLOCK_ROOM, LINE_ROOM}
use Rattle.control.specs.body.Held.{Holds, HoldsAfterLine, IsCountAfter, IsHeldUpTo, IsLastHeld, IsWithoutLf, Shows, block_room, had_lf, had_none, of_block, of_head, of_line, of_no_head}
use Rattle.control.specs.Script.{BeginsRequest, IsRequest, RepliesTo, Standing, in_block, in_line, is_block, is_line, to_control, to_long_packet, to_packet, with_last_lf}
use Rattle.control.proofs.EndLemmas.{lf_added, lf_at_end, lf_there}
use Rattle.control.proofs.HeadLemmas.{lacks-none, no_head, no_head-long, short_head}
use Rattle.control.proofs.RequestLemmas.{feeds_more, with_lines}

-- ---- requests that are too long

-- a long beginning of a block is too long itself
long_beginning : (text more : List ℕ) (head : Head) (rest : List ℕ) → HasHead (text ++ more) head rest → length (head_text head) + BLOCK_LIMIT < length text → IsTooLong text
long_beginning text more head rest has long =
    let n = length (head_text head) in
    let left : List ℕ = drop n text in
    let front : take n text ≡ head_text head =
    sym (take-append-le n text more (omega arith)) ∙ (ap (take n) has.whole ∙ take_at (head_text head) rest n refl) in
    let whole : text ≡ head_text head ++ left = sym (take-append-drop n text) ∙ ap (λ t. t ++ left) front in
    let len = length-drop n text in
    let same : left ++ more ≡ rest =
    append_cancel_left (head_text head) (left ++ more) rest (sym (append_assoc (head_text head) left more) ∙ (ap (λ t. t ++ more) (sym whole) ∙ has.whole)) in
    long_block head left (record { is_head = has.is_head; whole = whole; ends_line = ends left same }) (omega (arith, len, long))
  where
    ends : (left : List ℕ) → left ++ more ≡ rest → EndsLine left
    ends [] same = tt
    ends (x ∷ left) same = subst EndsLine (sym same) has.ends_line

long_text : (text : List ℕ) → IsTooLong text → LINE_LIMIT < length text
long_text text (long_block head rest has long) = let len = ap length has.whole ∙ length-append (head_text head) rest in omega (arith, len, long)
long_text text (long_line none long) = long

module _ (part : List ℕ) (n : ℕ) where
  -- the front of it
  lacks-take : Lacks 10 part → Lacks 10 (take n part)
  lacks-take lacks = lacks_front n part lacks
    where
      lacks_front : (n : ℕ) (text : List ℕ) → Lacks 10 text → Lacks 10 (take n text)
      lacks_front zero text lacks k inside = absurd (omega arith)
      lacks_front (suc n) [] lacks k inside = absurd (omega arith)
      lacks_front (suc n) (x ∷ text) lacks zero inside = lacks 0 (omega arith)
      lacks_front (suc n) (x ∷ text) lacks (suc k) inside = lacks_front n text (λ j within. lacks (suc j) (omega arith)) k (omega arith)

  long_front : (head : Head) (rest : List ℕ) → HasHead part head rest → length (head_text head) + BLOCK_LIMIT < n → n ≤ length part → IsTooLong (take n part)
  long_front head rest has long within =
      let len = length-take-le n part within in
      long_beginning (take n part) (drop n part) head rest (subst (λ t. HasHead t head rest) (sym (take-append-drop n part)) has) (omega (arith, len, long))

  long_line_front : Lacks 10 part → LINE_LIMIT < n → n ≤ length part → IsTooLong (take n part)
  long_line_front lacks long within =
      let len = length-take-le n part within in
      long_line (no_head-long (take n part) (lacks-take lacks) (omega (arith, len, long))) (omega (arith, len, long))

long_part : (part : List ℕ) (head : Head) (rest : List ℕ) → HasHead part head rest → length (head_text head) + BLOCK_LIMIT < length part → IsTooLong part
long_part part head rest has long = subst IsTooLong (take-length part) (long_front part (length part) head rest has long (omega arith))

line_shown : (part : List ℕ) (held : Held) → Lacks 10 part → IsHeldUpTo LINE_ROOM part held → Shows held.bytes.items part
line_shown part held lacks up = by_length (cases_lt LINE_ROOM (length part))
  where
    by_length : (LINE_ROOM < length part) ⊎ (length part ≤ LINE_ROOM) → Shows held.bytes.items part
    by_length (inl more) = inr (
      subst IsTooLong (sym up.bytes) (long_line_front part LINE_ROOM lacks (omega arith) (omega arith)),
      long_line (no_head-long part lacks (omega (arith, more))) (omega (arith, more)),
    )
    by_length (inr all) = inl (up.bytes ∙ take_all LINE_ROOM part all)

block_shown : (part : List ℕ) (held : Held) (head : Head) (rest : List ℕ) → HasHead part head rest → IsHeldUpTo (block_room head) part held → Shows held.bytes.items part
block_shown part held head rest has up = by_length (cases_lt (block_room head) (length part))
  where
    by_length : (block_room head < length part) ⊎ (length part ≤ block_room head) → Shows held.bytes.items part
    by_length (inl more) = inr (
      subst IsTooLong (sym up.bytes) (long_front part (block_room head) head rest has (omega arith) (omega (arith, more))),
      long_part part head rest has (omega (arith, more)),
    )
    by_length (inr all) = inl (up.bytes ∙ take_all (block_room head) part all)

-- ---- the reply to what is held is the request's

module _ (now : Standing) (bytes request : List ℕ) (one : IsTooLong bytes) (other : IsTooLong request) where
  answered_long : (answer : LineAnswer) (next : TextConfig) → Answers now.version now.config bytes answer next → Answers now.version now.config request answer next
  answered_long _ _ (too_long held) = too_long other
  answered_long _ _ (bad_form short none) = absurd (short one)
  answered_long _ _ (replied message answer next short spells done) = absurd (short one)

  replied_long : (reply : List ℕ) (next : Standing) → RepliesTo now bytes reply next → RepliesTo now request reply next
  replied_long _ _ (to_control answer next none answers comes) = to_control answer next (λ digits is hex. long_text request other) (answered_long answer next answers) comes
  replied_long _ _ (to_packet digits packet short is spells) = let long = long_text bytes one in absurd (omega (arith, long, short))
  replied_long _ _ (to_long_packet digits short is much) = let long = long_text bytes one in absurd (omega (arith, long, short))

pub replies_to_whole : (now : Standing) (bytes request reply : List ℕ) (next : Standing) → Shows bytes request → RepliesTo now bytes reply next → RepliesTo now request reply next
replies_to_whole now bytes request reply next (inl same) replies = subst (λ text. RepliesTo now text reply next) same replies
replies_to_whole now bytes request reply next (inr long) replies = replied_long now bytes request long.0 long.1 reply next replies

-- ---- steps

pub nothing_held : (held : Held) → held.bytes.items ≡ [] → held.room ≡ LINE_ROOM → held.due ≡ 0 → Holds [] held
nothing_held held none room due = of_line (lacks-none 10) due (record { bytes = none; room = room })

none_of_take : (n : ℕ) (part : List ℕ) → 0 < n → take n part ≡ [] → part ≡ []
none_of_take n part some none = let len = length-take n part in let empty = ap length none in nil_from_length part (omega (arith, len, empty, some))

pub no_part : (part : List ℕ) (held : Held) → Holds part held → held.bytes.items ≡ [] → part ≡ []
no_part part held (of_line lacks due up) none = none_of_take LINE_ROOM part (omega arith) (sym up.bytes ∙ none)
no_part part held (of_block head lines last has each lacks count more up) none = none_of_take (block_room head) part (omega arith) (sym up.bytes ∙ none)

-- more of a line
holds_more : (part bytes : List ℕ) (held held' : Held) → Lacks 10 bytes → ((most : ℕ) (text : List ℕ) → IsHeldUpTo most text held → IsHeldUpTo most (text ++ bytes) held')
    → held'.due ≡ held.due → Holds part held → Holds (part ++ bytes) held'
holds_more part bytes held held' lacks adds same (of_line lacks' due up) = of_line (lacks-append 10 part bytes lacks' lacks) (same ∙ due) (adds LINE_ROOM part up)
holds_more part bytes held held' lacks adds same (of_block head lines last has each lacks' count more up) =
    of_block head lines (last ++ bytes)
    (with_lines (part ++ bytes) head (lines ++ (last ++ bytes) ∷ []) has.is_head
    (ap (λ t. t ++ bytes) (has.whole ∙ ap (λ t. head_text head ++ t) (feeds_more lines last))
    ∙ (append_assoc (head_text head) (after_line_feeds lines ++ 10 ∷ last) bytes
    ∙ ap (λ t. head_text head ++ t) (append_assoc (after_line_feeds lines) (10 ∷ last) bytes ∙ sym (feeds_more lines (last ++ bytes))))))
    each (lacks-append 10 last bytes lacks' lacks) (omega (arith, count, same)) (omega (arith, more, same)) (adds (block_room head) part up)

pub added : {E : Type 0} (bytes : List ℕ) (held held' : Held) (result : Result (Unit {0}) E) → Lacks 10 bytes
    → OnOk result ((most : ℕ) (text : List ℕ) → IsHeldUpTo most text held → IsHeldUpTo most (text ++ bytes) held') → OnOk result (held'.due ≡ held.due)
    → OnOk result ((part : List ℕ) → Holds part held → Holds (part ++ bytes) held')
added bytes held held' (Ok done) lacks adds same = λ part holds. holds_more part bytes held held' lacks adds same holds
added bytes held held' (Err fault) lacks adds same = tt

-- the next line of a block
next_line : (part : List ℕ) (head : Head) (lines : List (List ℕ)) → IsHead head → part ≡ head_text head ++ after_line_feeds lines
    → HasHead (part ++ 10 ∷ []) head (after_line_feeds (lines ++ [] ∷ []))
next_line part head lines is whole =
    with_lines (part ++ 10 ∷ []) head (lines ++ [] ∷ []) is
    (ap (λ t. t ++ 10 ∷ []) whole ∙ (append_assoc (head_text head) (after_line_feeds lines) (10 ∷ []) ∙ ap (λ t. head_text head ++ t) (sym (feeds_more lines []))))

pub last_line_ended : (held : Held) → held.due ≡ 1 → (part : List ℕ) → Holds part held → HoldsAfterLine true part held
last_line_ended held one part (of_line lacks due up) = absurd (omega (arith, one, due))
last_line_ended held one part (of_block head lines last has each lacks count more up) =
    let len = length_push lines last in (
      is_block head (lines ++ last ∷ []) (record { has_head = has; are_lines = All-push (Lacks 10) lines last each lacks; count = omega (arith, len, count, one) }),
      block_shown part held head (after_line_feeds (lines ++ last ∷ [])) has up,
    )

pub line_ended : (held held' : Held) → 1 < held.due → held'.due ≡ held.due - 1 → ((most : ℕ) (text : List ℕ) → IsHeldUpTo most text held → IsHeldUpTo most (text ++ 10 ∷ []) held')
    → (part : List ℕ) → Holds part held → Holds (part ++ 10 ∷ []) held'
line_ended held held' several less adds part (of_line lacks due up) = absurd (omega (arith, several, due))
line_ended held held' several less adds part (of_block head lines last has each lacks count more up) =
    let len = length_push lines last in
    of_block head (lines ++ last ∷ []) [] (next_line part head (lines ++ last ∷ []) has.is_head has.whole) (All-push (Lacks 10) lines last each lacks) (lacks-none 10)
    (omega (arith, len, count, less, several)) (omega (arith, less, several)) (adds (block_room head) part up)

-- a line that begins no block
pub single_ended : (held : Held) (count : ℕ) → held.due ≡ 0 → IsCountAfter held.bytes.items count → count ≡ 0 → (part : List ℕ) → Holds part held → HoldsAfterLine true part held
single_ended held count none counts no_lines part (of_block head lines last has each lacks more some up) = absurd (omega (arith, none, some))
single_ended held count none counts no_lines part (of_line lacks due up) = (by_length (cases_lt LINE_ROOM (length part)), line_shown part held lacks up)
  where
    by_count : (bytes : List ℕ) (count : ℕ) → bytes ≡ part → IsCountAfter bytes count → count ≡ 0 → IsRequest part
    by_count bytes count same (of_no_head other) no_lines = is_line lacks (no_head part lacks (λ head is here. other head is (same ∙ here)))
    by_count bytes _ same (of_head head is here) no_lines =
        is_block head [] (record { has_head = with_lines part head [] is (sym same ∙ (here ∙ sym (append-nil (head_text head)))); are_lines = All-nil (Lacks 10); count = sym no_lines })

    by_length : (LINE_ROOM < length part) ⊎ (length part ≤ LINE_ROOM) → IsRequest part
    by_length (inl more) = is_line lacks (no_head-long part lacks (omega (arith, more)))
    by_length (inr all) = by_count held.bytes.items count (up.bytes ∙ take_all LINE_ROOM part all) counts no_lines

positive : (n : ℕ) → (n ≡ 0 → ⊥) → 0 < n
positive zero some = absurd (some refl)
positive (suc n) some = omega arith

-- a line that begins a block
pub block_begun : (held opened held' : Held) (count : ℕ) → held.due ≡ 0 → IsCountAfter held.bytes.items count → (count ≡ 0 → ⊥)
    → opened.bytes.items ≡ held.bytes.items → opened.room ≡ BLOCK_ROOM → held'.due ≡ count
    → ((most : ℕ) (text : List ℕ) → IsHeldUpTo most text opened → IsHeldUpTo most (text ++ 10 ∷ []) held')
    → (part : List ℕ) → Holds part held → Holds (part ++ 10 ∷ []) held'
block_begun held opened held' count none counts some bytes room due adds part (of_block head lines last has each lacks more several up) = absurd (omega (arith, none, several))
block_begun held opened held' count none counts some bytes room due adds part (of_line lacks no_block up) = by_count held.bytes.items count refl counts some due
  where
    by_count : (front : List ℕ) (count : ℕ) → held.bytes.items ≡ front → IsCountAfter front count → (count ≡ 0 → ⊥) → held'.due ≡ count → Holds (part ++ 10 ∷ []) held'
    by_count front count is (of_no_head other) some due = absurd (some refl)
    by_count front _ is (of_head head is_head here) some due =
        let short = short_head head is_head in
        let held_is : held.bytes.items ≡ head_text head = is ∙ here in
        let len = length-take LINE_ROOM part in
        let taken = ap length (sym up.bytes ∙ held_is) in
        let all : take LINE_ROOM part ≡ part = take_all LINE_ROOM part (omega (arith, short, len, taken)) in
        let part_is : part ≡ head_text head = sym all ∙ (sym up.bytes ∙ held_is) in
        let size = ap length part_is in
        of_block head [] [] (next_line part head [] is_head (part_is ∙ sym (append-nil (head_text head)))) (All-nil (Lacks 10)) (lacks-none 10)
        (omega (arith, due)) (omega (arith, due, positive head.count some))
        (adds (block_room head) part (record {
          bytes = bytes ∙ (held_is ∙ (sym part_is ∙ sym (take_all (block_room head) part (omega (arith, size)))));
          room = omega (arith, room, size);
        }))

-- ---- the end of the script

pub begins_part : (part : List ℕ) (held : Held) → Holds part held → BeginsRequest part
begins_part part held (of_line lacks due up) = in_line lacks
begins_part part held (of_block head lines last has each lacks count more up) =
    let len = length_push lines last in
    in_block head (lines ++ last ∷ []) has (All-push (Lacks 10) lines last each lacks) (omega (arith, len, count, more))

-- the last request, of which these bytes are kept
module _ (part : List ℕ) (head : Head) (lines : List (List ℕ)) (each : All (Lacks 10) lines) (is : IsHead head) where
  abbrev shut : List ℕ
  shut = head_text head ++ after_line_feeds lines

  whole_of : (last : List ℕ) → part ≡ head_text head ++ after_line_feeds (lines ++ last ∷ []) → part ≡ shut ++ 10 ∷ last
  whole_of last whole = whole ∙ (ap (λ t. head_text head ++ t) (feeds_more lines last) ∙ sym (append_assoc (head_text head) (after_line_feeds lines) (10 ∷ last)))

  -- its last line is empty, and no line
  cut_block : (bytes : List ℕ) → length lines ≤ head.count → part ≡ head_text head ++ after_line_feeds (lines ++ [] ∷ []) → Shows bytes shut → IsLastHeld part bytes
  cut_block bytes few whole shows = record {
    request = shut;
    begins = in_block head lines (with_lines shut head lines is refl) each few;
    whole = ap with_last_lf (whole_of [] whole) ∙ lf_there shut;
    shows = shows;
  }

  -- its last line has no LF
  open_block : (bytes : List ℕ) (byte : ℕ) (last : List ℕ) → Lacks 10 (byte ∷ last) → length lines < head.count
      → part ≡ head_text head ++ after_line_feeds (lines ++ (byte ∷ last) ∷ []) → Shows bytes part → IsLastHeld part bytes
  open_block bytes byte last lacks few whole shows =
      let len = length_push lines (byte ∷ last) in
      let cut : part ≡ (shut ++ 10 ∷ []) ++ byte ∷ last = whole_of (byte ∷ last) whole ∙ sym (append_assoc shut (10 ∷ []) (byte ∷ last)) in
      record {
        request = part;
        begins = in_block head (lines ++ (byte ∷ last) ∷ []) (with_lines part head (lines ++ (byte ∷ last) ∷ []) is whole) (All-push (Lacks 10) lines (byte ∷ last) each lacks) (omega (arith, len, few));
        whole = ap with_last_lf cut
            ∙ (lf_at_end (shut ++ 10 ∷ []) byte last
            ∙ (ap (λ t. (shut ++ 10 ∷ []) ++ t) (lf_added byte last lacks)
            ∙ (sym (append_assoc (shut ++ 10 ∷ []) (byte ∷ last) (10 ∷ [])) ∙ ap (λ t. t ++ 10 ∷ []) (sym cut))));
        shows = shows;
      }

-- a line that is not empty ends in its own last byte
ends_in_line : (front kept : List ℕ) (byte : ℕ) (last : List ℕ) → Lacks 10 (byte ∷ last) → front ++ byte ∷ last ≡ kept ++ 10 ∷ [] → ⊥
ends_in_line front kept byte [] lacks same = lacks 0 (omega arith) (same_from_push front kept byte 10 same).1
ends_in_line front kept byte (next ∷ last) lacks same =
    ends_in_line (front ++ byte ∷ []) kept next last (λ k inside. lacks (suc k) (omega arith)) (append_assoc front (byte ∷ []) (next ∷ last) ∙ same)

-- of a block that is held
module _ (part : List ℕ) (held : Held) (head : Head) (lines : List (List ℕ)) (each : All (Lacks 10) lines) (is : IsHead head) (up : IsHeldUpTo (block_room head) part held) where
  -- what is kept of a long one
  long_kept : (kept rest : List ℕ) → HasHead part head rest → held.bytes.items ≡ kept ++ 10 ∷ [] → block_room head < length part → IsTooLong kept
  long_kept kept rest has ends long =
      let taken : take (block_room head) part ≡ kept ++ 10 ∷ [] = sym up.bytes ∙ ends in
      let len = length-take-le (block_room head) part (omega (arith, long)) in
      let size = ap length taken ∙ length_push kept 10 in
      let whole : part ≡ kept ++ 10 ∷ drop (block_room head) part =
      sym (take-append-drop (block_room head) part) ∙ (ap (λ t. t ++ drop (block_room head) part) taken ∙ append_assoc kept (10 ∷ []) (drop (block_room head) part)) in
      long_beginning kept (10 ∷ drop (block_room head) part) head rest (subst (λ t. HasHead t head rest) whole has) (omega (arith, len, size))

  all_kept : (kept : List ℕ) → held.bytes.items ≡ kept ++ 10 ∷ [] → length part ≤ block_room head → part ≡ kept ++ 10 ∷ []
  all_kept kept ends all = sym (take_all (block_room head) part all) ∙ (sym up.bytes ∙ ends)

  -- without the LF after its lines, a long one is too long
  module _ (cut : part ≡ (head_text head ++ after_line_feeds lines) ++ 10 ∷ []) where
    long_cut : block_room head < length part → IsTooLong (head_text head ++ after_line_feeds lines)
    long_cut long =
        let size = ap length cut ∙ length_push (head_text head ++ after_line_feeds lines) 10 in
        long_part (head_text head ++ after_line_feeds lines) head (after_line_feeds lines) (with_lines (head_text head ++ after_line_feeds lines) head lines is refl) (omega (arith, size, long))

    cut_kept : (kept rest : List ℕ) → HasHead part head rest → held.bytes.items ≡ kept ++ 10 ∷ [] → (block_room head < length part) ⊎ (length part ≤ block_room head)
        → Shows kept (head_text head ++ after_line_feeds lines)
    cut_kept kept rest has ends (inl long) = inr (long_kept kept rest has ends long, long_cut long)
    cut_kept kept rest has ends (inr all) = inl ((same_from_push kept (head_text head ++ after_line_feeds lines) 10 10 (sym (all_kept kept ends all) ∙ cut)).0)

    cut_held : (rest : List ℕ) → HasHead part head rest → ((front : List ℕ) → held.bytes.items ≡ front ++ 10 ∷ [] → ⊥) → (block_room head < length part) ⊎ (length part ≤ block_room head)
        → Shows held.bytes.items (head_text head ++ after_line_feeds lines)
    cut_held rest has no_lf (inl long) = inr (subst IsTooLong (sym up.bytes) (long_front part (block_room head) head rest has (omega arith) (omega (arith, long))), long_cut long)
    cut_held rest has no_lf (inr all) = absurd (no_lf (head_text head ++ after_line_feeds lines) (up.bytes ∙ (take_all (block_room head) part all ∙ cut)))

  open_kept : (kept rest : List ℕ) (byte : ℕ) (last : List ℕ) → HasHead part head rest → Lacks 10 (byte ∷ last) → part ≡ ((head_text head ++ after_line_feeds lines) ++ 10 ∷ []) ++ byte ∷ last
      → held.bytes.items ≡ kept ++ 10 ∷ [] → (block_room head < length part) ⊎ (length part ≤ block_room head) → Shows kept part
  open_kept kept rest byte last has lacks cut ends (inl long) = inr (long_kept kept rest has ends long, long_part part head rest has (omega (arith, long)))
  open_kept kept rest byte last has lacks cut ends (inr all) =
      absurd (ends_in_line ((head_text head ++ after_line_feeds lines) ++ 10 ∷ []) kept byte last lacks (sym cut ∙ all_kept kept ends all))

  dropped_block : (kept last : List ℕ) → held.bytes.items ≡ kept ++ 10 ∷ [] → part ≡ head_text head ++ after_line_feeds (lines ++ last ∷ []) → Lacks 10 last → length lines < head.count
      → IsLastHeld part kept
  dropped_block kept [] ends whole lacks few =
      cut_block part head lines each is kept (omega (arith, few)) whole
      (cut_kept (whole_of part head lines each is [] whole) kept (after_line_feeds (lines ++ [] ∷ [])) (with_lines part head (lines ++ [] ∷ []) is whole) ends (cases_lt (block_room head) (length part)))
  dropped_block kept (byte ∷ last) ends whole lacks few =
      open_block part head lines each is kept byte last lacks few whole
      (open_kept kept (after_line_feeds (lines ++ (byte ∷ last) ∷ [])) byte last (with_lines part head (lines ++ (byte ∷ last) ∷ []) is whole) lacks
      (whole_of part head lines each is (byte ∷ last) whole ∙ sym (append_assoc (head_text head ++ after_line_feeds lines) (10 ∷ []) (byte ∷ last))) ends (cases_lt (block_room head) (length part)))

  kept_block : (last : List ℕ) → ((front : List ℕ) → held.bytes.items ≡ front ++ 10 ∷ [] → ⊥) → part ≡ head_text head ++ after_line_feeds (lines ++ last ∷ []) → Lacks 10 last → length lines < head.count
      → IsLastHeld part held.bytes.items
  kept_block [] no_lf whole lacks few =
      cut_block part head lines each is held.bytes.items (omega (arith, few)) whole
      (cut_held (whole_of part head lines each is [] whole) (after_line_feeds (lines ++ [] ∷ [])) (with_lines part head (lines ++ [] ∷ []) is whole) no_lf (cases_lt (block_room head) (length part)))
  kept_block (byte ∷ last) no_lf whole lacks few =
      open_block part head lines each is held.bytes.items byte last lacks few whole
      (block_shown part held head (after_line_feeds (lines ++ (byte ∷ last) ∷ [])) (with_lines part head (lines ++ (byte ∷ last) ∷ []) is whole) up)

kept_line : (part line : List ℕ) (held : Held) → part ≡ line → Lacks 10 part → IsHeldUpTo LINE_ROOM part held → (held.bytes.items ≡ [] → ⊥) → IsLastHeld part held.bytes.items
kept_line part [] held is lacks up some = absurd (some (up.bytes ∙ ap (take LINE_ROOM) is))
kept_line part (byte ∷ line) held is lacks up some = record {
  request = part;
  begins = in_line lacks;
  whole = ap with_last_lf is ∙ (lf_added byte line (subst (Lacks 10) is lacks) ∙ ap (λ t. t ++ 10 ∷ []) (sym is));
  shows = line_shown part held lacks up;
}

-- the last byte that is held is an LF, and dropped
dropped : (part : List ℕ) (held : Held) (kept : List ℕ) → held.bytes.items ≡ kept ++ 10 ∷ [] → Holds part held → IsLastHeld part kept
dropped part held kept ends (of_line lacks due up) =
    absurd (has_separator 10 kept [] (subst (Lacks 10) (sym up.bytes ∙ ends) (lacks-take part LINE_ROOM lacks)))
dropped part held kept ends (of_block head lines last has each lacks count more up) =
    dropped_block part held head lines each has.is_head up kept last ends has.whole lacks (omega (arith, count, more))

-- or it is none
kept_all : (part : List ℕ) (held : Held) → (held.bytes.items ≡ [] → ⊥) → ((front : List ℕ) → held.bytes.items ≡ front ++ 10 ∷ [] → ⊥) → Holds part held → IsLastHeld part held.bytes.items
kept_all part held some no_lf (of_line lacks due up) = kept_line part part held refl lacks up some
kept_all part held some no_lf (of_block head lines last has each lacks count more up) =
    kept_block part held head lines each has.is_head up last no_lf has.whole lacks (omega (arith, count, more))

pub at_end : (held : Held) (bytes : List ℕ) → IsWithoutLf held.bytes.items bytes → (part : List ℕ) → Holds part held → (held.bytes.items ≡ [] → ⊥) → IsLastHeld part bytes
at_end held bytes without part holds some = by held.bytes.items bytes refl without
  where
    by : (text bytes : List ℕ) → held.bytes.items ≡ text → IsWithoutLf text bytes → IsLastHeld part bytes
    by text _ is (had_lf front ends) = dropped part held front (is ∙ ends) holds
    by text _ is (had_none no_lf) = subst (IsLastHeld part) is (kept_all part held some (λ front ends. no_lf front (sym is ∙ ends)) holds)

-- ---- the LF at the end of a text, by the test for it

module _ (text shown needle : List ℕ) (r : Bool) (is : shown ≡ text) (ten : needle ≡ 10 ∷ []) (tested : r ≡ ends_with nat_eq shown needle) where
  tested_here : r ≡ ends_with nat_eq text (10 ∷ [])
  tested_here = subst (λ (n : List ℕ). r ≡ ends_with nat_eq text n) ten (subst (λ (s : List ℕ). r ≡ ends_with nat_eq s needle) is tested)

  pub lf_cut : (count : ℕ) (left : List ℕ) → count ≡ length text → r ≡ true → left ≡ take (count - 1) text → IsWithoutLf text left
  lf_cut count left same is_end left_is =
      subst (IsWithoutLf text) (ap (λ (n : ℕ). take (n - 1) text) (sym same) ∙ sym left_is)
      (had_lf (take (length text - 1) text) ((ends_is Decides-eqb text (10 ∷ []) r tested_here).0 is_end))

  pub lf_none : r ≡ false → IsWithoutLf text text
  lf_none not_end = had_none (λ front whole. both_ways r not_end ((ends_is Decides-eqb text (10 ∷ []) r tested_here).1 front whole))

-- whether nothing is held
pub none_held : (n : ℕ) (held : List ℕ) → n ≡ length held → true ≡ (n == 0) → held ≡ []
none_held n [] len empty = refl
none_held n (x ∷ held) len empty = let is = eqb-true n 0 (sym empty) in absurd (omega arith)

pub some_held : (n : ℕ) (held : List ℕ) → n ≡ length held → false ≡ (n == 0) → held ≡ [] → ⊥
some_held n held len empty none =
    let zero : n ≡ 0 = len ∙ ap length none in
    cc (empty ∙ ap (λ k. k == 0) zero)
