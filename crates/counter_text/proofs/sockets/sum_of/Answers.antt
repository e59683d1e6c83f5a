use Rattle.std.proofs.Common.{◌≡◌, ◌≢◌, ◌≤◌, ◌+◌, ◌==◌, ◌∷◌, Bool, List, [], ap, arith, drop, false, length, refl, rules, suc, take, zero, ℕ}
use Rattle.std.specs.Borrow.{Bor}
use Rattle.counter_text.proofs.DropLemmas.{AreSummed, no_count, one_more, text_at, texts, texts-next, texts-split, too_great}
use Rattle.counter_text.proofs.sockets.sum_of.Goals as goal

all_taken : {X : Type 0} (xs : List X) (n : ℕ) → length xs ≤ n → take n xs ≡ xs
all_taken [] zero all = refl
all_taken [] (suc n) all = refl
all_taken (x ∷ xs) zero all = absurd (omega arith)
all_taken (x ∷ xs) (suc n) all = ap (λ rest. x ∷ rest) (all_taken xs n (omega arith))

not_empty : (items : List (Bor (List ℕ))) {empty : Bool} → empty ≡ (length items == 0) → empty ≡ false → texts items ≢ []
not_empty [] is not is_not = cc
not_empty (x ∷ items) is not is_not = cc

pub returns-in_default : goal.returns-in_default
returns-in_default c =
    let items = c.args.columns.now in
    let i = c.loop-column.column-index in
    no_count (texts items) (texts (take i items)) (texts (drop (i + 1) items)) (text_at items i) (texts-split items i c.loop-column-test.true) c.in_default.ensures

pub returns-in_default-checked_add : goal.returns-in_default-checked_add
returns-in_default-checked_add c =
    let items = c.args.columns.now in
    let i = c.loop-column.column-index in
    too_great (texts items) (texts (take i items)) (texts (drop (i + 1) items)) (text_at items i) (texts-split items i c.loop-column-test.true)
    c.loop-column.sum c.in-Some.number c.loop-column.invariant (search rules) c.in-Some.ensures (search rules)

pub loop-column-preserved : goal.loop-column-preserved
loop-column-preserved c =
    let items = c.args.columns.now in
    let i = c.loop-column.column-index in
    let more = one_more (texts (take i items)) c.loop-column.sum (text_at items i) c.in-Some.number c.in-Some-checked_add.more c.loop-column.invariant (search rules) c.in-Some.ensures
    (search rules) (search rules) in
    rw (texts-next items i c.loop-column-test.true) more

pub returns : goal.returns
returns c =
    let items = c.args.columns.now in
    let whole : take c.loop-column.column-index items ≡ items = all_taken items c.loop-column.column-index c.loop-column-test.false in
    let all : AreSummed (texts items) c.loop-column.sum = rw whole at c.loop-column.invariant in
    record { some = not_empty items (c.is_empty.ensures) (c.if-is_empty.false); counts = all.counts; sum = all.sum; fits = all.fits }
