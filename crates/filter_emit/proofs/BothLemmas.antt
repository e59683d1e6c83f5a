-- Two pieces, of which the first one's yes, or no, is bound between them.
use Rattle.std.proofs.Common.{◌≡◌, ◌+◌, ◌≤◌, List, [], ℕ}
use Rattle.filter_emit.specs.Fixups.{IsBound, LabelValue}
use Rattle.filter_emit.specs.Pieces.{Meaning, Writes}
use Rattle.filter_emit.proofs.GuardLemmas.{Guards-bound, Guards-writes}
use Rattle.filter_emit.proofs.WritesLemmas.{Writes-not}

-- the meaning with its two targets exchanged
abbrev swapped : Meaning → Meaning
swapped means at_yes at_no words = means at_no at_yes words

pub Writes-and : {one two both : Meaning} {v w : ℕ} {c0 c1 c2 c3 : List ℕ} {on on' y y' n n' n'' : LabelValue} → on.fixups ≡ [] → on.by ≤ n.by
    → ((at_yes at_no mid words : List ℕ) → one mid at_no words → two at_yes at_no mid → both at_yes at_no words)
    → Writes one v c0 c1 on on' n n' → IsBound on'.fixups c1 c2 → Writes two w c2 c3 y y' n' n'' → Writes both (v + w) c0 c3 y y' n n''
Writes-and {n = n} empty short and first binds second = Guards-writes and (Guards-bound empty short first binds) second

pub Writes-or : {one two both : Meaning} {v w : ℕ} {c0 c1 c2 c3 : List ℕ} {on on' y y' y'' n n' : LabelValue} → on.fixups ≡ [] → on.by ≤ y.by
    → ((at_yes at_no mid words : List ℕ) → one at_yes mid words → two at_yes at_no mid → both at_yes at_no words)
    → Writes one v c0 c1 y y' on on' → IsBound on'.fixups c1 c2 → Writes two w c2 c3 y' y'' n n' → Writes both (v + w) c0 c3 y y'' n n'
Writes-or {one} {two} {both} empty short or first binds second =
    let turned : Writes (swapped both) _ _ _ _ _ _ _ = Writes-and {one = swapped one} {two = swapped two} {both = swapped both} empty short (λ at_no at_yes mid words o t. or at_yes at_no mid words o t)
    (Writes-not (λ at_yes at_no words m. m) first) binds (Writes-not (λ at_yes at_no words m. m) second) in
    Writes-not (λ at_yes at_no words m. m) turned
