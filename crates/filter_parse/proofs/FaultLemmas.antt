-- A text has at most one fault.
use Rattle.std.proofs.Common.{◌≡◌, ◌∙◌, ◌∷◌, ◌++◌, ◌⊎◌, List, None, Some, [], ap, append_assoc, inl, inr, length, refl, reverse, subst, sym, ℕ}
use Rattle.std.proofs.lemmas.List.{append-nil}
use Rattle.filter_tree.specs.Tree.{Tree}
use Rattle.filter_parse.specs.declared.fault.ParseFault.{ParseFault}
use Rattle.filter_parse.specs.declared.fault.ParseFault.TheVariants.{Syntax, TooDeep}
use Rattle.filter_parse.specs.declared.token.Token.{Token}
use Rattle.filter_parse.specs.Fault.{IsFaultOf, IsFaultless, deep, faulty, own_fault, unexpected, unfinished}
use Rattle.filter_parse.specs.Grammar.{IsViable, Spells}
use Rattle.filter_parse.specs.Laws.{HasOneFault}
use Rattle.filter_parse.specs.Token.{Placed, kinds}
use Rattle.filter_parse.specs.body.Scan.{tokens_of}
use Rattle.filter_parse.proofs.ParseLemmas.{faultless-at, kinds-split}
use Rattle.filter_parse.proofs.ScanLemmas.{fault-by}

viable-front : (front more : List Token) → IsViable (front ++ more) → IsViable front
viable-front front more (rest, tree, d) = (more ++ rest, tree, subst (λ ts. Spells ts tree) (append_assoc front more rest) d)

-- of two fronts of one list, one begins the other
abbrev IsBehind : List Placed → Placed → List Placed → Type 0
IsBehind front next longer = (between : List Placed) × (longer ≡ front ++ next ∷ between)

reduced_relation-fronts : (front other more less : List Placed) (next last : Placed) → front ++ next ∷ more ≡ other ++ last ∷ less →
    ((front ≡ other) × (next ≡ last)) ⊎ (IsBehind front next other ⊎ IsBehind other last front)
reduced_relation-fronts [] [] more less next last h = inl (refl, cc)
reduced_relation-fronts [] (o ∷ other) more less next last h =
    let same : next ≡ o = cc in inr (inl (other, ap (λ p. p ∷ other) (sym same)))
reduced_relation-fronts (f ∷ front) [] more less next last h =
    let same : f ≡ last = cc in inr (inr (front, ap (λ p. p ∷ front) same))
reduced_relation-fronts (f ∷ front) (o ∷ other) more less next last h =
    let same : f ≡ o = cc in
    let tails : front ++ next ∷ more ≡ other ++ last ∷ less = cc in
    elim (reduced_relation-fronts front other more less next last tails) [
      | inl e ↦ inl (ap (λ p. p ∷ front) same ∙ ap (λ ps. o ∷ ps) e.0, e.1)
      | inr b ↦ elim b [
        | inl w ↦ inr (inl (w.0, ap (λ ps. o ∷ ps) w.1 ∙ ap (λ p. p ∷ (front ++ next ∷ w.0)) (sym same)))
        | inr w ↦ inr (inr (w.0, ap (λ p. p ∷ front) same ∙ ap (λ ps. o ∷ ps) w.1))
      ]
    ]

-- the token behind a front does not fit, or has a fault of its own
abbrev Stops : List Placed → Placed → Type 0
Stops front next = IsViable (kinds front ++ next.token ∷ []) → own_fault (reverse (kinds front)) next.token next.place ≡ None → ⊥

-- and so no faultless and viable list begins so
stops-before : (front between : List Placed) (next : Placed) (longer : List Placed) → longer ≡ front ++ next ∷ between → Stops front next →
    IsFaultless [] longer → IsViable (kinds longer) → ⊥
stops-before front between next longer e stop f v =
    stop (viable-front (kinds front ++ next.token ∷ []) (kinds between)
    (subst IsViable (ap kinds e ∙ kinds-split front between next) v))
    (ap (λ b. own_fault b next.token next.place) (sym (append-nil (reverse (kinds front))))
    ∙ faultless-at [] front between next (subst (IsFaultless []) e f))

-- where a fault is found
data FoundAt (text : List ℕ) (fault : ParseFault) : Type 0 where
  found : (front more : List Placed) (next : Placed) → tokens_of text ≡ front ++ next ∷ more → IsFaultless [] front → IsViable (kinds front) →
      Stops front next → ((¬ IsViable (kinds front ++ next.token ∷ [])) × (fault ≡ Syntax next.place))
      ⊎ (IsViable (kinds front ++ next.token ∷ []) × (own_fault (reverse (kinds front)) next.token next.place ≡ Some fault)) →
      FoundAt text fault

some-one : (one other : ParseFault) → Some one ≡ Some other → one ≡ other
some-one one other h = cc

abbrev Why : ParseFault → List Placed → Placed → Type 0
Why fault front next =
    ((¬ IsViable (kinds front ++ next.token ∷ [])) × (fault ≡ Syntax next.place))
    ⊎ (IsViable (kinds front ++ next.token ∷ []) × (own_fault (reverse (kinds front)) next.token next.place ≡ Some fault))

same-cause : (one other : ParseFault) (front : List Placed) (next : Placed) → Why one front next → Why other front next → one ≡ other
same-cause one other front next why cause =
    elim why [
      | inl a ↦ elim cause [ inl b ↦ a.1 ∙ sym b.1 | inr b ↦ absurd (a.0 b.0) ]
      | inr a ↦ elim cause [ inl b ↦ absurd (b.0 a.0) | inr b ↦ some-one one other (sym a.1 ∙ b.1) ]
    ]

same-place : (text : List ℕ) (one other : ParseFault) → FoundAt text one → FoundAt text other → one ≡ other
same-place text one other (found front more next whole f v stop why) (found rest less last same g w halt cause) =
    elim (reduced_relation-fronts front rest more less next last (sym whole ∙ same)) [
      | inl e ↦ same-cause one other front next why (subst (λ p. Why other front p) (sym e.1) (subst (λ ps. Why other ps last) (sym e.0) cause))
      | inr b ↦ elim b [
        | inl x ↦ absurd (stops-before front x.0 next rest x.1 stop g w)
        | inr x ↦ absurd (stops-before rest x.0 last front x.1 halt f v)
      ]
    ]

-- the whole of the tokens is viable and faultless
abbrev IsClean : List ℕ → Type 0
IsClean text = IsFaultless [] (tokens_of text) × IsViable (kinds (tokens_of text))

clean-nowhere : (text : List ℕ) (fault : ParseFault) → IsClean text → FoundAt text fault → ⊥
clean-nowhere text fault c (found front more next whole f v stop why) = stops-before front more next (tokens_of text) whole stop c.0 c.1

-- the fault of a text without one at any token
abbrev AtEnd : List ℕ → ParseFault → Type 0
AtEnd text fault =
    (((tree : Tree) → ¬ Spells (kinds (tokens_of text)) tree) × (fault ≡ Syntax (length text)))
    ⊎ (((tree : Tree) × Spells (kinds (tokens_of text)) tree) × (fault ≡ TooDeep (length text)))

-- a fault is found at a token or at the end
at-token-or-end : (text : List ℕ) (fault : ParseFault) → IsFaultOf text (tokens_of text) fault → FoundAt text fault ⊎ (IsClean text × AtEnd text fault)
at-token-or-end text fault (unexpected front more next whole f v bad) =
    inl (found front more next whole f v (λ good clear. bad good) (inl (bad, refl)))
at-token-or-end text fault (faulty front more next whole f v own) =
    inl (found front more next whole f (viable-front (kinds front) (next.token ∷ []) v)
    (λ good clear. absurd (let e : Some fault ≡ None = sym own ∙ clear in cc)) (inr (v, own)))
at-token-or-end text fault (unfinished f v bad) = inr ((f, v), inl (bad, refl))
at-token-or-end text fault (deep {tree = tree} f d below) =
    inr ((f, ([], tree, subst (λ ts. Spells ts tree) (sym (append-nil (kinds (tokens_of text)))) d)), inr ((tree, d), refl))

same-end : (text : List ℕ) (first other : ParseFault) → AtEnd text first → AtEnd text other → first ≡ other
same-end text first other a b =
    elim a [
      | inl x ↦ elim b [ inl y ↦ x.1 ∙ sym y.1 | inr y ↦ absurd (x.0 y.0.0 y.0.1) ]
      | inr x ↦ elim b [ inl y ↦ absurd (y.0 x.0.0 x.0.1) | inr y ↦ x.1 ∙ sym y.1 ]
    ]

same-fault : (text : List ℕ) (first other : ParseFault) → IsFaultOf text (tokens_of text) first → IsFaultOf text (tokens_of text) other → first ≡ other
same-fault text first other h k =
    elim (at-token-or-end text first h) [
      | inl x ↦ elim (at-token-or-end text other k) [ inl y ↦ same-place text first other x y | inr y ↦ absurd (clean-nowhere text first y.0 x) ]
      | inr x ↦ elim (at-token-or-end text other k) [ inl y ↦ absurd (clean-nowhere text other x.0 y) | inr y ↦ same-end text first other x.1 y.1 ]
    ]

pub one-fault : HasOneFault
one-fault text first other h k = same-fault text first other (fault-by text first h) (fault-by text other k)
