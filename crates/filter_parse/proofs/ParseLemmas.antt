-- A text has a tree or a fault, and never both.
use Rattle.std.proofs.Common.{◌≡◌, ◌<◌, ◌≤◌, ◌∙◌, ◌∷◌, ◌++◌, Err, List, None, Ok, Some, [], ap, append_assoc, arith, length, min, reverse, subst, sym, ℕ}
use Rattle.std.proofs.lemmas.List.{append-nil, map-append, reverse-append}
use Rattle.filter_tree.specs.Measure.{depth_of}
use Rattle.filter_tree.specs.Tree.{Tree}
use Rattle.filter_parse.specs.declared.fault.ParseFault.{ParseFault}
use Rattle.filter_parse.specs.declared.fault.ParseFault.TheVariants.{TooDeep}
use Rattle.filter_parse.specs.declared.item.Item.{Item}
use Rattle.filter_parse.specs.declared.token.Token.{Token}
use Rattle.filter_parse.specs.Fault.{HasFault, HasTree, IsFaultOf, IsFaultless, IsTreeOf, deep, faulty, own_fault, unexpected, unfinished}
use Rattle.filter_parse.specs.Grammar.{Spells}
use Rattle.filter_parse.specs.Laws.{HasOneTree, IsUnambiguous}
use Rattle.filter_parse.specs.body.Parser.{postfix_of}
use Rattle.filter_parse.proofs.Gathered.{with_tree}
use Rattle.filter_parse.specs.body.Postfix.{HasTree as HasPartsOfTree, depths_of, first_depth, tree_parts}
use Rattle.filter_parse.specs.Token.{Placed, kinds}
use Rattle.filter_parse.specs.body.Scan.{tokens_of}
use Rattle.filter_parse.proofs.RunLemmas.{run-spelt}
use Rattle.filter_parse.proofs.SpeltLemmas.{IsSpelt, spelt-run}
use Rattle.filter_parse.proofs.JudgeLemmas.{Says, postfix_of-says}
use Rattle.filter_parse.proofs.PostfixLemmas.{depths-tree, reverse-tree, same-tree}
use Rattle.filter_parse.proofs.ScanLemmas.{fault-by, fault-there, tree-by, tree-there}

pub unambiguous : IsUnambiguous
unambiguous tokens one other d e =
    let parts : Some (with_tree one []) ≡ Some (with_tree other []) = sym (run-spelt d) ∙ run-spelt e in
    let same : with_tree one [] ≡ with_tree other [] = cc in
    (same-tree one other [] [] (sym (reverse-tree one []) ∙ ap reverse same ∙ reverse-tree other [])).0

pub one-tree : HasOneTree
one-tree text one other has also =
    unambiguous (kinds (tokens_of text)) one other (tree-by text one has).spelt (tree-by text other also).spelt

pub fault-says : (text : List ℕ) (fault : ParseFault) → postfix_of text ≡ Err fault → HasFault text fault
fault-says text fault h = fault-there text fault (subst (Says text) h (postfix_of-says text))

-- no token of a faultless list is at fault
pub faultless-at : (start : List Token) (front more : List Placed) (next : Placed) → IsFaultless start (front ++ next ∷ more) →
    own_fault (reverse (kinds front) ++ start) next.token next.place ≡ None
faultless-at start [] more next f = f.0
faultless-at start (first ∷ front) more next f =
    subst (λ b. own_fault b next.token next.place ≡ None)
    (sym (ap (λ b. b ++ start) (reverse-append (first.token ∷ []) (kinds front)) ∙ append_assoc (reverse (kinds front)) (first.token ∷ []) start))
    (faultless-at (first.token ∷ start) front more next f.1)

pub kinds-split : (front more : List Placed) (next : Placed) → kinds (front ++ next ∷ more) ≡ (kinds front ++ next.token ∷ []) ++ kinds more
kinds-split front more next =
    map-append (λ (x : Placed). x.token) front (next ∷ more) ∙ sym (append_assoc (kinds front) (next.token ∷ []) (kinds more))

no-tree-at-fault : (text : List ℕ) (tokens : List Placed) (tree : Tree) (fault : ParseFault) → IsTreeOf tokens tree → IsFaultOf text tokens fault → ⊥
no-tree-at-fault text tokens tree fault t (unexpected front more next whole f v bad) =
    bad (kinds more, tree, subst (λ ts. Spells ts tree) (ap kinds whole ∙ kinds-split front more next) t.spelt)
no-tree-at-fault text tokens tree fault t (faulty front more next whole f v own) =
    let none = faultless-at [] front more next (subst (IsFaultless []) whole t.faultless) in
    let same = ap (λ b. own_fault b next.token next.place) (append-nil (reverse (kinds front))) in
    cc
no-tree-at-fault text tokens tree fault t (unfinished f v bad) = bad tree t.spelt
no-tree-at-fault text tokens tree fault t (deep {tree = other} f d below) =
    let same = ap depth_of (unambiguous (kinds tokens) tree other t.spelt d) in
    omega (arith, t.shallow)

pub tree-or-fault : (text : List ℕ) (tree : Tree) (fault : ParseFault) → HasTree text tree → HasFault text fault → ⊥
tree-or-fault text tree fault t f = no-tree-at-fault text (tokens_of text) tree fault (tree-by text tree t) (fault-by text fault f)

-- the parts that the parser puts out are those of the text's tree
parts-say : (text : List ℕ) (items : List Item) → postfix_of text ≡ Ok items → IsFaultless [] (tokens_of text) × IsSpelt (kinds (tokens_of text)) items
parts-say text items h =
    let s = subst (Says text) h (postfix_of-says text) in
    (s.0, spelt-run (kinds (tokens_of text)) items s.1)

pub parts-tree : (text : List ℕ) (items : List Item) → postfix_of text ≡ Ok items → HasPartsOfTree (reverse items)
parts-tree text items h = let s = parts-say text items h in (s.1.0, [], ap reverse s.1.2 ∙ reverse-tree s.1.0 [])

parts-depth : (tree : Tree) (items : List Item) → items ≡ with_tree tree [] → first_depth (depths_of items []) ≡ min (depth_of tree) 65
parts-depth tree items h = ap (λ is. first_depth (depths_of is [])) h ∙ ap first_depth (depths-tree tree [] [])

pub deep-says : (text : List ℕ) (items read : List Item) → postfix_of text ≡ Ok items → read ≡ items → 64 < first_depth (depths_of read []) →
    HasFault text (TooDeep (length text))
deep-says text items read h is below =
    let s = parts-say text items h in
    let same = ap (λ parts. first_depth (depths_of parts [])) is ∙ parts-depth s.1.0 items s.1.2 in
    fault-there text (TooDeep (length text)) (deep s.0 s.1.1 (omega arith))

pub tree-says : (text : List ℕ) (items read : List Item) (tree : Tree) (below : List Item) → postfix_of text ≡ Ok items → read ≡ items →
    first_depth (depths_of read []) ≤ 64 → reverse items ≡ tree_parts tree below → HasTree text tree
tree-says text items read tree below h is above taken =
    let s = parts-say text items h in
    let same = ap (λ parts. first_depth (depths_of parts [])) is ∙ parts-depth s.1.0 items s.1.2 in
    let one : s.1.0 ≡ tree = (same-tree s.1.0 tree [] below (sym (ap reverse s.1.2 ∙ reverse-tree s.1.0 []) ∙ taken)).0 in
    tree-there text tree
    (record {
      spelt = subst (λ t. Spells (kinds (tokens_of text)) t) one s.1.1;
      faultless = s.0;
      shallow = subst (λ t. depth_of t ≤ 64) one (omega arith);
    })
