-- What the parser makes of the tokens of a text is what the definitions say of the text.
use Rattle.std.proofs.Common.{◌≡◌, ◌∙◌, ◌∷◌, ◌++◌, Err, List, None, Ok, Option, Result, Some, [], ap, append_assoc, length, option_and_then, refl, reverse, subst, sym, ℕ}
use Rattle.std.proofs.lemmas.List.{append-nil, map-append, reverse-append}
use Rattle.filter_parse.specs.declared.fault.ParseFault.{ParseFault}
use Rattle.filter_parse.specs.declared.item.Item.{Item}
use Rattle.filter_parse.specs.declared.state.State.TheVariants.{Expects}
use Rattle.filter_parse.specs.declared.token.Token.{Token}
use Rattle.filter_parse.specs.Fault.{IsFaultOf, IsFaultless, faulty, open_brackets, own_fault, unexpected, unfinished}
use Rattle.filter_parse.specs.Grammar.{IsViable, Spells}
use Rattle.filter_parse.specs.body.Parser.{Parsing, accepted, at_end, fault_in, judged_by, parsing, passed_on, postfix_from, reduced, shifted, state_of}
use Rattle.filter_parse.proofs.Gathered.{and_then-same, and_then-twice, run, with_tree}
use Rattle.filter_parse.specs.Token.{Placed, kinds}
use Rattle.filter_parse.specs.body.Scan.{tokens_of}
use Rattle.filter_parse.proofs.RunLemmas.{run-spelt}
use Rattle.filter_parse.proofs.SpeltLemmas.{spelt-run}
use Rattle.filter_parse.proofs.CloseLemmas.{IsProper, IsProperIfAny, close, step-proper}
use Rattle.filter_parse.proofs.PrecedeLemmas.{Precedes, PrecedesIfAny, own_fault-seen, step-precedes}

abbrev pub beginning : Parsing
beginning = parsing Expects [] []

-- the parser behind some tokens
abbrev pub after : List Token → Parsing → Option Parsing
after [] parser = Some parser
after (token ∷ rest) parser = option_and_then (after rest) (shifted token (reduced (Some token) parser))

run-append : (front more : List Token) (parser : Parsing) → run (front ++ more) parser ≡ option_and_then (run more) (after front parser)
run-append [] more parser = refl
run-append (token ∷ front) more parser =
    and_then-twice (run (front ++ more)) (after front) (run more) (run-append front more) (shifted token (reduced (Some token) parser))

after-push : (front : List Token) (token : Token) (parser : Parsing) →
    after (front ++ token ∷ []) parser ≡ option_and_then (λ t. shifted token (reduced (Some token) t)) (after front parser)
after-push [] token parser = and_then-same (after []) (λ s. refl) (shifted token (reduced (Some token) parser))
after-push (first ∷ front) token parser =
    and_then-twice (after (front ++ token ∷ [])) (after front) (λ s. shifted token (reduced (Some token) s)) (after-push front token)
    (shifted first (reduced (Some first) parser))

-- the parser can go on, so what led to it is viable
viable-after : (front : List Token) (parser : Parsing) → after front beginning ≡ Some parser → IsProper parser → IsViable front
viable-after front parser h p =
    let c = close parser p in
    let e : run (front ++ c.0) beginning ≡ Some c.1.0 = run-append front c.0 beginning ∙ ap (option_and_then (run c.0)) h ∙ c.1.1 in
    let s = spelt-run (front ++ c.0) c.1.0 e in
    (c.0, s.0, s.1)

-- where the parser stops nothing is viable
unviable-after : (front : List Token) → after front beginning ≡ None → ¬ IsViable front
unviable-after front h (more, tree, d) =
    let e : run (front ++ more) beginning ≡ None = run-append front more beginning ∙ ap (option_and_then (run more)) h in
    let f : run (front ++ more) beginning ≡ Some (with_tree tree []) = run-spelt d in
    cc

IsFaultless-push : (start : List Token) (front : List Placed) (next : Placed) → IsFaultless start front →
    own_fault (reverse (kinds front) ++ start) next.token next.place ≡ None → IsFaultless start (front ++ next ∷ [])
IsFaultless-push start [] next f h = (h, tt)
IsFaultless-push start (first ∷ front) next f h = (
  f.0,
  IsFaultless-push (first.token ∷ start) front next f.1
      (subst (λ b. own_fault b next.token next.place ≡ None)
      (ap (λ b. b ++ start) (reverse-append (first.token ∷ []) (kinds front)) ∙ append_assoc (reverse (kinds front)) (first.token ∷ []) start) h),
)

module _ (text : List ℕ) where
  -- what an outcome of the parser says of the text
  abbrev pub Says : Result (List Item) ParseFault → Type 0
  Says (Ok items) = IsFaultless [] (tokens_of text) × (run (kinds (tokens_of text)) beginning ≡ Some items)
  Says (Err fault) = IsFaultOf text (tokens_of text) fault

  ending-says : (front : List Placed) (parser : Parsing) → tokens_of text ≡ front → after (kinds front) beginning ≡ Some parser → IsProper parser →
      IsFaultless [] front → (found : Option (List Item)) → accepted (reduced None parser) ≡ found → Says (at_end (length text) found)
  ending-says front parser whole h p f (Some items) e = (
    subst (IsFaultless []) (sym whole) f,
    ap (λ ts. run (kinds ts) beginning) whole ∙ ap (λ ts. run ts beginning) (sym (append-nil (kinds front)))
        ∙ run-append (kinds front) [] beginning ∙ ap (option_and_then (run [])) h ∙ e,
  )
  ending-says front parser whole h p f None e =
      unfinished (subst (IsFaultless []) (sym whole) f) (subst (λ ts. IsViable (kinds ts)) (sym whole) (viable-after (kinds front) parser h p))
      (λ tree d.
      let c : run (kinds front ++ []) beginning ≡ None = run-append (kinds front) [] beginning ∙ ap (option_and_then (run [])) h ∙ e in
      let g : run (kinds front ++ []) beginning ≡ Some (with_tree tree []) =
      ap (λ ts. run ts beginning) (append-nil (kinds front)) ∙ run-spelt (subst (λ ts. Spells (kinds ts) tree) whole d) in
      cc)

  after-next : (front : List Placed) (next : Placed) (parser : Parsing) (found : Option Parsing) → after (kinds front) beginning ≡ Some parser →
      shifted next.token (reduced (Some next.token) parser) ≡ found → after (kinds front ++ next.token ∷ []) beginning ≡ found
  after-next front next parser found h e =
      after-push (kinds front) next.token beginning
      ∙ ap (option_and_then (λ t. shifted next.token (reduced (Some next.token) t))) h ∙ e

  -- what is known of the tokens before a place
  abbrev Reaches : List Placed → List Token → Parsing → Type 0
  Reaches front before parser =
      (before ≡ reverse (kinds front)) × (after (kinds front) beginning ≡ Some parser) × IsProper parser × Precedes (state_of parser) before × IsFaultless [] front

  step-says : (front more : List Placed) (next : Placed) (before : List Token) (parser : Parsing) → tokens_of text ≡ front ++ next ∷ more → Reaches front before parser →
      (found : Option Parsing) → shifted next.token (reduced (Some next.token) parser) ≡ found →
      (own : Option ParseFault) → fault_in (state_of (reduced (Some next.token) parser)) (open_brackets before) next.token next.place ≡ own →
      IsProperIfAny found → PrecedesIfAny found (next.token ∷ before) →
      ((s : Parsing) → Reaches (front ++ next ∷ []) (next.token ∷ before) s → Says (postfix_from more (length text) (open_brackets (next.token ∷ before)) s)) →
      Says (passed_on (postfix_from more (length text) (open_brackets (next.token ∷ before))) (judged_by own next.place found))
  step-says front more next before parser whole r None e own o p q go =
      unexpected front more next whole r.4 (viable-after (kinds front) parser r.1 r.2)
      (unviable-after (kinds front ++ next.token ∷ []) (after-next front next parser None r.1 e))
  step-says front more next before parser whole r (Some s) e (Some fault) o p q go =
      faulty front more next whole r.4 (viable-after (kinds front ++ next.token ∷ []) s (after-next front next parser (Some s) r.1 e) p)
      (ap (λ b. own_fault b next.token next.place) (sym r.0)
      ∙ own_fault-seen before next.token next.place (open_brackets before) parser s r.3 refl e ∙ o)
  step-says front more next before parser whole r (Some s) e None o p q go =
      go s (
        ap (λ b. next.token ∷ b) r.0 ∙ sym (ap reverse (map-append (λ (x : Placed). x.token) front (next ∷ [])) ∙ reverse-append (kinds front) (next.token ∷ [])),
        ap (λ ts. after ts beginning) (map-append (λ (x : Placed). x.token) front (next ∷ [])) ∙ after-next front next parser (Some s) r.1 e,
        p,
        q,
        IsFaultless-push [] front next r.4
            (ap (λ b. own_fault b next.token next.place) (append-nil (reverse (kinds front)) ∙ sym r.0)
            ∙ own_fault-seen before next.token next.place (open_brackets before) parser s r.3 refl e ∙ o),
      )

  postfix_from-says : (more front : List Placed) (before : List Token) (parser : Parsing) → tokens_of text ≡ front ++ more → Reaches front before parser →
      Says (postfix_from more (length text) (open_brackets before) parser)
  postfix_from-says [] front before parser whole r =
      ending-says front parser (whole ∙ append-nil front) r.1 r.2 r.4 (accepted (reduced None parser)) refl
  postfix_from-says (next ∷ more) front before parser whole r =
      step-says front more next before parser whole r (shifted next.token (reduced (Some next.token) parser)) refl
      (fault_in (state_of (reduced (Some next.token) parser)) (open_brackets before) next.token next.place) refl
      (step-proper next.token parser r.2) (step-precedes before next.token parser r.3)
      (λ s reaches. postfix_from-says more (front ++ next ∷ []) (next.token ∷ before) s (whole ∙ sym (append_assoc front (next ∷ []) more)) reaches)

  pub postfix_of-says : Says (postfix_from (tokens_of text) (length text) 0 beginning)
  postfix_of-says = postfix_from-says (tokens_of text) [] [] beginning refl (refl, refl, tt, (refl, refl), tt)
