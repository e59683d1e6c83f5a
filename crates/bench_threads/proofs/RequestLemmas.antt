-- Words that are a request.
use Rattle.std.proofs.Common.{◌≡◌, ◌∙◌, ◌∷◌, ◌<◌, ◌≤◌, Bool, IfSome, List, MatchOption, None, Option, Some, [], ap, arith, get_or, length, map, subst, sym, ℕ}
use Rattle.bench_threads.specs.declared.request.Request.{Request}
use Rattle.bench_threads.specs.Request.{AreWordsOf, IsRequest, IsRounds, IsThreads, time_words}

pub four_words : {X : Type 0} (text_of : X → List ℕ) (words : List X) (a b c d : X) → 4 ≤ length words → length words < 5
    → a ≡ get_or words 0 a → b ≡ get_or words 1 b → c ≡ get_or words 2 c → d ≡ get_or words 3 d
    → map text_of words ≡ text_of a ∷ (text_of b ∷ (text_of c ∷ (text_of d ∷ [])))
four_words text_of [] a b c d many few is_a is_b is_c is_d = absurd (omega arith)
four_words text_of (w ∷ []) a b c d many few is_a is_b is_c is_d = absurd (omega arith)
four_words text_of (w ∷ (x ∷ [])) a b c d many few is_a is_b is_c is_d = absurd (omega arith)
four_words text_of (w ∷ (x ∷ (y ∷ []))) a b c d many few is_a is_b is_c is_d = absurd (omega arith)
four_words text_of (w ∷ (x ∷ (y ∷ (z ∷ [])))) a b c d many few is_a is_b is_c is_d = cc
four_words text_of (w ∷ (x ∷ (y ∷ (z ∷ (v ∷ rest))))) a b c d many few is_a is_b is_c is_d = absurd (omega arith)

same_front : (a b c threads rounds placing : List ℕ) (rest later : List (List ℕ)) → a ∷ (b ∷ (c ∷ rest)) ≡ threads ∷ (rounds ∷ (placing ∷ later))
    → (a ≡ threads) × (b ≡ rounds) × (c ≡ placing)
same_front a b c threads rounds placing rest later same = (cc, cc, cc)

-- of words whose first three are no request
no_request : (words : List (List ℕ)) (a b c : List ℕ) (rest : List (List ℕ)) → words ≡ a ∷ (b ∷ (c ∷ rest))
    → ((request : Request) → AreWordsOf a b c request → ⊥) → (request : Request) → IsRequest words request → ⊥
no_request words a b c rest are none request is =
    let same = same_front a b c is.threads_text is.rounds_text is.placing_text rest (time_words request.is_timed) (sym are ∙ is.words_are) in
    none request (record {
      threads = subst (λ (text : List ℕ). IsThreads text request.threads) (sym same.0) is.in_front.threads;
      rounds = subst (λ (text : List ℕ). IsRounds text request.rounds) (sym same.1) is.in_front.rounds;
      placing = same.2 ∙ is.in_front.placing;
    })

pub request_exact : (words : List (List ℕ)) (a b c : List ℕ) (is_timed : Bool) (found : Option Request) → words ≡ a ∷ (b ∷ (c ∷ time_words is_timed))
    → MatchOption found ((request : Request) → AreWordsOf a b c request → ⊥) (AreWordsOf a b c) → IfSome found (λ request. request.is_timed ≡ is_timed)
    → MatchOption found ((request : Request) → IsRequest words request → ⊥) (IsRequest words)
request_exact words a b c is_timed None are none timed = no_request words a b c (time_words is_timed) are none
request_exact words a b c is_timed (Some request) are front timed = record {
  threads_text = a;
  rounds_text = b;
  placing_text = c;
  words_are = are ∙ ap (λ (asked : Bool). a ∷ (b ∷ (c ∷ time_words asked))) (sym timed);
  in_front = front;
}
