-- The request in the words of the program.
use Rattle.std.specs.Prelude.{◌≡◌, ◌∷◌, ◌^◌, ◌<◌, ◌≤◌, Bool, List, [], codes, false, true, ℕ}
use Rattle.std.specs.Str.Parse.{IsNumeral, digits_value, without_leading_plus}
use Rattle.bench_threads.specs.declared.placing.Placing.{Placing}
use Rattle.bench_threads.specs.declared.request.Request.{Request}
use Rattle.bench_threads.specs.Line.{word_of}
use Rattle.versions.specs.declared.layout.TheConstants.{WORKERS}

-- a text is a number in decimal digits; leading zeros and a plus sign in front are allowed
pub record IsThreads (text : List ℕ) (threads : ℕ) : Type 0 where
  pub digits : IsNumeral 10 (without_leading_plus text)
  pub threads_are : threads ≡ digits_value 10 (without_leading_plus text)
  pub at_least_one : 1 ≤ threads
  pub at_most : threads ≤ WORKERS

pub record IsRounds (text : List ℕ) (rounds : ℕ) : Type 0 where
  pub digits : IsNumeral 10 (without_leading_plus text)
  pub rounds_are : rounds ≡ digits_value 10 (without_leading_plus text)
  pub at_most : rounds < 2 ^ 32

abbrev pub IsPlacingWord : List ℕ → Placing → Type 0
IsPlacingWord text placing = text ≡ word_of placing

-- the first three words ask for these threads, rounds and placing
pub record AreWordsOf (threads_text rounds_text placing_text : List ℕ) (request : Request) : Type 0 where
  pub threads : IsThreads threads_text request.threads
  pub rounds : IsRounds rounds_text request.rounds
  pub placing : IsPlacingWord placing_text request.placing

-- the words after them
abbrev pub time_words : Bool → List (List ℕ)
time_words false = []
time_words true = codes "--time" ∷ []

-- the words are this request
pub record IsRequest (words : List (List ℕ)) (request : Request) : Type 0 where
  pub threads_text : List ℕ
  pub rounds_text : List ℕ
  pub placing_text : List ℕ
  pub words_are : words ≡ threads_text ∷ (rounds_text ∷ (placing_text ∷ time_words request.is_timed))
  pub in_front : AreWordsOf threads_text rounds_text placing_text request
