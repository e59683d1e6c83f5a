-- How two configurations differ that are alike: in the words of one program at most.
use Rattle.std.specs.Prelude.{◌≡◌, ◌+◌, ◌++◌, ◌∷◌, List, MatchOption, length, map, ℕ}
use Rattle.std.specs.List.{filter_map, flat_map}
use Rattle.bpf_verify.specs.Program.{ProgramValue}
use Rattle.member_group.specs.declared.member.Member.{Member}
use Rattle.config_image.specs.Pooled.{parts_of}
use Rattle.retire.specs.declared.diff.Walk.{Walk}

abbrev pub words_in : List ProgramValue → List (List ℕ)
words_in programs = map (λ (program : ProgramValue). program.words) programs

abbrev pub filters_in : List (Member ProgramValue) → List (List ℕ)
filters_in members = words_in (filter_map (λ member. member.filter) members)

-- how many pages programs take
abbrev pub pages_in : List (List ℕ) → ℕ
pages_in programs = length (flat_map parts_of programs)

-- the one that has other words has these, as many as there, and so many pages are before its own
pub record DifferInOne (programs others : List (List ℕ)) (words : List ℕ) (at : ℕ) : Type 0 where
  pub done : List (List ℕ)
  pub old : List ℕ
  pub rest : List (List ℕ)
  pub programs_are : programs ≡ done ++ words ∷ rest
  pub others_are : others ≡ done ++ old ∷ rest
  pub sized : length words ≡ length old
  pub before : at ≡ pages_in done

-- programs that a walk has passed on both sides
pub record IsPassed (walk : Walk) (programs others : List (List ℕ)) : Type 0 where
  pub counted : walk.pages ≡ pages_in programs
  pub differ : MatchOption walk.differs (programs ≡ others) (λ one. DifferInOne programs others one.0.now one.1)

-- a walk goes on over more of them
pub record GoesOn (before after : Walk) (programs others : List (List ℕ)) : Type 0 where
  pub counted : after.pages ≡ before.pages + pages_in programs
  pub passed : (done others_done : List (List ℕ)) → IsPassed before done others_done → IsPassed after (done ++ programs) (others_done ++ others)
