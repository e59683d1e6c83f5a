-- Labels are added line by line: what the lines that are left give is what all lines give.
use Rattle.std.proofs.Common.{◌≡◌, ◌∙◌, ◌+◌, ◌||◌, Bool, IsSome, List, None, Option, Some, [], ap, cond, false, inl, inr, is_some, refl, sym, true, ◌∷◌, ℕ}
use Rattle.std.specs.List.{list_any}
use Rattle.std.specs.Map.{update}
use Rattle.std.specs.Str.{bytes_eq}
use Rattle.std.proofs.Math.Path.{fun_ext}
use Rattle.std.proofs.lemmas.Bool.{cond-false, cond-true}
use Rattle.std.proofs.lemmas.Cmp.{nat_list_eq_equiv}
use Rattle.std.proofs.lemmas.Slice.Eq.{bytes_eq-Decides}
use Rattle.bpf_asm.specs.declared.fault.AsmFault.{AsmFault}
use Rattle.bpf_asm.specs.declared.fault.AsmFault.TheVariants.{DoubleLabel}
use Rattle.bpf_asm.specs.Assembly.{places_of}
use Rattle.bpf_asm.specs.Statement.{Line, Statement}
use Rattle.bpf_asm.specs.Target.{count_of, doubles_fault, labels_from, place_in}
use Rattle.bpf_asm.specs.body.View.{Defines, IsDefinedAgain, UnlessMemory}

-- the first of two places, none where there is none
abbrev pub first_place : Option ℕ → Option ℕ → Option ℕ
first_place None second = second
first_place (Some place) second = Some place

-- these places are those of the lines so far: names, the fault and the places of all lines are what is known of the
-- lines so far and what the lines that are left give
pub record Tracks (places : List ℕ → Option ℕ) (whole left : List Line) (n place : ℕ) : Type 0 where
  pub earlier : List (List ℕ)
  pub names : (name : List ℕ) → list_any (bytes_eq name) earlier ≡ is_some (places name)
  pub fault : doubles_fault earlier n left ≡ doubles_fault [] 1 whole
  pub found : (name : List ℕ) → first_place (places name) (place_in (labels_from place left) name) ≡ places_of whole name

same_names : (name other : List ℕ) → bytes_eq other name ≡ bytes_eq name other
same_names name other = nat_list_eq_equiv.symm other name

module _ (places after : List ℕ → Option ℕ) (whole left : List Line) (statement : Option Statement) (n place : ℕ) where
  unlabelled : Tracks places whole (record { label = None; statement = statement } ∷ left) n place → ((name : List ℕ) → after name ≡ places name) → Tracks after whole left (n + 1) (place + count_of statement)
  unlabelled tracks same = record {
    earlier = tracks.earlier;
    names = λ name. tracks.names name ∙ ap is_some (sym (same name));
    fault = tracks.fault;
    found = λ name. ap (λ own. first_place own (place_in (labels_from (place + count_of statement) left) name)) (same name) ∙ tracks.found name;
  }

  module _ (name : List ℕ) (tracks : Tracks places whole (record { label = Some name; statement = statement } ∷ left) n place) where
    names_more : (other : List ℕ) (same : Bool) → (same || list_any (bytes_eq other) tracks.earlier) ≡ is_some (cond same (Some place) (places other))
    names_more other true = refl
    names_more other false = tracks.names other

    found_more : (other : List ℕ) (same : Bool) → (same ≡ true → places other ≡ None) → first_place (cond same (Some place) (places other)) (place_in (labels_from (place + count_of statement) left) other) ≡ first_place (places other) (cond same (Some place) (place_in (labels_from (place + count_of statement) left) other))
    found_more other true absent = ap (λ own. first_place own (Some place)) (sym (absent refl))
    found_more other false absent = refl

    labelled : places name ≡ None → ((other : List ℕ) → after other ≡ update bytes_eq places name (Some place) other) → Tracks after whole left (n + 1) (place + count_of statement)
    labelled absent updates = record {
      earlier = name ∷ tracks.earlier;
      names = λ other. rw (updates other, same_names name other) (names_more other (bytes_eq name other));
      fault =
          sym (cond-false (list_any (bytes_eq name) tracks.earlier) (Some (DoubleLabel n)) (doubles_fault (name ∷ tracks.earlier) (n + 1) left) (tracks.names name ∙ ap is_some absent))
          ∙ tracks.fault;
      found = λ other.
          ap (λ own. first_place own (place_in (labels_from (place + count_of statement) left) other)) (updates other)
          ∙ found_more other (bytes_eq name other) (λ same. ap places (sym ((bytes_eq-Decides name other).0 same)) ∙ absent)
          ∙ ap (λ same. first_place (places other) (cond same (Some place) (place_in (labels_from (place + count_of statement) left) other))) (sym (same_names name other))
          ∙ tracks.found other;
    }

    pub tracks_again : IsSome (places name) → doubles_fault [] 1 whole ≡ Some (DoubleLabel n)
    tracks_again again =
        sym tracks.fault
        ∙ cond-true (list_any (bytes_eq name) tracks.earlier) (Some (DoubleLabel n)) (doubles_fault (name ∷ tracks.earlier) (n + 1) left) (tracks.names name ∙ again)

  pub tracks_more : (label : Option (List ℕ)) → Tracks places whole (record { label = label; statement = statement } ∷ left) n place → Defines places label place after → Tracks after whole left (n + 1) (place + count_of statement)
  tracks_more None tracks defines = unlabelled tracks defines
  tracks_more (Some name) tracks defines = labelled name tracks defines.0 defines.1

-- a name defined again is the first such fault of all lines, unless memory was refused
pub tracks_fault : (places : List ℕ → Option ℕ) (whole left : List Line) (statement : Option Statement) (n place : ℕ) (label : Option (List ℕ)) (fault : AsmFault) → Tracks places whole (record { label = label; statement = statement } ∷ left) n place → IsDefinedAgain places label n fault → UnlessMemory fault (doubles_fault [] 1 whole)
tracks_fault places whole left statement n place None fault tracks again = absurd again
tracks_fault places whole left statement n place (Some name) fault tracks (inl refused) = inl refused
tracks_fault places whole left statement n place (Some name) fault tracks (inr (known, is)) =
    inr (tracks_again places places whole left statement n place name tracks known ∙ ap Some (sym is))

no_later : (place : Option ℕ) → first_place place None ≡ place
no_later None = refl
no_later (Some place) = refl

pub tracks_all : (places : List ℕ → Option ℕ) (whole : List Line) (n place : ℕ) → Tracks places whole [] n place → places ≡ places_of whole
tracks_all places whole n place tracks = fun_ext (λ name. sym (no_later (places name)) ∙ tracks.found name)
