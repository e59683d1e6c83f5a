-- Configurations that are alike: their rows differ in the pages that they name, and in nothing else.
use Rattle.std.specs.Prelude.{◌≡◌, ◌∷◌, List, None, Option, Some, [], length}
use Rattle.bpf_verify.specs.Program.{ProgramValue}
use Rattle.ipv4_fields.specs.Endpoint.{endpoint_number}
use Rattle.member_group.specs.declared.member.Member.{Member}
use Rattle.config_image.specs.Image.{Group}
use Rattle.versions.specs.declared.view.OperatorView.{OperatorView}
use Rattle.read_section.specs.Operator.{IsCurrent}

-- there is a program on both sides, of as many words, or on neither
abbrev pub AreOfOneLength : Option ProgramValue → Option ProgramValue → Type 0
AreOfOneLength None None = Unit {0}
AreOfOneLength None (Some other) = ⊥
AreOfOneLength (Some program) None = ⊥
AreOfOneLength (Some program) (Some other) = length program.words ≡ length other.words

-- members that differ in the words of their filters alone
pub record AreAlikeMembers (member other : Member ProgramValue) : Type 0 where
  pub id : member.id ≡ other.id
  pub to : endpoint_number member.to ≡ endpoint_number other.to
  pub filter : AreOfOneLength member.filter other.filter
  pub locked : member.locked ≡ other.locked

-- as many elements, and those at one index are so
abbrev pub AllAlike : {A : Type 0} → (A → A → Type 0) → List A → List A → Type 0
AllAlike P [] [] = Unit {0}
AllAlike P [] (other ∷ others) = ⊥
AllAlike P (first ∷ rest) [] = ⊥
AllAlike P (first ∷ rest) (other ∷ others) = P first other × AllAlike P rest others

-- groups that differ in the words of their programs alone
pub record AreAlikeGroups (group other : Group) : Type 0 where
  pub key : endpoint_number group.key ≡ endpoint_number other.key
  pub selector : AreOfOneLength group.selector other.selector
  pub members : AllAlike AreAlikeMembers group.members other.members

abbrev pub AreAlike : List Group → List Group → Type 0
AreAlike config other = AllAlike AreAlikeGroups config other

-- a configuration is like the current one
abbrev pub IsLikeCurrent : OperatorView (List Group) → List Group → Type 0
IsLikeCurrent view config = (current : List Group) × IsCurrent view current × AreAlike config current
