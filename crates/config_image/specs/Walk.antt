-- A walk over programs as contracts see it.
use Rattle.std.specs.Prelude.{◌++◌, List, map, ℕ}
use Rattle.std.specs.List.{filter_map}
use Rattle.bpf_verify.specs.Program.{ProgramValue}
use Rattle.member_group.specs.Charge.{programs_of}
use Rattle.config_image.specs.Image.{Group}
use Rattle.config_image.specs.declared.walk.Programs.TheInside.{Inside}

-- the words of the programs of a configuration, in the image's order
abbrev pub words_of_programs : List Group → List (List ℕ)
words_of_programs config = map (λ (program : ProgramValue). program.words) (programs_of config)

-- the rest of the walk: the filters of the members that are left, and then all programs of the groups after them
abbrev pub programs_left : {A : Type 0} → Inside A → List (List ℕ)
programs_left walk =
    map (λ (program : ProgramValue). program.words) (filter_map (λ member. member.filter) walk.members.now ++ programs_of walk.groups.now)
