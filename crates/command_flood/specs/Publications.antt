-- The steps of the operator of `flood` beside the workers (docs/COMMANDS.md, "flood").
use Rattle.std.specs.Prelude.{◌≡◌, ◌<◌, ◌⊎◌, ◌∷◌, List, []}
use Rattle.config_image.specs.Image.{Group}
use Rattle.member_group.specs.Charge.{charge_of}
use Rattle.read_section.specs.Operator.{OperatorValue}
use Rattle.retire.specs.Publish.{IsBusy, Publishes}
use Rattle.versions.specs.Free.{number_after}
use Rattle.versions.specs.declared.layout.TheConstants.{CHARGE_LIMIT, LAST_NUMBER}

-- the configuration was published; or no row was free; or nothing was done, since its charge is too great or the numbers are used up
abbrev pub IsTried : List Group → OperatorValue → OperatorValue → Type 0
IsTried config before after =
    Publishes before after config
    ⊎ (IsBusy before after ⊎ (((CHARGE_LIMIT < charge_of config) ⊎ (number_after before.view.log ≡ LAST_NUMBER)) × (after ≡ before)))

-- each configuration was tried once, in their order
abbrev pub AreTried : List (List Group) → OperatorValue → OperatorValue → Type 0
AreTried [] before after = after ≡ before
AreTried (first ∷ rest) before after = (mid : OperatorValue) × IsTried first before mid × AreTried rest mid after
