-- The whole text that is read.
use Rattle.std.proofs.Common.{◌≡◌, ◌∙◌, ◌++◌, ◌∷◌, List, [], ap, codes, decimal, length, ℕ}
use Rattle.config_image.specs.Image.{Group}
use Rattle.config_diff.specs.Rules.{commands_of}
use Rattle.config_diff.specs.Words.{words_config}
use Rattle.member_group.specs.Charge.{charge_of, members_of}
use Rattle.control_rules.specs.Rules.{rules_file}
use Rattle.control_rules.specs.Text.{changes_text, heading}
use Rattle.control_rules.specs.body.Added.{Adds}
use Rattle.control_rules.specs.Shown.{IsShownOf}
use Rattle.control_rules.specs.declared.replies.Shown.{Shown}

heading_same : (config : List Group) (shown : Shown) → IsShownOf config shown →
    heading shown.version shown.groups shown.members shown.charge ≡ heading shown.version (length config) (members_of config) (charge_of config)
heading_same config shown it =
    let front = λ (groups members charge : List ℕ). codes "# " ++ ((codes "version " ++ decimal shown.version ++ codes " groups " ++ groups ++ codes " members " ++ members ++ codes " charge " ++ charge) ++ 10 ∷ []) in
    ap (λ groups. front groups (decimal shown.members) (decimal shown.charge)) (ap decimal it.groups)
    ∙ ap (λ members. front (decimal (length config)) members (decimal shown.charge)) it.members
    ∙ ap (λ charge. front (decimal (length config)) (decimal (members_of config)) charge) it.charge

pub file_is : (config : List Group) (shown : Shown) (text text' : List ℕ) → IsShownOf config shown →
    text ≡ heading shown.version shown.groups shown.members shown.charge → Adds (commands_of (words_config config)) text text' → text' ≡ rules_file shown.version config
file_is config shown text text' it begins added =
    added ∙ ap (λ front. front ++ changes_text (commands_of (words_config config))) (begins ∙ heading_same config shown it)
