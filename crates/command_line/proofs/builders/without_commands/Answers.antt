use Rattle.std.proofs.Common.{◌≡◌, ◌∙◌, ap, codes, true}
use Rattle.clap.specs.Simple.{app_of_fields}
use Rattle.clap.specs.Words.{App, app_of, new_app}
use Rattle.command_line.proofs.builders.without_commands.Goals as goal

abbrev versioned : App → App
versioned a = record a { top = record a.top { has_version = true } }

abbrev unnamed : App → App
unnamed a = record a { top = record a.top { no_binary_name = true } }

abbrev required : App → App
required a = record a { top = record a.top { subcommand_required = true } }

pub returns : goal.returns
returns c =
    let named : app_of c.in_ok-bin_name.field-0 ≡ new_app (codes "dswitch") = ap app_of_fields c.in_ok-bin_name.ensures.0 ∙ c.new.ensures.app in
    let told = ap app_of_fields c.after_help.ensures ∙ ap app_of_fields c.about.ensures ∙ named in
    let version_is : app_of c.version.result ≡ versioned (new_app (codes "dswitch")) = ap app_of_fields c.version.ensures ∙ ap versioned told in
    let unnamed_is = ap app_of_fields c.no_binary_name.ensures ∙ ap unnamed version_is in
    ap app_of_fields c.subcommand_required.ensures ∙ ap required unnamed_is
