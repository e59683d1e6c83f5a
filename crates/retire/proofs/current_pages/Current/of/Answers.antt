use Rattle.retire.proofs.SharingLemmas.{passing_from, stands_counted}
use Rattle.retire.proofs.current_pages.Current.of.Goals as goal

pub of-requires : goal.of-requires
of-requires c = record { counted = stands_counted _ _ _ (c.current_pages-pages.ensures.stands c.config-config.result.now c.config-config.ensures.current_configuration) }

pub returns-clause-none_passed : goal.returns-clause-none_passed
returns-clause-none_passed c = passing_from _ _ _ _ c.of.ensures.programs c.of.ensures.pages
    (stands_counted _ _ _ (c.current_pages-pages.ensures.stands c.config-config.result.now c.config-config.ensures.current_configuration))
