use Rattle.versions.specs.Table.{stored_by}
use Rattle.versions.proofs.SafetyLemmas.{fetches_published, keeps_held, keeps_pool, lists_versions, loads_newest, reclaims_none_held, scans_tell, sees_up_to_last_load, steps_on_one_word, views_tell_table}
use Rattle.versions.proofs.every_form.Goals as goal

pub returns : goal.returns
returns c = record {
  pin_is_newest = λ form. loads_newest (stored_by form);
  seen_up_to_last_load = λ form. sees_up_to_last_load (stored_by form);
  held_version_kept = λ form. keeps_held (stored_by form);
  pool_kept = λ form. keeps_pool (stored_by form);
  not_reclaimed = λ form. reclaims_none_held (stored_by form);
  fetch_is_published = λ form. fetches_published (stored_by form);
  scan_tells_log = λ form. scans_tell (stored_by form);
  views_tell_table = λ form. views_tell_table (stored_by form);
  versions_listed = λ form. lists_versions (stored_by form);
  one_word = λ form. steps_on_one_word (stored_by form);
}
