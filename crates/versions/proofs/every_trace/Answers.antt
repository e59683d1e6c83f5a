use Rattle.versions.specs.Table.{the_shape}
use Rattle.versions.proofs.SafetyLemmas.{fetches_published, keeps_held, keeps_pool, lists_versions, loads_newest, reclaims_none_held, scans_tell, sees_up_to_last_load, steps_on_one_word, views_tell_table}
use Rattle.versions.proofs.every_trace.Goals as goal

pub returns : goal.returns
returns c = record {
  pin_is_newest = loads_newest the_shape;
  seen_up_to_last_load = sees_up_to_last_load the_shape;
  held_version_kept = keeps_held the_shape;
  pool_kept = keeps_pool the_shape;
  not_reclaimed = reclaims_none_held the_shape;
  fetch_is_published = fetches_published the_shape;
  scan_tells_log = scans_tell the_shape;
  views_tell_table = views_tell_table the_shape;
  versions_listed = lists_versions the_shape;
  one_word = steps_on_one_word the_shape;
}
