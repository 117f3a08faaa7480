-- Every definition of this crate and of the table, under one name: a theorem that is proved by computing says `unfolding computing`.
use mathlib.Core.List.{flatten}
use Rattle.table.specs.inside.Computing.{computing as computing_table}
use Rattle.dates.specs.Forms.{number_bytes, moved_entry, moved_entries, moved_distance, moved_trailer, moved_image, is_always, first_dated_of}
use Rattle.dates.specs.Moving.{refused, done, roomed, dating, undating_always, undating}

unfoldable pub computing : Unit {0}
unfolding flatten computing_table number_bytes moved_entry moved_entries moved_distance moved_trailer moved_image is_always first_dated_of refused done roomed dating undating_always undating
computing = tt
