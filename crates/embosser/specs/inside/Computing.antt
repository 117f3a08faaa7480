-- Every definition of this crate and of those below that its examples need, under one name: a theorem that is proved by computing says `unfolding computing`.
use Rattle.pages.specs.inside.Computing.{computing as computing_pages}
use Rattle.embosser.specs.Chart.{characters, character_of, place_in}
use Rattle.embosser.specs.Judging.{at_start, has_room, cells_from, cell_fits, line_ends, page_ends, stepped, wrong_from, wrong_at}
use Rattle.embosser.specs.Good.{bytes_as}
use Rattle.embosser.specs.Filing.{refused, done, turned_bytes, roomed, judged, filing}

unfoldable pub computing : Unit {0}
unfolding computing_pages characters character_of place_in at_start has_room cells_from cell_fits line_ends page_ends stepped wrong_from wrong_at bytes_as refused done turned_bytes roomed judged filing
computing = tt

-- the tests of a step
unfoldable pub stepping_tests : Unit {0}
unfolding has_room cell_fits line_ends page_ends
stepping_tests = tt
