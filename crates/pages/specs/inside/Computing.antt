-- Every definition of this crate and of those below it, under one name: a theorem that is proved by computing says `unfolding computing`.
use Rattle.table.specs.inside.Computing.{computing as computing_table}
use Rattle.pages.specs.Words.{format_of, closed, gathered, words_of, cut_within, parts, cut_item, cut, items_of}
use Rattle.pages.specs.Place.{holds_cell, has_line, fills_page, after_line, after_line_end, after_empty_line, after_paragraph, after_page, after_page_end, opening_blanks, joins, after_cells, cells_after, after_word, after_item, marks, standing, move_bytes, cells_in, after_items, items_bytes, ended, volume_end, volume}
use Rattle.pages.specs.Pages.{bytes_of_lines, bytes_of_pages, pages_from, pages_of}
use Rattle.table.specs.Search.{count}
use Rattle.pages.specs.Spots.{spot_after, spots_from, ended_pages, sizes_from, layout_of, word_count, with_choices}
use Rattle.pages.specs.Volume.{sheet_right, sheet_verdict, bytes_of, end_of}
use Rattle.pages.specs.Fill.{refused, done, roomed, filling}

unfoldable pub computing : Unit {0}
unfolding computing_table format_of closed gathered words_of cut_within parts cut_item cut items_of holds_cell has_line fills_page after_line after_line_end after_empty_line after_paragraph after_page after_page_end opening_blanks joins after_cells cells_after after_word after_item marks standing move_bytes cells_in after_items items_bytes ended volume_end volume bytes_of_lines bytes_of_pages pages_from pages_of count spot_after spots_from ended_pages sizes_from layout_of word_count with_choices sheet_right sheet_verdict bytes_of end_of refused done roomed filling
computing = tt
