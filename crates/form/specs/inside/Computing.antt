-- Every definition of this crate and of the table, under one name: a theorem that is proved by computing says `unfolding computing`.
use mathlib.Core.List.{flatten}
use Rattle.table.specs.Search.{count}
use Rattle.table.specs.inside.Computing.{computing as computing_table}
use Rattle.form.specs.Words.{is_gap, after_gap, ends_word, ends_line, whole, begins, is_word, is_digit, starts_number, with_digit, digits_from, at_least, number, mark_or, is_escaped, escaped, symbol, symbols_from, row, string_bytes, string}
use Rattle.form.specs.Fields.{fields_of, sizes_of, number_bytes, classed, signs_from, signs, year, years, tail, read_field, read_fields}
use Rattle.form.specs.Reading.{on_first, lines_of, line_at, since_feed, column_at, with_line, image_bytes, keyword_in, ended, line_of, read_line, read_end, read_lines, reading, entry_size_for, decisions_for, transitions_for, contexts_for, entries_for, letters_for, trailer_for, image_of}
use Rattle.form.specs.Showing.{decimal_in, decimal, rightward, shown_number, shown_mark_or, shown_symbol, shown_symbols, leftward, signs_before, shown_numbers, shown_year, shown_years, shown_signs, shown_tail, shown_field, shown_fields, shown_line, head_of, shown_head, shown_record, shown_section, shown_in, shown}
use Rattle.form.specs.Calls.{refused, done, roomed, showing, unlike, making}

unfoldable pub computing : Unit {0}
unfolding flatten count computing_table is_gap after_gap ends_word ends_line whole begins is_word is_digit starts_number with_digit digits_from at_least number mark_or is_escaped escaped symbol symbols_from row string_bytes string fields_of sizes_of number_bytes classed signs_from signs year years tail read_field read_fields on_first lines_of line_at since_feed column_at with_line image_bytes keyword_in ended line_of read_line read_end read_lines reading entry_size_for decisions_for transitions_for contexts_for entries_for letters_for trailer_for image_of decimal_in decimal rightward shown_number shown_mark_or shown_symbol shown_symbols leftward signs_before shown_numbers shown_year shown_years shown_signs shown_tail shown_field shown_fields shown_line head_of shown_head shown_record shown_section shown_in shown refused done roomed showing unlike making
computing = tt
