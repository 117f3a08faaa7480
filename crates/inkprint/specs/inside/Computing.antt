-- Every definition of this crate, under one name: a theorem that is proved by computing says `unfolding computing`.
use Rattle.table.specs.inside.Computing.{computing as computing_table}
use Rattle.inkprint.specs.Characters.{two_bytes, three_bytes, four_bytes, of_four, of_three, of_two, of_bytes, next_of, characters_from, characters_of}
use Rattle.inkprint.specs.Glyphs.{is_own_sign, literal_of, latin_glyph, is_gap, is_nothing, is_dash, is_long_dash, typographic, ascii_sign, other_glyph, glyph_of}
use Rattle.inkprint.specs.Marks.{bytes_of, starts_letter, starts_capital, capital_next, capitals_on, all_capitals, is_blank, word_of, capital_signs, letter_mark, letter_step, sign_step, close_step, gap_step, feed_step, mark_from, marking, source_from, source_of}
use Rattle.inkprint.specs.Calls.{refused, done, roomed, inking}
use Rattle.inkprint.specs.Kept.{is_letter_or_digit, letters_and_digits, folded_from, folded, joined, owned, without_signs, is_symbol}

unfoldable pub computing : Unit {0}
unfolding computing_table two_bytes three_bytes four_bytes of_four of_three of_two of_bytes next_of characters_from characters_of is_own_sign literal_of latin_glyph is_gap is_nothing is_dash is_long_dash typographic ascii_sign other_glyph glyph_of bytes_of starts_letter starts_capital capital_next capitals_on all_capitals is_blank word_of capital_signs letter_mark letter_step sign_step close_step gap_step feed_step mark_from marking source_from source_of refused done roomed inking is_letter_or_digit letters_and_digits folded_from folded joined owned without_signs is_symbol
computing = tt
