-- Every definition of this crate, under one name: a theorem that is proved by computing says `unfolding computing`.
use Rattle.table.specs.Cells.{is_cell, dot, cell_of}
use Rattle.table.specs.Search.{first_from, list_from, member}
use Rattle.table.specs.Sections.{byte_at, number_at, bytes_from, trailer_at, distance, classes_in, variables_in, is_dated, entry_size_in, section_at, last_section, sections_in, trailer_right, distances_right, whole_records, lengths_right, frame_right, sections_of, offset, record_byte, record_part, first_year, last_year}
use Rattle.table.specs.Records.{right_symbol, right_class, right_letter_sign, right_entry_sign, right_sign_after, right_transition, right_condition, right_decision, symbols, right_new_symbol, letter_rule, right_string_byte, right_context_byte, entry_rule, context_rule, transition_rule, decision_rule, wrong_byte, right_record, section_named, rule_of, wrong_in, first_wrong_of, first_wrong}
use Rattle.table.specs.Table.{letter_at, entry_at, context_at, transition_at, column_at, table_in, table_of}
use Rattle.table.specs.Grouping.{agreement, breaks_at, first_break}
use Rattle.table.specs.Verdict.{strings, grouping_verdict, blank_verdict, records_verdict, verdict_of}
use Rattle.table.specs.Example.{ascii, a_letter, an_entry, a_column, in_years}

unfoldable pub computing : Unit {0}
unfolding is_cell dot cell_of first_from list_from member byte_at number_at bytes_from trailer_at distance classes_in variables_in is_dated entry_size_in section_at last_section sections_in trailer_right distances_right whole_records lengths_right frame_right sections_of offset record_byte record_part first_year last_year right_symbol right_class right_letter_sign right_entry_sign right_sign_after right_transition right_condition right_decision symbols right_new_symbol letter_rule right_string_byte right_context_byte entry_rule context_rule transition_rule decision_rule wrong_byte right_record section_named rule_of wrong_in first_wrong_of first_wrong letter_at entry_at context_at transition_at column_at table_in table_of agreement breaks_at first_break strings grouping_verdict blank_verdict records_verdict verdict_of ascii a_letter an_entry a_column in_years
computing = tt
