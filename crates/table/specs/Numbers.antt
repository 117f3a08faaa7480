-- The numbers of documents 01 and 02 for the table image and for the refusals of every call, each said once: 'Cells', 'The table image', 'What comes back'.
use Rattle.std.specs.Prelude.{ℕ}

-- ---- Cells: 0 to 63 are cells, 0 is the blank, and in a table 64 means blank too. 99 is no cell

abbrev pub blank_cell : ℕ
blank_cell = 0

abbrev pub other_blank : ℕ
other_blank = 64

abbrev pub no_cell : ℕ
no_cell = 99

-- ---- The four format signs

abbrev pub sign_line_end : ℕ
sign_line_end = 70

abbrev pub sign_empty_line : ℕ
sign_empty_line = 71

abbrev pub sign_paragraph : ℕ
sign_paragraph = 72

abbrev pub sign_page_end : ℕ
sign_page_end = 73

-- ---- The trailer: five two-byte distances, then one byte each for the classes, the variables and two marks

abbrev pub trailer_size : ℕ
trailer_size = 14

abbrev pub distance_size : ℕ
distance_size = 2

abbrev pub low_byte_room : ℕ
low_byte_room = 256

abbrev pub classes_byte : ℕ
classes_byte = 10

abbrev pub variables_byte : ℕ
variables_byte = 11

abbrev pub first_mark_byte : ℕ
first_mark_byte = 12

abbrev pub second_mark_byte : ℕ
second_mark_byte = 13

abbrev pub first_mark : ℕ
first_mark = 66

-- the last mark tells the form of the contraction records: without years, or with them
abbrev pub second_mark : ℕ
second_mark = 51

abbrev pub dated_mark : ℕ
dated_mark = 52

abbrev pub least_classes : ℕ
least_classes = 1

abbrev pub most_classes : ℕ
most_classes = 40

abbrev pub most_variables : ℕ
most_variables = 15

-- ---- The sections: the size of a record, where that is fixed, and how many records there may be

abbrev pub letter_size : ℕ
letter_size = 3

abbrev pub least_letters : ℕ
least_letters = 1

abbrev pub most_letters : ℕ
most_letters = 63

abbrev pub entry_size : ℕ
entry_size = 18

-- with two years after the signs
abbrev pub dated_entry_size : ℕ
dated_entry_size = 22

abbrev pub least_entries : ℕ
least_entries = 0

abbrev pub most_entries : ℕ
most_entries = 1199

abbrev pub context_size : ℕ
context_size = 4

abbrev pub least_contexts : ℕ
least_contexts = 0

abbrev pub most_contexts : ℕ
most_contexts = 5

abbrev pub least_columns : ℕ
least_columns = 0

abbrev pub most_columns : ℕ
most_columns = 20

-- ---- A class: 1 to the number of classes

abbrev pub least_class : ℕ
least_class = 1

-- ---- The bytes of an alphabet record

abbrev pub symbol_byte : ℕ
symbol_byte = 0

abbrev pub letter_class_byte : ℕ
letter_class_byte = 1

abbrev pub letter_sign_byte : ℕ
letter_sign_byte = 2

-- ---- The bytes of a contraction record

abbrev pub length_byte : ℕ
length_byte = 0

abbrev pub string_byte : ℕ
string_byte = 1

abbrev pub context_byte : ℕ
context_byte = 11

abbrev pub entry_class_byte : ℕ
entry_class_byte = 12

abbrev pub shift_byte : ℕ
shift_byte = 13

abbrev pub signs_byte : ℕ
signs_byte = 14

abbrev pub first_year_byte : ℕ
first_year_byte = 18

abbrev pub last_year_byte : ℕ
last_year_byte = 20

abbrev pub least_length : ℕ
least_length = 1

abbrev pub most_length : ℕ
most_length = 10

abbrev pub padding : ℕ
padding = 0

abbrev pub no_context : ℕ
no_context = 0

abbrev pub least_shift : ℕ
least_shift = 1

abbrev pub entry_signs : ℕ
entry_signs = 4

-- ---- The years of an entry, both counted in: from the earliest to the latest stands for always

abbrev pub earliest_year : ℕ
earliest_year = 0

abbrev pub latest_year : ℕ
latest_year = 65535

-- ---- Symbols: 32 to 126, and not the bar

abbrev pub least_symbol : ℕ
least_symbol = 32

abbrev pub most_symbol : ℕ
most_symbol = 126

abbrev pub blank : ℕ
blank = 32

abbrev pub bar : ℕ
bar = 124

-- ---- The bytes of transitions: R no, S yes, T the other, - as it was

abbrev pub turn_no : ℕ
turn_no = 82

abbrev pub turn_yes : ℕ
turn_yes = 83

abbrev pub turn_other : ℕ
turn_other = 84

-- ---- The bytes of decisions: G accept, F reject, Y and N by the column's conditions

abbrev pub accepts : ℕ
accepts = 71

abbrev pub rejects : ℕ
rejects = 70

abbrev pub byte_yes : ℕ
byte_yes = 89

abbrev pub byte_no : ℕ
byte_no = 78

-- the hyphen: in a transition 'as it was', in a decision 'next column' or 'either'
abbrev pub dash : ℕ
dash = 45

-- ---- What comes back: the number of each answer, and the place where there is none

abbrev pub number_done : ℕ
number_done = 0

abbrev pub number_frame : ℕ
number_frame = 1

-- a wrong record, by its section
abbrev pub number_alphabet : ℕ
number_alphabet = 2

abbrev pub number_contractions : ℕ
number_contractions = 11

abbrev pub number_contexts : ℕ
number_contexts = 12

abbrev pub number_transitions : ℕ
number_transitions = 13

abbrev pub number_decisions : ℕ
number_decisions = 14

abbrev pub number_no_blank : ℕ
number_no_blank = 3

abbrev pub number_grouping : ℕ
number_grouping = 4

abbrev pub number_size : ℕ
number_size = 5

abbrev pub number_long_text : ℕ
number_long_text = 6

abbrev pub number_unknown : ℕ
number_unknown = 7

abbrev pub number_following : ℕ
number_following = 15

-- a wrong file or layout
abbrev pub number_file : ℕ
number_file = 16

abbrev pub number_dated : ℕ
number_dated = 17

abbrev pub number_room : ℕ
number_room = 8

abbrev pub no_place : ℕ
no_place = 0

-- the longest text, in bytes, which is the place of refusal 6
abbrev pub most_text : ℕ
most_text = 16384
