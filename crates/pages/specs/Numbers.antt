-- The numbers of documents 01 and 02 for lines and pages, each said once: 'Lines and pages', and the hyphen of request 2.
use Rattle.std.specs.Prelude.{ℕ}

-- ---- The limits of the width and the page length

abbrev pub least_width : ℕ
least_width = 8

abbrev pub most_width : ℕ
most_width = 60

abbrev pub least_length : ℕ
least_length = 2

abbrev pub most_length : ℕ
most_length = 40

-- ---- Blanks before a word: after another word, and where it opens a paragraph

abbrev pub gap_blanks : ℕ
gap_blanks = 1

abbrev pub paragraph_blanks : ℕ
paragraph_blanks = 2

-- ---- The cell that ends each part of a cut word but the last

abbrev pub hyphen : ℕ
hyphen = 36

-- ---- Output bytes that are no cells: after each line, and after each page's last line

abbrev pub line_mark : ℕ
line_mark = 64

abbrev pub page_mark : ℕ
page_mark = 65
