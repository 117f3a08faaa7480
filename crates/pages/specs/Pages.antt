-- 'Output bytes': pages as lists of lines, a line as a list of cells, and their bytes.
use Rattle.std.specs.Prelude.{ℕ, true, false, List, [], ◌∷◌, ◌++◌, eqb}
use Rattle.pages.specs.Numbers.{line_mark, page_mark}

abbrev pub Line : Type 0
Line = List ℕ

abbrev pub Page : Type 0
Page = List Line

-- ---- Cells, 64 after each line, 65 after each page's last line

unfoldable pub bytes_of_lines : List Line → List ℕ
bytes_of_lines [] = []
bytes_of_lines (line ∷ lines) = line ++ line_mark ∷ bytes_of_lines lines

unfoldable pub bytes_of_pages : List Page → List ℕ
bytes_of_pages [] = []
bytes_of_pages (page ∷ pages) = bytes_of_lines page ++ page_mark ∷ bytes_of_pages pages

-- ---- The other way: the pages of output bytes. `lines` and `line` are what the page has so far; an output ends with a page, so what no 65 ends is no page

unfoldable pub pages_from : List Line → Line → List ℕ → List Page
pages_from lines line [] = []
pages_from lines line (b ∷ bytes) =
    elim (eqb b page_mark) [
      | true ↦ lines ∷ pages_from [] [] bytes
      | false ↦ elim (eqb b line_mark) [ true ↦ pages_from (lines ++ line ∷ []) [] bytes | false ↦ pages_from lines (line ++ b ∷ []) bytes ]
    ]

unfoldable pub pages_of : List ℕ → List Page
pages_of bytes = pages_from [] [] bytes
