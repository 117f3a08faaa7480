-- 'Embosser files' in words: what a good file and a good layout are, and where a wrong one is wrong. proofs/Judged.antt shows that the judging of
-- specs/Judging.antt finds just that.
use Rattle.std.specs.Prelude.{ℕ, ◌+◌, ◌<◌, List, ◌++◌, map, ◌≡◌, length, take}
use Rattle.table.specs.Lists.{All}
use Rattle.pages.specs.Pages.{Page, bytes_of_pages}
use Rattle.pages.specs.Right.{PageRight}
use Rattle.pages.specs.declared.Sheet.{Sheet}
use Rattle.embosser.specs.Chart.{written_as}
use Rattle.embosser.specs.declared.Kind.{Kind}

-- pages as bytes of a kind: each cell, each line's end and each page's end is one byte
unfoldable pub bytes_as : Kind → List Page → List ℕ
bytes_as kind pages = map (written_as kind) (bytes_of_pages pages)

-- good bytes are those of pages each of 1 to P lines, each line of at most W cells that doesn't end in a blank. The bytes of no pages, which are none, are good too
pub record Good (kind : Kind) (sheet : Sheet) (bytes : List ℕ) : Type 0 where
  pub pages : List Page
  pub right : All (PageRight sheet) pages
  pub written : bytes ≡ bytes_as kind pages

-- a good one could continue these bytes
pub record Continues (kind : Kind) (sheet : Sheet) (bytes : List ℕ) : Type 0 where
  pub rest : List ℕ
  pub good : Good kind sheet (bytes ++ rest)

-- 16, wrong file or layout: the place of the first byte at which no good one could continue, or its length where it merely stops short
pub data WrongAt (kind : Kind) (sheet : Sheet) (bytes : List ℕ) : ℕ → Type 0 where
  at_byte : {at : ℕ} → at < length bytes → Continues kind sheet (take at bytes) → (Continues kind sheet (take (at + 1) bytes) → ⊥) → WrongAt kind sheet bytes at
  stops_short : Continues kind sheet bytes → (Good kind sheet bytes → ⊥) → WrongAt kind sheet bytes (length bytes)
