-- 'Dates on entries', movers both ways: the image of a table in the other form, from the image as it is. All but the contraction records and the trailer
-- stays byte for byte; each record keeps what stands before its years and gets the years of the other form: none, or always. The first two distances grow
-- or shrink with the records, and the last byte tells the form. And the first dated record, which a move back refuses.
use Rattle.std.specs.Prelude.{ℕ, ◌+◌, ◌-◌, ◌*◌, ◌/◌, ◌%◌, Bool, not, ◌&&◌, eqb, length, take}
use mathlib.Core.List.{List, [], ◌∷◌, ◌++◌, flatten}
use Rattle.std.proofs.Math.Option.{Option}
use Rattle.table.specs.Numbers.{low_byte_room, distance_size, second_mark_byte, second_mark, dated_mark, entry_size, earliest_year, latest_year}
use Rattle.table.specs.Search.{first, list_of}
use Rattle.table.specs.Sections.{bytes_from, trailer_at, distance, sections_of, record_part, first_year, last_year}
use Rattle.table.specs.declared.Section.{Section}
use Rattle.dates.specs.declared.Form.{Form}
use Rattle.dates.specs.declared.Form.TheVariants.{Undated, Dated}

-- the contraction records
abbrev pub entries_of : List ℕ → Section
entries_of image = (sections_of image).contractions

-- a two-byte number, low byte first
unfoldable pub number_bytes : ℕ → List ℕ
number_bytes n = n % low_byte_room ∷ n / low_byte_room ∷ []

-- two two-byte years, first and last: 0 and 65,535 stand for always
abbrev pub always : List ℕ
always = number_bytes earliest_year ++ number_bytes latest_year

-- ---- The image with these years on each record, and this last byte

-- a record up to its signs, then the years
unfoldable pub moved_entry : List ℕ → List ℕ → Section → ℕ → List ℕ
moved_entry years image entries k = record_part image entries k 0 entry_size ++ years

unfoldable pub moved_entries : List ℕ → List ℕ → Section → List ℕ
moved_entries years image entries = flatten (list_of (moved_entry years image entries) entries.records)

-- a distance that reaches back over the records: less by all of them as they were, more by all of them as they are then
unfoldable pub moved_distance : List ℕ → List ℕ → ℕ → ℕ
moved_distance years image k =
    distance image k - (entries_of image).size * (entries_of image).records + (entry_size + length years) * (entries_of image).records

-- two distances that have moved; the other distances, the classes, the variables and the first mark as they were; the last mark
unfoldable pub moved_trailer : List ℕ → ℕ → List ℕ → List ℕ
moved_trailer years mark image =
    number_bytes (moved_distance years image 0)
    ++ number_bytes (moved_distance years image 1)
    ++ bytes_from image (trailer_at image + distance_size * 2) (second_mark_byte - distance_size * 2)
    ++ mark
    ∷ []

-- the alphabet; the records; contexts, transitions and decisions; the trailer
unfoldable pub moved_image : List ℕ → ℕ → List ℕ → List ℕ
moved_image years mark image =
    take (entries_of image).start image
    ++ moved_entries years image (entries_of image)
    ++ bytes_from image (sections_of image).contexts.start (distance image 2)
    ++ moved_trailer years mark image

-- ---- The two moves

-- the years that each record gets in a form, and the trailer's last byte
abbrev pub years_in : Form → List ℕ
years_in Undated = []
years_in Dated = always

abbrev pub mark_in : Form → ℕ
mark_in Undated = second_mark
mark_in Dated = dated_mark

abbrev pub image_in : Form → List ℕ → List ℕ
image_in form image = moved_image (years_in form) (mark_in form) image

abbrev pub dated_image : List ℕ → List ℕ
dated_image image = moved_image always dated_mark image

abbrev pub undated_image : List ℕ → List ℕ
undated_image image = moved_image [] second_mark image

-- ---- Dated records

-- the years of record `k` stand for always
unfoldable pub is_always : List ℕ → Section → ℕ → Bool
is_always image entries k = eqb (first_year image entries k) earliest_year && eqb (last_year image entries k) latest_year

unfoldable pub first_dated_of : List ℕ → Section → Option ℕ
first_dated_of image entries = first (λ k. not (is_always image entries k)) entries.records

-- the first record whose years aren't always
abbrev pub first_dated : List ℕ → Option ℕ
first_dated image = first_dated_of image (entries_of image)
