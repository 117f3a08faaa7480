-- 'The table image', and 'Dates on entries': five sections back to back, the trailer that points back to them and tells the form of the contraction
-- records, and the frame: all that answer 1 covers. And the bytes and the years of a record.
use Rattle.std.specs.Prelude.{ℕ, ◌+◌, ◌-◌, ◌*◌, ◌/◌, Bool, true, false, cond, ◌&&◌, ◌||◌, List, [], length, get_or, take, drop, leb, eqb}
use Rattle.table.specs.Numbers.{trailer_size, distance_size, low_byte_room, classes_byte, variables_byte, first_mark_byte, second_mark_byte, first_mark, second_mark, dated_mark, least_classes, most_classes, most_variables, letter_size, least_letters, most_letters, entry_size, dated_entry_size, least_entries, most_entries, context_size, least_contexts, most_contexts, least_columns, most_columns, first_year_byte, last_year_byte, earliest_year, latest_year}
use Rattle.table.specs.Search.{within}
use Rattle.table.specs.declared.Section.{Section}
use Rattle.table.specs.declared.Sections.{Sections}

-- ---- Bytes

unfoldable pub byte_at : List ℕ → ℕ → ℕ
byte_at image i = get_or image i 0

-- a two-byte number, low byte first
unfoldable pub number_at : List ℕ → ℕ → ℕ
number_at image i = byte_at image i + low_byte_room * byte_at image (i + 1)

-- the `n` bytes from `i` on
unfoldable pub bytes_from : List ℕ → ℕ → ℕ → List ℕ
bytes_from image i n = take n (drop i image)

-- ---- The trailer: the last fourteen bytes

unfoldable pub trailer_at : List ℕ → ℕ
trailer_at image = length image - trailer_size

-- from the trailer's first byte back to the first byte of section `k`, counted from 0
unfoldable pub distance : List ℕ → ℕ → ℕ
distance image k = number_at image (trailer_at image + distance_size * k)

unfoldable pub classes_in : List ℕ → ℕ
classes_in image = byte_at image (trailer_at image + classes_byte)

unfoldable pub variables_in : List ℕ → ℕ
variables_in image = byte_at image (trailer_at image + variables_byte)

-- contraction records have years
unfoldable pub is_dated : List ℕ → Bool
is_dated image = eqb (byte_at image (trailer_at image + second_mark_byte)) dated_mark

unfoldable pub entry_size_in : List ℕ → ℕ
entry_size_in image = cond (is_dated image) dated_entry_size entry_size

-- ---- The sections, as the trailer gives them

-- section `k`, from its own distance to the next one's
unfoldable pub section_at : List ℕ → ℕ → ℕ → Section
section_at image k record_size =
    record { start = trailer_at image - distance image k; size = record_size; records = (distance image k - distance image (k + 1)) / record_size }

-- the last section, from its distance to the trailer
unfoldable pub last_section : List ℕ → ℕ → Section
last_section image record_size =
    record { start = trailer_at image - distance image 4; size = record_size; records = distance image 4 / record_size }

unfoldable pub sections_in : List ℕ → Sections
sections_in image =
    record {
      alphabet = section_at image 0 letter_size;
      contractions = section_at image 1 (entry_size_in image);
      contexts = section_at image 2 context_size;
      transitions = section_at image 3 (classes_in image);
      decisions = last_section image (classes_in image + variables_in image);
      classes = classes_in image;
      variables = variables_in image;
    }

-- ---- The frame

-- the marks, and the numbers of classes and variables
unfoldable pub trailer_right : List ℕ → Bool
trailer_right image =
    eqb (byte_at image (trailer_at image + first_mark_byte)) first_mark
    && (eqb (byte_at image (trailer_at image + second_mark_byte)) second_mark || is_dated image)
    && within least_classes most_classes (classes_in image)
    && leb (variables_in image) most_variables

-- the first distance is the length of all five sections, and distances never rise
unfoldable pub distances_right : List ℕ → Bool
distances_right image =
    eqb (distance image 0) (trailer_at image)
    && leb (distance image 1) (distance image 0)
    && leb (distance image 2) (distance image 1)
    && leb (distance image 3) (distance image 2)
    && leb (distance image 4) (distance image 3)

-- the section is whole records, in the allowed number
unfoldable pub whole_records : Section → ℕ → ℕ → ℕ → Bool
whole_records s bytes least most = eqb (s.size * s.records) bytes && within least most s.records

unfoldable pub lengths_right : List ℕ → Sections → Bool
lengths_right image s =
    whole_records s.alphabet (distance image 0 - distance image 1) least_letters most_letters
    && whole_records s.contractions (distance image 1 - distance image 2) least_entries most_entries
    && whole_records s.contexts (distance image 2 - distance image 3) least_contexts most_contexts
    && whole_records s.transitions (distance image 3 - distance image 4) s.variables s.variables
    && whole_records s.decisions (distance image 4) least_columns most_columns

unfoldable pub frame_right : List ℕ → Bool
frame_right image = leb trailer_size (length image) && trailer_right image && distances_right image && lengths_right image (sections_in image)

-- ---- The sections of any image: none where the frame is wrong

abbrev pub no_section : Section
no_section = record { start = 0; size = 0; records = 0 }

abbrev pub no_sections : Sections
no_sections =
    record {
      alphabet = no_section;
      contractions = no_section;
      contexts = no_section;
      transitions = no_section;
      decisions = no_section;
      classes = 0;
      variables = 0;
    }

unfoldable pub sections_of : List ℕ → Sections
sections_of image = elim (frame_right image) [ true ↦ sections_in image | false ↦ no_sections ]

-- ---- Records

-- the offset of record `k` of a section
unfoldable pub offset : Section → ℕ → ℕ
offset s k = s.start + s.size * k

-- byte `j` of record `k`
unfoldable pub record_byte : List ℕ → Section → ℕ → ℕ → ℕ
record_byte image s k j = byte_at image (offset s k + j)

-- the `n` bytes from byte `j` of record `k` on
unfoldable pub record_part : List ℕ → Section → ℕ → ℕ → ℕ → List ℕ
record_part image s k j n = bytes_from image (offset s k + j) n

-- the same where all of them lie within the image, and nothing where they don't
unfoldable pub part_within : List ℕ → Section → ℕ → ℕ → ℕ → List ℕ
part_within image s k j n = cond (leb (offset s k + j + n) (length image)) (record_part image s k j n) []

-- ---- The years of contraction record `k`, both counted in. Records that have none count as always in force

unfoldable pub first_year : List ℕ → Section → ℕ → ℕ
first_year image entries k = cond (eqb entries.size dated_entry_size) (number_at image (offset entries k + first_year_byte)) earliest_year

unfoldable pub last_year : List ℕ → Section → ℕ → ℕ
last_year image entries k = cond (eqb entries.size dated_entry_size) (number_at image (offset entries k + last_year_byte)) latest_year
