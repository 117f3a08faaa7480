-- Examples, proved by computing: each rule of the marks by a text that shows it. What is mistyped in a definition is found here.
use Prim.Native.Nat.{ℕ}
use Prim.Native.String.{String}
use mathlib.Core.Bool.{true, false, cond}
use mathlib.Core.List.{[], ◌∷◌, ◌++◌, map}
use mathlib.Core.Path.{◌≡◌, refl}
use lib.Dec.{eqb}
use Rattle.std.specs.Prelude.{Ok, Err}
use Rattle.table.specs.Example.{ascii}
use Rattle.table.specs.Lists.{empty, ◌and◌}
use Rattle.inkprint.specs.Calls.{number_of, place_of, written_of}
use Rattle.inkprint.specs.Characters.{character, next_of}
use Rattle.inkprint.specs.Glyphs.{latin_letters, glyph_of}
use Rattle.inkprint.specs.Marks.{marked, unmarked, marking, source_of}
use Rattle.inkprint.specs.Kept.{folded, after, EndsBlank}
use Rattle.inkprint.specs.declared.Glyph.TheVariants.{Letter, Plain, Gap, Nothing, Feed, Page, LongDash, Dots, Opens, Closes, Unmarked}
use Rattle.inkprint.specs.declared.Uninked.TheVariants as uninked
use Rattle.inkprint.specs.inside.Computing.{computing}

-- capitals: of a word's beginning, of a whole word, after an apostrophe, of one letter
pub example_capitals :
    map (λ (s : String). marking (ascii s))
    ("The NASA man's" ∷ "NASA's" ∷ "I'm" ∷ "I'M" ∷ "O'Brien" ∷ "DON'T" ∷ "McX" ∷ "B2B" ∷ "AB-CD" ∷ [])
    ≡ map (λ (s : String). marked (ascii s))
    ("=THE ==NASA MAN'S" ∷ "==NASA'S" ∷ "=I'M" ∷ "==I'M" ∷ "=O'=BRIEN" ∷ "==DON'T" ∷ "=MC=X" ∷ "=B2=B" ∷ "==AB-==CD" ∷ [])
unfolding computing ascii
example_capitals = refl

-- the convention's own signs, brackets, lines, blank lines and pages
pub example_signs :
    map (λ (s : String). marking (ascii s)) ("$5 %=_+<>|" ∷ "[a]" ∷ "a\nb\n" ∷ "a\n\nb" ∷ "a\n \t\r\nb" ∷ "\na" ∷ "a\r\nb" ∷ " a \n" ∷ [])
    ≡ map (λ (s : String). marked (ascii s)) ("$:$5 $:%$:=$:_$:+$:<$:>$:I" ∷ "<A>" ∷ "A\nB\n" ∷ "A\n$PB" ∷ "A\n$PB" ∷ "$PA" ∷ "A\nB" ∷ " A \n" ∷ [])
unfolding computing ascii
example_signs = refl

-- a form feed
pub example_page : marking (97 ∷ 12 ∷ 98 ∷ []) ≡ marked (ascii "A$NB")
unfolding computing ascii
example_page = refl

-- é and É; ÉTÉ; 'a' in typographic quotes, an apostrophe; double quotes; dashes, dots, a no-break space
pub example_typographic :
    map marking
    ((99 ∷ 97 ∷ 102 ∷ 195 ∷ 169 ∷ [])
    ∷ (195 ∷ 137 ∷ 116 ∷ [])
    ∷ (195 ∷ 137 ∷ 84 ∷ 195 ∷ 137 ∷ [])
    ∷ (226 ∷ 128 ∷ 152 ∷ 97 ∷ 226 ∷ 128 ∷ 153 ∷ 32 ∷ 105 ∷ 116 ∷ 226 ∷ 128 ∷ 153 ∷ 115 ∷ 226 ∷ 128 ∷ 153 ∷ [])
    ∷ (226 ∷ 128 ∷ 156 ∷ 97 ∷ 226 ∷ 128 ∷ 157 ∷ [])
    ∷ (97 ∷ 226 ∷ 128 ∷ 147 ∷ 98 ∷ 226 ∷ 128 ∷ 148 ∷ 99 ∷ 226 ∷ 128 ∷ 166 ∷ 194 ∷ 160 ∷ 100 ∷ [])
    ∷ [])
    ≡ map (λ (s : String). marked (ascii s)) ("CAF%E" ∷ "=%ET" ∷ "==%ET%E" ∷ "$'A$'R IT'S'" ∷ "\"A\"" ∷ "A-B--C... D" ∷ [])
unfolding computing ascii
example_typographic = refl

-- what has no mark: a control character, a currency sign, a letter of another script; what is no UTF-8: a byte that goes on, an overlong form, a surrogate, a code past the last, a
-- character cut short
pub example_unmarked :
    map marking
    ((97 ∷ 7 ∷ [])
    ∷ (97 ∷ 194 ∷ 163 ∷ [])
    ∷ (206 ∷ 177 ∷ [])
    ∷ (97 ∷ 128 ∷ [])
    ∷ (192 ∷ 128 ∷ [])
    ∷ (224 ∷ 128 ∷ 128 ∷ [])
    ∷ (237 ∷ 160 ∷ 128 ∷ [])
    ∷ (244 ∷ 144 ∷ 128 ∷ 128 ∷ [])
    ∷ (97 ∷ 98 ∷ 226 ∷ 128 ∷ [])
    ∷ [])
    ≡ unmarked 1 ∷ unmarked 1 ∷ unmarked 0 ∷ unmarked 1 ∷ unmarked 0 ∷ unmarked 0 ∷ unmarked 0 ∷ unmarked 0 ∷ unmarked 2 ∷ []
unfolding computing
example_unmarked = refl

-- where each byte of ==%ET%E comes from in ÉTÉ, and the end
pub example_sources : map (source_of (195 ∷ 137 ∷ 84 ∷ 195 ∷ 137 ∷ [])) (0 ∷ 1 ∷ 2 ∷ 3 ∷ 4 ∷ 5 ∷ 6 ∷ 7 ∷ []) ≡ 0 ∷ 0 ∷ 0 ∷ 0 ∷ 2 ∷ 3 ∷ 3 ∷ 5 ∷ []
unfolding computing
example_sources = refl

-- Été 2, folded
pub example_folded : folded (195 ∷ 137 ∷ 116 ∷ 195 ∷ 169 ∷ 32 ∷ 50 ∷ []) ≡ ascii "ETE2"
unfolding computing ascii
example_folded = refl

-- a line, and a blank line with a tab and a carriage return: the text ends in a blank line
pub example_blank : EndsBlank (97 ∷ 10 ∷ 9 ∷ 13 ∷ 10 ∷ [])
unfolding computing
example_blank = record { front = 97 ∷ 10 ∷ []; gaps = 9 ∷ 13 ∷ []; is = refl; starts = after (97 ∷ []); empties = refl and refl and empty }

-- ---- The limits in their numerals, each with what is past it

-- line feed and form feed, and the first and last of ASCII's signs and letters
pub example_ascii : map glyph_of (8 ∷ 10 ∷ 11 ∷ 12 ∷ 14 ∷ 31 ∷ 33 ∷ 64 ∷ 65 ∷ 90 ∷ 91 ∷ 92 ∷ 93 ∷ 94 ∷ 96 ∷ 97 ∷ 122 ∷ 123 ∷ 126 ∷ 127 ∷ []) ≡ Unmarked ∷ Feed ∷ Unmarked ∷ Page ∷ Unmarked ∷ Unmarked ∷ Plain 33 ∷ Plain 64 ∷ Letter 65 true false ∷ Letter 90 true false ∷ Plain 60 ∷ Plain 92 ∷ Plain 62 ∷ Plain 94 ∷ Plain 96 ∷ Letter 65 false false ∷ Letter 90 false false ∷ Plain 123 ∷ Plain 126 ∷ Unmarked ∷ []
unfolding computing
example_ascii = refl

-- what is a blank, and what is nothing
pub example_gaps : map glyph_of (9 ∷ 32 ∷ 159 ∷ 160 ∷ 161 ∷ 8191 ∷ 8192 ∷ 8202 ∷ 8203 ∷ 8238 ∷ 8239 ∷ 8240 ∷ []) ≡ Gap ∷ Gap ∷ Unmarked ∷ Gap ∷ Unmarked ∷ Unmarked ∷ Gap ∷ Gap ∷ Unmarked ∷ Unmarked ∷ Gap ∷ Unmarked ∷ []
unfolding computing
example_gaps = refl

pub example_nothing : map glyph_of (13 ∷ 172 ∷ 173 ∷ 174 ∷ 65278 ∷ 65279 ∷ 65280 ∷ []) ≡ Nothing ∷ Unmarked ∷ Nothing ∷ Unmarked ∷ Unmarked ∷ Nothing ∷ Unmarked ∷ []
unfolding computing
example_nothing = refl

-- hyphens and dashes, quotes and dots
pub example_dashes : map glyph_of (8207 ∷ 8208 ∷ 8211 ∷ 8212 ∷ 8213 ∷ 8214 ∷ 8215 ∷ 8216 ∷ 8217 ∷ 8218 ∷ 8219 ∷ 8220 ∷ 8221 ∷ 8222 ∷ 8229 ∷ 8230 ∷ 8231 ∷ 8721 ∷ 8722 ∷ 8723 ∷ []) ≡ Unmarked ∷ Plain 45 ∷ Plain 45 ∷ LongDash ∷ LongDash ∷ Unmarked ∷ Unmarked ∷ Opens ∷ Closes ∷ Unmarked ∷ Unmarked ∷ Plain 34 ∷ Plain 34 ∷ Unmarked ∷ Unmarked ∷ Dots ∷ Unmarked ∷ Unmarked ∷ Plain 45 ∷ Unmarked ∷ []
unfolding computing
example_dashes = refl

-- the letters of U+00C0 to U+017F, a dot for what is none, and the first and last of them as glyphs
pub example_letters :
    map (λ (l : ℕ). cond (eqb l 0) 46 l) latin_letters
    ≡ ascii "AAAAAA.CEEEEIIII.NOOOOO.OUUUUY..aaaaaa.ceeeeiiii.nooooo.ouuuuy.y"
    ++ ascii "AaAaAaCcCcCcCcDdDdEeEeEeEeEeGgGgGgGgHhHhIiIiIiIiIi..JjKk.LlLlLl."
    ++ ascii ".LlNnNnNn...OoOoOo..RrRrRrSsSsSsSsTtTtTtUuUuUuUuUuUuWwYyYZzZzZz."
unfolding computing ascii
example_letters = refl

pub example_latin : map glyph_of (191 ∷ 192 ∷ 382 ∷ 383 ∷ 384 ∷ []) ≡ Unmarked ∷ Letter 65 true true ∷ Letter 90 false true ∷ Unmarked ∷ Unmarked ∷ []
unfolding computing
example_latin = refl

-- the first and the last character of two, three and four bytes, and beside the surrogates; and what is none, a byte of its own
pub example_utf8 :
    map next_of
    ((127 ∷ [])
    ∷ (194 ∷ 128 ∷ [])
    ∷ (223 ∷ 191 ∷ [])
    ∷ (224 ∷ 160 ∷ 128 ∷ [])
    ∷ (237 ∷ 159 ∷ 191 ∷ [])
    ∷ (238 ∷ 128 ∷ 128 ∷ [])
    ∷ (239 ∷ 191 ∷ 191 ∷ [])
    ∷ (240 ∷ 144 ∷ 128 ∷ 128 ∷ [])
    ∷ (244 ∷ 143 ∷ 191 ∷ 191 ∷ [])
    ∷ [])
    ≡ character 127 1 ∷ character 128 2 ∷ character 2047 2 ∷ character 2048 3 ∷ character 55295 3 ∷ character 57344 3 ∷ character 65535 3 ∷ character 65536 4 ∷ character 1114111 4 ∷ []
unfolding computing
example_utf8 = refl

pub example_broken :
    map next_of
    ((128 ∷ [])
    ∷ (193 ∷ 191 ∷ [])
    ∷ (195 ∷ 127 ∷ [])
    ∷ (195 ∷ 192 ∷ [])
    ∷ (224 ∷ 159 ∷ 191 ∷ [])
    ∷ (226 ∷ 128 ∷ 192 ∷ [])
    ∷ (237 ∷ 160 ∷ 128 ∷ [])
    ∷ (237 ∷ 191 ∷ 191 ∷ [])
    ∷ (240 ∷ 143 ∷ 191 ∷ 191 ∷ [])
    ∷ (240 ∷ 144 ∷ 128 ∷ 127 ∷ [])
    ∷ (244 ∷ 144 ∷ 128 ∷ 128 ∷ [])
    ∷ (245 ∷ 128 ∷ 128 ∷ 128 ∷ [])
    ∷ (248 ∷ 128 ∷ 128 ∷ 128 ∷ [])
    ∷ [])
    ≡ map (λ (n : ℕ). character n 1)
    (1114112 ∷ 1114112 ∷ 1114112 ∷ 1114112 ∷ 1114112 ∷ 1114112 ∷ 1114112 ∷ 1114112 ∷ 1114112 ∷ 1114112 ∷ 1114112 ∷ 1114112 ∷ 1114112 ∷ [])
unfolding computing
example_broken = refl

-- the numbers of the answers, the place of a text too long, and what is written
pub example_answers :
    (map number_of (Ok 5 ∷ Err uninked.Long ∷ Err (uninked.Room 5) ∷ Err (uninked.Unmarked 5) ∷ []) ≡ 0 ∷ 6 ∷ 8 ∷ 21 ∷ [])
    × (map place_of (Ok 5 ∷ Err uninked.Long ∷ Err (uninked.Room 5) ∷ Err (uninked.Unmarked 5) ∷ []) ≡ 0 ∷ 1073741824 ∷ 5 ∷ 5 ∷ [])
    × (map written_of (Ok 5 ∷ Err uninked.Long ∷ Err (uninked.Room 5) ∷ Err (uninked.Unmarked 5) ∷ []) ≡ 5 ∷ 0 ∷ 0 ∷ 0 ∷ [])
unfolding computing
example_answers = (refl, refl, refl)
