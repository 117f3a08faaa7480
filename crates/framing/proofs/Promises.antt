-- Any two answers that a promise allows are equal.
use Prim.Native.Nat.{ℕ}
use mathlib.Core.List.{List}
use mathlib.Core.Path.{◌≡◌, sym, ◌∙◌}
use Rattle.std.specs.Prelude.{Option}
use Rattle.table.specs.declared.Section.{Section}
use Rattle.table.specs.declared.SectionName.{SectionName}
use Rattle.table.specs.declared.Sections.{Sections}
use Rattle.table.specs.declared.Years.{Years}
use Rattle.framing.specs.Promises.{Framed, Located, SectionNamed, SectionAt, OffsetOf, RecordByte, RecordPart, YearsOf}

pub framed_determined : {image : List ℕ} {a b : Option Sections} → Framed image a → Framed image b → a ≡ b
framed_determined p q = p.is ∙ sym q.is

pub locate_determined : {image : List ℕ} {a b : Sections} → Located image a → Located image b → a ≡ b
locate_determined p q = p.is ∙ sym q.is

pub section_named_determined : {s : Sections} {name : SectionName} {a b : Section} → SectionNamed s name a → SectionNamed s name b → a ≡ b
section_named_determined p q = p.is ∙ sym q.is

pub section_at_determined : {s : Sections} {i : ℕ} {a b : Section} → SectionAt s i a → SectionAt s i b → a ≡ b
section_at_determined p q = p.is ∙ sym q.is

pub offset_of_determined : {s : Section} {k a b : ℕ} → OffsetOf s k a → OffsetOf s k b → a ≡ b
offset_of_determined p q = p.is ∙ sym q.is

pub record_byte_determined : {image : List ℕ} {s : Section} {k j a b : ℕ} → RecordByte image s k j a → RecordByte image s k j b → a ≡ b
record_byte_determined p q = p.is ∙ sym q.is

pub record_part_determined : {image : List ℕ} {s : Section} {k j n : ℕ} {a b : List ℕ} → RecordPart image s k j n a → RecordPart image s k j n b → a ≡ b
record_part_determined p q = p.is ∙ sym q.is

pub years_of_determined : {image : List ℕ} {entries : Section} {k : ℕ} {a b : Years} → YearsOf image entries k a → YearsOf image entries k b → a ≡ b
years_of_determined p q = λ i. record { first = (p.first_is ∙ sym q.first_is) i; last = (p.last_is ∙ sym q.last_is) i }
