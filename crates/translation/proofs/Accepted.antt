-- What an accepted image gives the functions inside, which take it for granted: its records lie within it and are right. So a translator has it of its
-- image and its sections. That its table is sound, which the laws of translation rest on, is `accepted_sound` of table/proofs/Sound.antt.
use Prim.Native.Nat.{ℕ}
use mathlib.Core.Bool.{false≢true}
use mathlib.Core.List.{List}
use mathlib.Core.Path.{◌≡◌, refl}
use Rattle.std.specs.Prelude.{IsOk, Ok, Err}
use Rattle.table.specs.Answers.{Verdict}
use Rattle.table.specs.Sections.{sections_of}
use Rattle.table.specs.Verdict.{verdict_of}
use Rattle.table.proofs.Reading.{accepted_laid, accepted_right}
use Rattle.translation.specs.inside.Opened.{Opened}
use Rattle.translation.specs.declared.translator.Translator.{Translator}

pub accepted_opened : (image : List ℕ) → verdict_of image ≡ Ok tt → Opened image (sections_of image)
accepted_opened image e = record { laid = accepted_laid image e; right = accepted_right image e }

accepted_is : (v : Verdict) → IsOk v → v ≡ Ok tt
accepted_is (Ok done) e = refl
accepted_is (Err r) e = absurd (false≢true e)

pub opened : (t : Translator) → Opened t.image.now t.sections
opened t = rw t.located (accepted_opened t.image.now (accepted_is (verdict_of t.image.now) t.accepted))
