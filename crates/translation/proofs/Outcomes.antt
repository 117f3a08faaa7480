-- What a text comes to, check by check, and what the call then hands back: a refusal with the signs as they were, or the pieces with their signs at the front.
use Prim.Native.Nat.{ℕ, ◌≤◌, ◌<◌}
use mathlib.Core.Bool.{Bool, true, false}
use mathlib.Core.List.{List}
use mathlib.Core.Option.{Option, none, some}
use mathlib.Core.Path.{◌≡◌, refl, ap, ap₂}
use native.Mathlib.Decide.{dec_le}
use native.Mathlib.Omega.{arith}
use lib.ListN.{length}
use Rattle.std.specs.Prelude.{Ok, Err}
use borrow.Author.Tests.{le-leb, lt-leb}
use Rattle.table.specs.Table.{Table, table_of}
use Rattle.table.specs.Verdict.{verdict_of}
use Rattle.table.specs.declared.Refusal.{Refusal}
use Rattle.table.specs.declared.Refusal.TheVariants.{LongText, Unknown, Following}
use Rattle.table.specs.Answers.{Verdict}
use Rattle.table.specs.Numbers.{most_text}
use Rattle.translation.specs.Letters.{is_known, first_unknown}
use Rattle.translation.specs.Pieces.{Piece, pieces_of}
use Rattle.translation.specs.inside.Making.{Consumed}
use Rattle.translation.specs.Translate.{Result, made, refused, translate_followed, translate_by, translate_on}
use Rattle.translation.specs.Handed.{Translation, handed, Ends}
use Rattle.translation.specs.declared.Setting.{Setting}
use Rattle.translation.specs.declared.Terms.{Terms}
use Rattle.translation.specs.declared.Counts.{Counts}
use Rattle.translation.proofs.Writing.{front_long, front_and_beyond}

-- ---- The text

module _ (table : Table) (setting : Setting) (text : List ℕ) where
  pub too_long : most_text < length text → translate_by table setting text ≡ refused LongText
  unfolding translate_by
  too_long l = rw (lt-leb (length text) most_text l, translate_by)

  pub unknown_at : (i : ℕ) → length text ≤ most_text → first_unknown table.letters text ≡ some i → translate_by table setting text ≡ refused (Unknown i)
  unfolding translate_by
  unknown_at i short e = rw (le-leb (length text) most_text short, translate_by, e)

  pub following_refused : length text ≤ most_text → first_unknown table.letters text ≡ none → is_known table.letters setting.following ≡ false
      → translate_by table setting text ≡ refused Following
  unfolding translate_by translate_followed
  following_refused short e f = rw (le-leb (length text) most_text short, translate_by, e, f, translate_followed)

  pub made_by : length text ≤ most_text → first_unknown table.letters text ≡ none → is_known table.letters setting.following ≡ true
      → translate_by table setting text ≡ made (pieces_of table setting text)
  unfolding translate_by translate_followed
  made_by short e f = rw (le-leb (length text) most_text short, translate_by, e, f, translate_followed)

-- ---- The table, and the caller's own checks

module _ (terms : Terms) (image text : List ℕ) where
  pub table_refused : (r : Refusal) → verdict_of image ≡ Err r → translate_on terms image text ≡ refused r
  unfolding translate_on
  table_refused r e = rw (e, translate_on)

  pub also_refused : (r : Refusal) → verdict_of image ≡ Ok tt → terms.also ≡ Err r → translate_on terms image text ≡ refused r
  unfolding translate_on
  also_refused r e f = rw (e, translate_on, f)

  pub goes_on : verdict_of image ≡ Ok tt → terms.also ≡ Ok tt → translate_on terms image text ≡ translate_by (table_of image) terms.setting text
  unfolding translate_on
  goes_on e f = rw (e, translate_on, f)

  -- pieces are made only where nothing is refused
  pub record Made (ps : List Piece) : Type 0 where
    pub accepted : verdict_of image ≡ Ok tt
    pub allowed : terms.also ≡ Ok tt
    pub short : length text ≤ most_text
    pub known : is_known (table_of image).letters terms.setting.following ≡ true
    pub pieces : ps ≡ pieces_of (table_of image) terms.setting text

  pub made_means : {ps : List Piece} → translate_on terms image text ≡ made ps → Made ps
  made_means {ps} e = by_verdict (verdict_of image) refl terms.also refl
    where
      by_following : verdict_of image ≡ Ok tt → terms.also ≡ Ok tt → length text ≤ most_text → first_unknown (table_of image).letters text ≡ none
          → (b : Bool) → is_known (table_of image).letters terms.setting.following ≡ b → Made ps
      by_following v a short f true k =
          let m = made_by (table_of image) terms.setting text short f k in
          let g = goes_on v a in
          record { accepted = v; allowed = a; short = short; known = k; pieces = cc }
      by_following v a short f false k =
          let m = following_refused (table_of image) terms.setting text short f k in
          let g = goes_on v a in
          let z : ◌≡◌ {A = ℕ} 0 1 = cc in absurd (omega arith)

      by_letters : verdict_of image ≡ Ok tt → terms.also ≡ Ok tt → length text ≤ most_text → (o : Option ℕ)
          → first_unknown (table_of image).letters text ≡ o → Made ps
      by_letters v a short none f = by_following v a short f (is_known (table_of image).letters terms.setting.following) refl
      by_letters v a short (some at) f =
          let m = unknown_at (table_of image) terms.setting text at short f in
          let g = goes_on v a in
          let z : ◌≡◌ {A = ℕ} 0 1 = cc in absurd (omega arith)

      by_length : verdict_of image ≡ Ok tt → terms.also ≡ Ok tt → Dec (length text ≤ most_text) → Made ps
      by_length v a (yes short) = by_letters v a short (first_unknown (table_of image).letters text) refl
      by_length v a (no d) =
          let m = too_long (table_of image) terms.setting text (omega arith) in
          let g = goes_on v a in
          let z : ◌≡◌ {A = ℕ} 0 1 = cc in absurd (omega arith)

      by_verdict : (v : Verdict) → verdict_of image ≡ v → (a : Verdict) → terms.also ≡ a → Made ps
      by_verdict (Err r) v a f = let m = table_refused r v in let z : ◌≡◌ {A = ℕ} 0 1 = cc in absurd (omega arith)
      by_verdict (Ok a) v (Err r) f = let m = also_refused r v f in let z : ◌≡◌ {A = ℕ} 0 1 = cc in absurd (omega arith)
      by_verdict (Ok a) v (Ok b) f = by_length v f (dec_le (length text) most_text)

-- ---- What the call hands back

pub ends_refused : {result : Result} {before : List ℕ} {r : Refusal} → result ≡ refused r → Ends (handed before result) (Err r) before
unfolding handed
ends_refused e = rw (e, handed) (record { answers = refl; leaves = refl })

pub ends_made : {result : Result} {before after : List ℕ} {pieces : List Piece} {counts : Counts} → result ≡ made pieces
    → Consumed pieces before after counts → Ends (handed before result) (Ok counts) after
unfolding handed
ends_made {counts = counts} e c =
    rw (e, handed) (record { answers = ap Ok (ap₂ (λ (pieces signs : ℕ). record { pieces = pieces; signs = signs }) c.counted (front_long c.wrote)); leaves = front_and_beyond c.wrote })

pub ends_as : {result same : Result} (before : List ℕ) {after : List ℕ} {answer : Translation} → result ≡ same → Ends (handed before same) answer after
    → Ends (handed before result) answer after
ends_as before e ends = rw e ends
