-- `make`, case by case: a text that came to a draft is good, and the bytes that were written to the front are the outcome's, where there is room for them.
use Prim.Native.Nat.{ℕ, ◌≤◌, ◌<◌}
use mathlib.Core.Bool.{Bool, true, false}
use mathlib.Core.List.{List, ◌++◌}
use mathlib.Core.Path.{◌≡◌, refl, ◌∙◌, ap}
use native.Mathlib.Nat.{zero-add}
use native.Mathlib.Omega.{arith}
use lib.Dec.{leb}
use lib.ListN.{length, drop}
use lib.Seq.{sets-eq}
use borrow.Author.Tests.{le-leb, lt-leb}
use Rattle.table.specs.inside.Wrote.{Wrote}
use Rattle.table.specs.declared.Refusal.TheVariants.{Room}
use Rattle.table.proofs.Wrote.{put_then}
use Rattle.form.specs.Reading.{Reading, good, bad, reading, line_at, column_at, trailer_for, image_of}
use Rattle.form.specs.Calls.{Drawn, Outcome, refused, done, roomed, unlike, making}
use Rattle.form.specs.Promises.{Ends}
use Rattle.tables.specs.inside.Lines.{Drafted}
use Rattle.tables.specs.inside.Steps.{walked_to, body_of}
use Rattle.form.specs.declared.Draft.{Draft}
use Rattle.form.specs.declared.Unlike.{Unlike as UnlikeOf}
use Rattle.form.specs.declared.Undrawn.TheVariants.{Refused, Unlike}
use Rattle.form.specs.declared.Expected.{Expected}
use Rattle.std.specs.Prelude.{Ok, Err}
use Rattle.tables.proofs.Drafts.{Comes, reading_good}

-- ---- What the walk answers is the reading

pub walked_good : (text : List ℕ) (d : Draft) → walked_to (reading text) ≡ Ok d → reading text ≡ good d (body_of (reading text))
walked_good text d h = go (reading text) h
  where
    go : (r : Reading) → walked_to r ≡ Ok d → r ≡ good d (body_of r)
    go (good e body) h = let same : e ≡ d = cc in ap (λ (x : Draft). good x body) same
    go (bad e at) h = let z : ◌≡◌ {A = ℕ} 0 1 = cc in absurd (omega arith)

pub walked_bad : (text : List ℕ) (e : Expected) (at : ℕ) → walked_to (reading text) ≡ Err (record { expected = e; at = at }) → reading text ≡ bad e at
walked_bad text e at h = go (reading text) h
  where
    go : (r : Reading) → walked_to r ≡ Err (record { expected = e; at = at }) → r ≡ bad e at
    go (good d body) h = let z : ◌≡◌ {A = ℕ} 0 1 = cc in absurd (omega arith)
    go (bad x i) h =
        let same : ◌≡◌ {A = UnlikeOf} (record { expected = x; at = i }) (record { expected = e; at = at }) = cc in
        λ j. bad (same j).expected (same j).at

pub drafted_comes : {text : List ℕ} {d : Draft} → Drafted text d → Comes d (body_of (reading text))
drafted_comes {text} {d} h = reading_good text d (body_of (reading text)) (walked_good text d h.comes)

-- ---- The cases of the call

pub make_bad : (text out : List ℕ) (e : Expected) (at : ℕ) → reading text ≡ bad e at → making text out ≡ refused out (unlike text e at)
unfolding making
make_bad text out e at h = rw (h, making)

pub make_good : (text out : List ℕ) (d : Draft) (body : List ℕ) → reading text ≡ good d body → making text out ≡ roomed out (image_of d body)
unfolding making
make_good text out d body h = rw (h, making)

pub ends_by : {p q : Outcome} {a : Drawn} {x : List ℕ} → p ≡ q → Ends q a x → Ends p a x
ends_by e h = rw e h

-- a text that isn't of the form
pub ends_unlike : (text out : List ℕ) (e : Expected) (at line column : ℕ) → reading text ≡ bad e at → line ≡ line_at text at → column ≡ column_at text at
    → Ends (making text out) (Err (Unlike at line column e)) out
unfolding refused unlike
ends_unlike text out e at line column h l c = ends_by (make_bad text out e at h) (record { answers = cc; leaves = refl })

-- ---- Room

-- `n` bytes are needed, and there are fewer
pub ends_short : (out bytes : List ℕ) (n : ℕ) → n ≡ length bytes → length out < n → Ends (roomed out bytes) (Err (Refused (Room n))) out
unfolding roomed refused
ends_short out bytes n e l =
    let tight : leb (length bytes) (length out) ≡ false = lt-leb (length bytes) (length out) (omega arith) in
    ends_by (ap (λ (t : Bool). elim t [ true ↦ done out bytes | false ↦ refused out (Err (Refused (Room (length bytes)))) ]) tight)
    (record { answers = ap (λ (k : ℕ). Err (Refused (Room k))) e; leaves = refl })

-- the bytes are written to the front
pub ends_done : (out bytes after : List ℕ) (n : ℕ) → n ≡ length bytes → n ≤ length out → Wrote out 0 bytes after → Ends (roomed out bytes) (Ok n) after
unfolding roomed done
ends_done out bytes after n e l w =
    let roomy : leb (length bytes) (length out) ≡ true = le-leb (length bytes) (length out) (omega arith) in
    ends_by (ap (λ (t : Bool). elim t [ true ↦ done out bytes | false ↦ refused out (Err (Refused (Room (length bytes)))) ]) roomy)
    (record {
      answers = ap Ok e;
      leaves = w.leaves ∙ sets-eq bytes out 0 (omega arith) ∙ ap (λ (k : ℕ). bytes ++ drop k out) (zero-add (length bytes));
    })

-- the sections' bytes and then the trailer are the image
pub made_put : (d : Draft) (body out mid after : List ℕ) (n : ℕ) → n ≡ length body → Wrote out 0 body mid → Wrote mid n (trailer_for d) after
    → Wrote out 0 (image_of d body) after
unfolding image_of
made_put d body out mid after n e first then =
    record { leaves = put_then out mid after 0 body (trailer_for d) first.leaves then.leaves (omega arith) }
