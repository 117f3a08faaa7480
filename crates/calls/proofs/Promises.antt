-- Any two results that a promise allows are equal: every byte of the output and each of the stored values.
use Prim.Native.Nat.{ℕ}
use mathlib.Core.List.{List}
use mathlib.Core.Path.{◌≡◌, sym, ap, ◌∙◌}
use Rattle.judge.proofs.Promises.{check_determined}
use Rattle.stamp.proofs.Promises.{stamp_determined}
use Rattle.dates.specs.Moving.{Outcome}
use Rattle.form.specs.Calls.{Outcome as OutcomeOfDrawn}
use Rattle.inkprint.proofs.Promises.{mark_determined}
use Rattle.layout.proofs.Promises.{emboss_determined}
use Rattle.embosser.specs.declared.Kind.{Kind}
use Rattle.embosser.proofs.Promises.{files_determined}
use Rattle.calls.specs.Promises.{six_values, Pressed, three_values, Converted, two_values, Judged, four_values, Marked, moved_values, Recast, five_values, Redrawn, inked_values, Inkprinted}

pub tlopahuexi_emboss_determined : {image text : List ℕ} {following year W P : ℕ} {before : List ℕ} {x y u v : List ℕ} → Pressed image text following year W P before x u
    → Pressed image text following year W P before y v → (x ≡ y) × (u ≡ v)
tlopahuexi_emboss_determined p q =
    let same = emboss_determined p.embosses q.embosses in
    (same.1, p.tells ∙ ap six_values same.0 ∙ sym q.tells)

-- `tlopahuexi_write_file`, `tlopahuexi_read_file`
pub converted_determined : {kind : Kind} {bytes : List ℕ} {W P : ℕ} {before : List ℕ} {x y u v : List ℕ} → Converted kind bytes W P before x u
    → Converted kind bytes W P before y v → (x ≡ y) × (u ≡ v)
converted_determined p q =
    let same = files_determined p.files q.files in
    (same.1, p.tells ∙ ap three_values same.0 ∙ sym q.tells)

-- `tlopahuexi_check`
pub judged_determined : {image u v : List ℕ} → Judged image u → Judged image v → u ≡ v
judged_determined p q = p.tells ∙ ap two_values (check_determined p.checks q.checks) ∙ sym q.tells

-- `tlopahuexi_stamp`
pub marked_determined : {image u v : List ℕ} → Marked image u → Marked image v → u ≡ v
marked_determined p q = p.tells ∙ ap four_values (stamp_determined p.stamps q.stamps) ∙ sym q.tells

-- `tlopahuexi_date`, `tlopahuexi_undate`
pub recast_determined : {outcome : Outcome} {x y u v : List ℕ} → Recast outcome x u → Recast outcome y v → (x ≡ y) × (u ≡ v)
recast_determined p q =
    (p.ends.leaves ∙ sym q.ends.leaves, p.tells ∙ ap moved_values (p.ends.answers ∙ sym q.ends.answers) ∙ sym q.tells)

-- `tlopahuexi_show`, `tlopahuexi_make`
pub redrawn_determined : {outcome : OutcomeOfDrawn} {x y u v : List ℕ} → Redrawn outcome x u → Redrawn outcome y v → (x ≡ y) × (u ≡ v)
redrawn_determined p q =
    (p.ends.leaves ∙ sym q.ends.leaves, p.tells ∙ ap five_values (p.ends.answers ∙ sym q.ends.answers) ∙ sym q.tells)

-- `tlopahuexi_mark`
pub inkprinted_determined : {text before : List ℕ} {x y u v : List ℕ} → Inkprinted text before x u → Inkprinted text before y v → (x ≡ y) × (u ≡ v)
inkprinted_determined p q =
    let same = mark_determined p.inks q.inks in
    (same.1, p.tells ∙ ap inked_values same.0 ∙ sym q.tells)
