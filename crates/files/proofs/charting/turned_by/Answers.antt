-- `files::charting::turned_by` meets its contract: each kind has its table.
use mathlib.Core.Path.{sym}
use native.Mathlib.Omega.{arith}
use Rattle.embosser.proofs.Charts.{character_beyond, place_at_most}
use Rattle.embosser.proofs.Tables.{filled_all}
use Rattle.files.proofs.charting.turned_by.Goals as goal

pub returns-in-Layout : goal.returns-in-Layout
returns-in-Layout c =
    let t = c.table_between.ensures in
    rw c.in-Layout.is
    (filled_all (λ b l beyond. sym (character_beyond b (omega arith))) (record { size = omega arith; passed = t.standing; left = t.others }))

pub returns-in-File : goal.returns-in-File
returns-in-File c =
    let t = c.table_between-in-File.ensures in
    rw c.in-File.is (filled_all (λ b l beyond. omega (arith, place_at_most b)) (record { size = omega arith; passed = t.standing; left = t.others }))
