-- `tables::making::make_drafted` meets its contract: the image is as long as the sections with the trailer, and the walk's bytes and then the trailer are it.
use Prim.Native.Nat.{ℕ, ◌+◌}
use mathlib.Core.List.{List}
use mathlib.Core.Path.{◌≡◌}
use native.Mathlib.Omega.{arith}
use lib.ListN.{length}
use Rattle.form.specs.Reading.{reading, image_of}
use Rattle.tables.specs.inside.Steps.{body_of}
use Rattle.tables.proofs.Frame.{image_long}
use Rattle.tables.proofs.Trailer.{letters_few}
use Rattle.tables.proofs.Makes.{drafted_comes, ends_short, ends_done, made_put}
use Rattle.tables.proofs.making.make_drafted.Goals as goal

-- the sections' bytes
abbrev body_in : List ℕ → List ℕ
body_in text = body_of (reading text)

pub overflow_add-needed : goal.overflow_add-needed
overflow_add-needed c = rw c.letters_for-body.ensures (omega (arith, letters_few c.args.drafted.draft c.args.drafted.modest))

pub returns-then-out-needed : goal.returns-then-out-needed
returns-then-out-needed c =
    let body_is : c.letters_for-body.result ≡ length (body_in c.args.text.now) =
    omega (arith, c.letters_for-body.ensures, (drafted_comes c.requires).size) in
    let needed_is : c.letters_for-body.result + 14 ≡ length (image_of c.args.drafted.draft (body_in c.args.text.now)) =
    omega (arith, body_is, image_long c.args.drafted.draft (body_in c.args.text.now)) in
    let a = c.args in
    ends_short a.out.now (image_of a.drafted.draft (body_in c.args.text.now)) _ needed_is c.if-out-needed.true

pub returns : goal.returns
returns c =
    let body_is : c.letters_for-body.result ≡ length (body_in c.args.text.now) =
    omega (arith, c.letters_for-body.ensures, (drafted_comes c.requires).size) in
    let needed_is : c.letters_for-body.result + 14 ≡ length (image_of c.args.drafted.draft (body_in c.args.text.now)) =
    omega (arith, body_is, image_long c.args.drafted.draft (body_in c.args.text.now)) in
    let a = c.args in
    let fits = c.if-out-needed.false in
    ends_done a.out.now (image_of a.drafted.draft (body_in c.args.text.now)) _ _ needed_is (omega arith)
    (made_put a.drafted.draft (body_in c.args.text.now) a.out.now c.walk.new.out c.put_trailer.new.out c.letters_for-body.result body_is
    (c.walk.ensures.1 a.drafted.draft c.requires (omega (arith, body_is))) c.put_trailer.ensures)
