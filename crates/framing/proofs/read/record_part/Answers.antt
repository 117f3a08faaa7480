-- `framing::read::record_part` meets its contract: the part that is taken has the asked length where it lies within the image.
use Rattle.std.proofs.Common.{arith, ℕ, List, [], ◌≡◌, ◌+◌, length, leb, take, drop, Option, Some, None, unwrap_or, Bor, cond, ap, refl, ◌∙◌}
use Rattle.std.specs.Slice.{IsGetRangeResult}
use Rattle.std.proofs.lemmas.Grind.{common_steps}
use Rattle.std.proofs.lemmas.Bool.Decides.{nat_tests}
use Rattle.table.specs.Sections.{record_part, part_within, bytes_from}
use Rattle.framing.proofs.read.record_part.Goals as goal

-- the part where all of it is there, and otherwise nothing
part_or_none : (xs : List ℕ) (at n : ℕ) (r : Option (Bor (List ℕ))) (d : Bor (List ℕ)) → IsGetRangeResult xs at (at + n) r → d.now ≡ []
    → (unwrap_or r d).now ≡ cond (leb (at + n) (length xs)) (take n (drop at xs)) []
part_or_none xs at n (Some part) d g e = grind (arith, common_steps, nat_tests)
part_or_none xs at n None d g e = grind (arith, common_steps, nat_tests)

pub returns : goal.returns
unfolding part_within record_part bytes_from
returns c =
    record {
      is = ap (λ (r : Bor (List ℕ)). r.now) c.unwrap_or.ensures
          ∙ part_or_none c.args.image.now _ _ c.get.result _ c.get.ensures.lookup refl
          ∙ rw (c.offset_of.ensures.is, c.from.ensures, c.from-2.ensures);
    }
