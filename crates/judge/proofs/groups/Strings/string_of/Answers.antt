-- `Strings::string_of` meets its contract: where the image ends within the string, or before it, the definition takes what there is.
use Rattle.std.proofs.Common.{ℕ, List, [], length, take, drop, Option, Some, None, unwrap_or, Bor, ◌≡◌, ◌∙◌, ap, refl, arith}
use Rattle.std.specs.Slice.{IsGetRangeResult}
use Rattle.std.proofs.lemmas.Grind.{common_steps}
use Rattle.table.specs.Sections.{record_part, bytes_from}
use Rattle.table.specs.Table.{entry_at}
use Rattle.judge.proofs.groups.Strings.string_of.Goals as goal

-- what follows, or nothing past the end
rest_or_none : (xs : List ℕ) (at : ℕ) (r : Option (Bor (List ℕ))) (d : Bor (List ℕ)) → IsGetRangeResult xs at (length xs) r → d.now ≡ []
    → (unwrap_or r d).now ≡ drop at xs
rest_or_none xs at (Some rest) d g e = grind (arith, common_steps)
rest_or_none xs at None d g e = grind (arith, common_steps)

-- so many of it, or all of it where there are fewer
taken_or_all : (n : ℕ) (r : Option (Bor (List ℕ))) (rest : Bor (List ℕ)) → IsGetRangeResult rest.now 0 n r → (unwrap_or r rest).now ≡ take n rest.now
taken_or_all n (Some part) rest g = grind (arith, common_steps)
taken_or_all n None rest g = grind (arith, common_steps)

pub returns : goal.returns
unfolding entry_at record_part bytes_from
returns c =
    let rest = ap (λ (r : Bor (List ℕ)). r.now) c.unwrap_or-rest.ensures ∙ rest_or_none c.args.self.now.image.now _ c.get.result _ c.get.ensures.lookup refl in
    ap (λ (r : Bor (List ℕ)). r.now) c.unwrap_or.ensures ∙ taken_or_all _ c.get-2.result c.unwrap_or-rest.result c.get-2.ensures.lookup
    ∙ rw (rest, c.from-n.ensures, c.record_byte.ensures.is, c.offset_of-at.ensures.is)
