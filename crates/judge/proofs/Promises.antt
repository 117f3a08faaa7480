-- Any two answers that a promise allows are equal.
use Prim.Native.Nat.{ℕ}
use mathlib.Core.List.{List}
use mathlib.Core.Path.{◌≡◌, sym, ◌∙◌}
use denote.Ref.{Bor}
use Rattle.table.specs.Answers.{Verdict}
use Rattle.framing.proofs.Promises.{locate_determined}
use Rattle.judge.specs.Promises.{Checked, Reads, ReaderVerdict}
use Rattle.judge.specs.declared.Reader.{Reader}

pub check_determined : {image : List ℕ} {a b : Verdict} → Checked image a → Checked image b → a ≡ b
check_determined p q = p.is ∙ sym q.is

pub open_determined : {image : Bor (List ℕ)} {a b : Reader} → Reads image a → Reads image b → a ≡ b
open_determined p q = λ i. record {
  image = (p.lent ∙ sym q.lent) i;
  sections = locate_determined p.located q.located i;
  verdict = check_determined p.checked q.checked i;
}

pub reader_verdict_determined : {reader : Reader} {a b : Verdict} → ReaderVerdict reader a → ReaderVerdict reader b → a ≡ b
reader_verdict_determined p q = p.is ∙ sym q.is
