-- `writing::putting::Pen::put_symbol` meets its contract: the blank has a sign of its own, what the form itself uses stands after a backslash.
use mathlib.Core.Path.{sym, ◌∙◌}
use native.Mathlib.Omega.{arith}
use Rattle.writing.proofs.Puts.{pens_as, symbol_blank, symbol_escaped, symbol_itself}
use Rattle.writing.proofs.putting.Pen.put_symbol.Goals as goal

pub returns-then-c-eq32 : goal.returns-then-c-eq32
returns-then-c-eq32 c =
    let goes = c.put.ensures.puts.goes in
    (pens_as (sym (symbol_blank c.args.c c.if-c-eq32.true)) c.put.ensures, omega arith)

pub returns-then-is_escaped : goal.returns-then-is_escaped
returns-then-is_escaped c =
    let goes = c.put_bytes.ensures.puts.goes in
    (pens_as (sym (symbol_escaped c.args.c c.if-c-eq32.false (sym c.is_escaped.ensures ∙ c.if-is_escaped.true))) c.put_bytes.ensures, omega arith)

pub returns-else-is_escaped : goal.returns-else-is_escaped
returns-else-is_escaped c =
    let goes = c.put-else-is_escaped.ensures.puts.goes in
    (pens_as (sym (symbol_itself c.args.c c.if-c-eq32.false (sym c.is_escaped.ensures ∙ c.if-is_escaped.false))) c.put-else-is_escaped.ensures, omega arith)
