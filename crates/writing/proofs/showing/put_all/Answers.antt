-- `writing::showing::put_all` meets its contract: six parts, each where the one before it ends, are the whole text, which the pen leaves in the output.
use mathlib.Core.Path.{sym, ◌∙◌}
use Rattle.form.specs.Showing.{shown_in}
use Rattle.writing.proofs.Puts.{pens_then, puts_whole}
use Rattle.writing.proofs.showing.put_all.Goals as goal

pub returns : goal.returns
unfolding shown_in
returns c =
    let whole =
    pens_then
    (pens_then
    (pens_then (pens_then (pens_then c.put_head.ensures.0 c.put_section.ensures.0) c.put_section-2.ensures.0) c.put_section-3.ensures.0)
    c.put_section-4.ensures.0)
    c.put_section-5.ensures.0 in
    puts_whole c.new-pen.ensures.1 c.new-pen.ensures.2 (c.out-1.given.1.1 (sym (whole.same_output ∙ c.new-pen.ensures.0))) whole
