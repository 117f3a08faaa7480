-- `Translator::front_piece` meets its contract: what the search finds is the definition's choice, and the piece is made by it.
use mathlib.Core.Path.{sym, ◌∙◌}
use Rattle.translation.specs.inside.States.{states_in}
use Rattle.translation.proofs.Fronts.{chosen_there, made_by_entry, made_by_letter}
use Rattle.table.proofs.Search.{found_at, found_nothing}
use Rattle.translation.proofs.translator.Translator.front_piece.Goals as goal

pub by_entry-requires : goal.by_entry-requires
by_entry-requires c =
    let t = c.args.self.now in
    let e = found_at _ _ (sym c.search.ensures ∙ c.in-Some.is) in
    record {
      there = chosen_there t.image.now t.sections t.setting (states_in t.sections c.args.states.now) c.args.rest.now _ e;
      room = c.requires.room;
    }

pub returns-in-Some : goal.returns-in-Some
returns-in-Some c =
    let t = c.args.self.now in
    let e = found_at _ _ (sym c.search.ensures ∙ c.in-Some.is) in
    made_by_entry t.image.now t.sections t.setting (states_in t.sections c.args.states.now) c.args.rest.now _ e c.by_entry.ensures

pub returns-in-None : goal.returns-in-None
returns-in-None c =
    let t = c.args.self.now in
    let e = found_nothing _ (sym c.search.ensures ∙ c.in-None.is) in
    made_by_letter t.image.now t.sections t.setting (states_in t.sections c.args.states.now) c.args.rest.now c.requires.more e
    c.by_letter.ensures
