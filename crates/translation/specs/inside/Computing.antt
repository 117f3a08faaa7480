-- Every definition of this crate and of those below it, under one name: a theorem that is proved by computing says `unfolding computing`.
use Rattle.table.specs.inside.Computing.{computing as computing_table}
use Rattle.translation.specs.Collapse.{unfed, unbarred, kept_after, thinned, collapsed}
use Rattle.translation.specs.Letters.{letter_of, letter_for, class_of, is_known, is_unknown, first_unknown}
use Rattle.translation.specs.Decide.{start_states, byte_of_class, turned, moved, condition_holds, conditions_hold, ruling, decided}
use Rattle.translation.specs.Choose.{begins, class_after, context_holds, in_force, admissible, choice}
use Rattle.translation.specs.Pieces.{characters, piece_by, front_piece, pieces_from, pieces_in, printed, signs_of, pieces_of}
use Rattle.translation.specs.Translate.{translate_followed, translate_by, translate_on}
use Rattle.translation.specs.Handed.{handed, translation}

unfoldable pub computing : Unit {0}
unfolding computing_table unfed unbarred kept_after thinned collapsed letter_of letter_for class_of is_known is_unknown first_unknown start_states byte_of_class turned moved condition_holds conditions_hold ruling decided begins class_after context_holds in_force admissible choice characters piece_by front_piece pieces_from pieces_in printed signs_of pieces_of translate_followed translate_by translate_on handed translation
computing = tt
