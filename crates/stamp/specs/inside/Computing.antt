-- Every definition of this crate and of the table, under one name: a theorem that is proved by computing says `unfolding computing`.
use Rattle.table.specs.inside.Computing.{computing as computing_table}
use Rattle.stamp.specs.Sums.{grown, next, sums_from, sums_of}
use Rattle.stamp.specs.Stamping.{stamping}
use Rattle.stamp.specs.Weights.{total, weighed}

unfoldable pub computing : Unit {0}
unfolding computing_table grown next sums_from sums_of stamping total weighed
computing = tt
