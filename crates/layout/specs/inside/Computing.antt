-- Every definition of this crate and of those below it, under one name: a theorem that is proved by computing says `unfolding computing`.
use Rattle.translation.specs.inside.Computing.{computing as computing_translation}
use Rattle.pages.specs.inside.Computing.{computing as computing_pages}
use Rattle.layout.specs.Emboss.{refused, done, roomed, laid, embossing}

unfoldable pub computing : Unit {0}
unfolding computing_translation computing_pages refused done roomed laid embossing
computing = tt
