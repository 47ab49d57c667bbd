use Rattle.picture_laws.proofs.PageLemmas.{page-shows}
use Rattle.picture_laws.proofs.laws.pictures_show_plans.Goals as goal

pub returns : goal.returns
returns c = λ known dial I P legal. page-shows I P dial known legal
