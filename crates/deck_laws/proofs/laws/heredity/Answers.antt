use Rattle.deck_laws.proofs.HeredityLemmas.{hereditary}
use Rattle.deck_laws.proofs.laws.heredity.Goals as goal

pub returns : goal.returns
returns c = hereditary
