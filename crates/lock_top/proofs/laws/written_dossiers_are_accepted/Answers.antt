use Rattle.lock_top.proofs.LawLemmas.{accepted_ends}
use Rattle.lock_top.proofs.laws.written_dossiers_are_accepted.Goals as goal

pub returns : goal.returns
returns c = record {
  accepted = λ first certified later handed ask keeps. accepted_ends first certified later.words later.source later.sink handed ask later.status keeps;
}
