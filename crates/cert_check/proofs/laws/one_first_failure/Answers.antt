use Rattle.certificate_rules.proofs.FailLemmas.{fails-not_stands}
use Rattle.cert_check.proofs.AnswerLemmas.{fails-same, fails-somewhere}
use Rattle.cert_check.proofs.laws.one_first_failure.Goals as goal

pub returns : goal.returns
returns c = record { same = fails-same; none = λ I C p r good f. fails-not_stands I C p r f good; some = fails-somewhere }
