use Rattle.deck_laws.proofs.NormalLemmas.{normal-exists, has-normal}
use Rattle.deck_laws.proofs.laws.normal_form.Goals as goal

pub returns-clause-forms : goal.returns-clause-forms
returns-clause-forms c = record { each = λ d spots limits legal. let found = normal-exists d spots limits legal in record { form = found.0; normal = found.1; back = found.2 } }

pub returns-clause-normal : goal.returns-clause-normal
returns-clause-normal c = λ d limits. has-normal d limits
