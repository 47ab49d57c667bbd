use Rattle.instance_text.proofs.NameLemmas.{new_names}
use Rattle.instance_text.proofs.name.new_chamber_name.Goals as goal

pub returns-clause-new : goal.returns-clause-new
returns-clause-new c = new_names (λ x. x.name) c.args.chambers.now c.args.word.now c.in_ok-name.name _ _ c.in_ok-check.field-0 c.is_chamber_name.ensures c.in_ok-check.ensures c.in_ok-name.ensures.same
