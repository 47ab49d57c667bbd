use Rattle.plan_text.proofs.WritableLemmas.{written}
use Rattle.plan_text.proofs.BackLemmas.{text_back}
use Rattle.plan_text.specs.Printing.{plan_text}
use Rattle.plan_text.proofs.laws.plans_with_texts.Goals as goal

pub returns : goal.returns
returns c = λ i plan. (written i plan, λ good. record { text = plan_text i plan; is = text_back i plan good })
