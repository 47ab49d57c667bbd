-- What `judge` answers to bytes: a status and what is written.
use Rattle.std.specs.Prelude.{ℕ, ◌≡◌, List, ◌++◌, codes, decimal}
use Rattle.lock_model.specs.declared.instance.Instance.{Instance}
use Rattle.lock_model.specs.declared.plan.Plan.{Plan}
use Rattle.lock_rules.specs.Plan.{IsLegal, cost_of}
use Rattle.plan_text.specs.Neat.{DiffersInX, AreNeat}
use Rattle.plan_print.specs.Report.{lockages_text}
use Rattle.run_answers.specs.Ended.{IsGoodOr}
use Rattle.run_answers.specs.declared.status.Status.{Status}
use Rattle.plan_commands.specs.Planned.{IsLegallyPlanned, AnswersIllegal}

-- Q is legal, differs from P in x alone with no greater x, and all its placements are normal.
pub record IsNeatOf (I : Instance) (P Q : Plan) : Type 0 where
  pub legal : IsLegal I Q
  pub differs : DiffersInX P Q
  pub neat : AreNeat I Q

-- the cost of P, and the report of Q from its second line on
unfoldable pub judged_text : Instance → Plan → Plan → List ℕ
judged_text I P Q = codes "legal cost " ++ decimal (cost_of I P) ++ codes "\n" ++ lockages_text I Q

-- The bytes name a legal plan, and the text is its cost and the report of a neat plan of it.
pub record PrintsJudged (bytes text : List ℕ) : Type 0 where
  pub instance : Instance
  pub plan : Plan
  pub planned : IsLegallyPlanned bytes instance plan
  pub neat : Plan
  pub is_neat : IsNeatOf instance plan neat
  pub shown : text ≡ judged_text instance plan neat

-- what `judge` answers to bytes
abbrev pub AnswersJudge : List ℕ → Status → List ℕ → Type 0
AnswersJudge bytes status text = IsGoodOr (PrintsJudged bytes text) (λ s. AnswersIllegal bytes s text) status
