-- What is printed where a part of a plan G of an instance I is kept; D says which rest is planned anew, and from which minute on.
use Rattle.std.specs.Prelude.{ℕ, ◌≡◌, ◌+◌, ◌≤◌, ◌⊎◌, Bool, true, false, List, [], ◌∷◌, map}
use Rattle.lock_model.specs.declared.instance.Instance.{Instance}
use Rattle.lock_model.specs.declared.plan.Plan.{Plan}
use Rattle.lock_model.specs.declared.verdict.Verdict.{Verdict}
use Rattle.command_words.specs.declared.commands.DayRest.{DayRest}
use Rattle.lock_model.specs.declared.verdict.Verdict.TheVariants.{Optimal, OpenNodes, OpenTurns}
use Rattle.lock_rules.specs.Plan.{IsLegal, cost_of}
use Rattle.lock_rules.specs.Singles.{singles_of}
use Rattle.book_rules.specs.Ends.{IsOpenNodes, IsOpenTurns}
use Rattle.book_rules.specs.Verdict.{verdict_of}
use Rattle.plan_print.specs.Report.{report}
use Rattle.replan.specs.Rest.{ships_left, added_of}
use Rattle.replan.specs.Together.{number_of, joined}
use Rattle.solve_commands.specs.Searching.{PrintsDossier, Ended}
use Rattle.solve_commands.specs.Solving.{search_of}
use Rattle.replan_command.specs.Rests.{minute_of, kept_for, IsRestFor, GoesOnFrom}

-- legal, among the plans that are asked for, and no legal one of these costs less
pub record IsCheapestKeeping (I : Instance) (G : Plan) (D : DayRest) (P : Plan) : Type 0 where
  pub legal : IsLegal I P
  pub goes_on : GoesOnFrom I G D P
  pub least : (Q : Plan) → IsLegal I Q → GoesOnFrom I G D Q → cost_of I P ≤ cost_of I Q

-- such a plan is printed as optimal
pub record PrintsKeeping (I : Instance) (G : Plan) (D : DayRest) (text : List ℕ) : Type 0 where
  pub plan : Plan
  pub cheapest : IsCheapestKeeping I G D plan
  pub shown : text ≡ report I plan Optimal

-- The dossier of the rest is printed. Its plan is cheapest for the rest, so put together with the kept plan it is cheapest of those that keep that.
pub record PrintsRestDossier (I : Instance) (G : Plan) (D : DayRest) (text : List ℕ) : Type 0 where
  pub rest : Instance
  pub is_rest : IsRestFor I G D rest
  pub prints : PrintsDossier rest text
  pub cheapest : IsCheapestKeeping I G D (joined (kept_for G D) (ships_left I (kept_for G D)) prints.certificate.plan)

abbrev pub PrintsBestAs : Bool → Instance → Plan → DayRest → List ℕ → Type 0
PrintsBestAs true I G D text = PrintsRestDossier I G D text
PrintsBestAs false I G D text = PrintsKeeping I G D text

-- a dossier is printed where one is asked for and ships are left
abbrev pub prints_dossier : Bool → List ℕ → Bool
prints_dossier asked [] = false
prints_dossier asked (ship ∷ ships) = asked

-- what is printed where all is shown: the report of the whole plan, or the dossier of the rest
abbrev pub PrintsBestKeeping : Bool → Instance → Plan → DayRest → List ℕ → Type 0
PrintsBestKeeping asked I G D text = PrintsBestAs (prints_dossier asked (ships_left I (kept_for G D))) I G D text

-- P is the plan Q of the rest R put together with the kept plan
pub record IsPutTogether (I : Instance) (G : Plan) (D : DayRest) (R : Instance) (Q P : Plan) : Type 0 where
  pub is_rest : IsRestFor I G D R
  pub same : P ≡ joined (kept_for G D) (ships_left I (kept_for G D)) Q
  pub legal : IsLegal I P
  pub goes_on : GoesOnFrom I G D P
  pub cost : cost_of I P ≡ cost_of R Q + added_of I (kept_for G D) (minute_of D)

-- What was shown of a plan of the rest, said of the whole plan: `ns` are the numbers in the instance of the ships of the rest, and the whole plan costs so much more.
abbrev pub in_whole : List ℕ → ℕ → Verdict → Verdict
in_whole ns added Optimal = Optimal
in_whole ns added (OpenNodes used low) = OpenNodes used (low + added)
in_whole ns added (OpenTurns chamber ships turns low) = OpenTurns chamber (map (number_of ns) ships) turns (low + added)

-- a search of the rest ended with this verdict, and its best plan put together with the kept plan is printed as open, for all its nodes were used
pub record PrintsNodesKeeping (nodes turns : ℕ) (I : Instance) (G : Plan) (D : DayRest) (text : List ℕ) : Type 0 where
  pub rest : Instance
  pub ended : Ended (search_of nodes turns rest)
  pub plan : Plan
  pub together : IsPutTogether I G D rest ended.book.best plan
  pub used : ℕ
  pub low : ℕ
  pub verdict : verdict_of ended.book ≡ OpenNodes used low
  pub left : IsOpenNodes rest nodes (singles_of rest) ended.book.best used low
  pub shown : text ≡ report I plan (in_whole (ships_left I (kept_for G D)) (added_of I (kept_for G D) (minute_of D)) (OpenNodes used low))

-- a search of the rest ended with this verdict, and its best plan put together with the kept plan is printed as open, for its turns were spent on the named ships
pub record PrintsTurnsKeeping (nodes turns : ℕ) (I : Instance) (G : Plan) (D : DayRest) (text : List ℕ) : Type 0 where
  pub rest : Instance
  pub ended : Ended (search_of nodes turns rest)
  pub plan : Plan
  pub together : IsPutTogether I G D rest ended.book.best plan
  pub chamber : ℕ
  pub ships : List ℕ
  pub spent : ℕ
  pub low : ℕ
  pub verdict : verdict_of ended.book ≡ OpenTurns chamber ships spent low
  pub left : IsOpenTurns rest turns (singles_of rest) ended.book.best chamber ships spent low
  pub shown : text ≡ report I plan (in_whole (ships_left I (kept_for G D)) (added_of I (kept_for G D) (minute_of D)) (OpenTurns chamber ships spent low))

abbrev pub PrintsOpenKeeping : ℕ → ℕ → Instance → Plan → DayRest → List ℕ → Type 0
PrintsOpenKeeping nodes turns I G D text = PrintsNodesKeeping nodes turns I G D text ⊎ PrintsTurnsKeeping nodes turns I G D text
