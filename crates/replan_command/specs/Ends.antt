-- How replanning ends where nothing is refused.
use Rattle.std.specs.Prelude.{ℕ, ◌≡◌, ◌≤◌, List, length, Some, ⊤}
use Rattle.lock_io.specs.Faults.{Rose}
use Rattle.lock_model.specs.declared.instance.Instance.{Instance}
use Rattle.lock_model.specs.declared.plan.Plan.{Plan}
use Rattle.lock_rules.specs.Unfit.{HasNoUnfit}
use Rattle.book_rules.specs.Ends.{AreEnough}
use Rattle.instance_text.specs.Reading.{Means, instance_part, after_instance}
use Rattle.command_words.specs.declared.commands.DayRest.{DayRest}
use Rattle.command_words.specs.declared.commands.ReplanOptions.{ReplanOptions}
use Rattle.plan_text.specs.Reading.{IsPlanText}
use Rattle.run_answers.specs.Sources.{Drained, plan_limit}
use Rattle.replan_command.specs.Rests.{CanKeep, IsRestFor}
use Rattle.run_answers.specs.declared.status.Status.{Status}
use Rattle.run_answers.specs.declared.status.Status.TheVariants.{Good, Open, Words, Refused, ReadFault, WriteFault, NoMemory, BadDossier, Unfit, PlanRefused}

-- The source tells its bytes, which are at most `plan_limit`, mean this instance without an unfit ship and then this plan, of which the part that is asked for can be kept; and it counts no fault.
pub record IsReplanServed (source : Drained) (D : DayRest) (I : Instance) (G : Plan) : Type 0 where
  pub bytes : List ℕ
  pub told : source.before ≡ Some bytes
  pub few : length bytes ≤ plan_limit
  pub means : Means (instance_part bytes) I
  pub fit : HasNoUnfit I
  pub planned : IsPlanText I (after_instance bytes) G
  pub can : CanKeep I G D
  pub calm : ¬ Rose source.faults source.faults_after

-- a rest is left for which the nodes or turns aren't surely enough
pub record IsRestUnsure (options : ReplanOptions) (I : Instance) (G : Plan) : Type 0 where
  pub rest : Instance
  pub is_rest : IsRestFor I G options.rest rest
  pub unsure : ¬ AreEnough rest options.nodes options.turns

-- how replanning may end: open only where the nodes or turns aren't surely enough for the rest
abbrev pub MayEndReplan : ReplanOptions → Instance → Plan → Status → Type 0
MayEndReplan options I G Good = ⊤
MayEndReplan options I G Open = IsRestUnsure options I G
MayEndReplan options I G Words = ⊥
MayEndReplan options I G Refused = ⊥
MayEndReplan options I G ReadFault = ⊥
MayEndReplan options I G WriteFault = ⊥
MayEndReplan options I G NoMemory = ⊤
MayEndReplan options I G BadDossier = ⊥
MayEndReplan options I G Unfit = ⊥
MayEndReplan options I G PlanRefused = ⊥
