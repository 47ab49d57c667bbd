-- What is asked rightly is done, or memory was wanting, or the sink failed.
use Rattle.std.specs.Prelude.{ℕ, ◌≢◌, List, ⊤}
use Rattle.lock_model.specs.declared.instance.Instance.{Instance}
use Rattle.lock_model.specs.declared.plan.Plan.{Plan}
use Rattle.lock_rules.specs.Unfit.{HasNoUnfit}
use Rattle.book_rules.specs.Ends.{AreEnough}
use Rattle.certificate_rules.specs.Failures.{Fails}
use Rattle.certificate_rules.specs.declared.certificate.FailurePlace.{FailurePlace}
use Rattle.certificate_rules.specs.declared.certificate.Reason.{Reason}
use Rattle.certificate_rules.specs.Certificates.{Certificate, Accepts}
use Rattle.instance_text.specs.Reading.{Means}
use Rattle.cert_text.specs.Dossier.{Reads}
use Rattle.command_words.specs.declared.commands.SolveOptions.{SolveOptions}
use Rattle.command_words.specs.declared.commands.LotOptions.{LotOptions}
use Rattle.command_words.specs.declared.commands.TrialOptions.{TrialOptions}
use Rattle.command_words.specs.declared.commands.ReplanOptions.{ReplanOptions}
use Rattle.command_words.specs.declared.commands.Command.TheVariants.{Solve, Check, Lot, Trial, Judge, Play, Replan, Lower, Resume}
use Rattle.run_answers.specs.Sources.{IsServed, plan_limit}
use Rattle.run_answers.specs.declared.status.Status.{Status}
use Rattle.run_answers.specs.declared.status.Status.TheVariants.{Good, Open, Words, Refused, ReadFault, WriteFault, NoMemory, BadDossier, Unfit, PlanRefused}
use Rattle.solve_commands.specs.Solving.{solve_limit}
use Rattle.solve_commands.specs.Lots.{IsLot}
use Rattle.checked_dossiers.specs.Refused.{dossier_limit}
use Rattle.dossier_commands.specs.Completing.{MayLower}
use Rattle.resume_command.specs.Completing.{MayResume}
use Rattle.plan_commands.specs.Planned.{IsLegallyPlanned}
use Rattle.replan_command.specs.Ends.{IsReplanServed, MayEndReplan}
use Rattle.lock_top.specs.Asked.{Asks}
use Rattle.lock_top.specs.Runs.{Run}
use Rattle.cert_text.specs.declared.heading.Form.TheVariants as form

-- how a search may end: open only where the nodes or turns aren't surely enough
abbrev pub MayEnd : Instance → ℕ → ℕ → Status → Type 0
MayEnd I nodes turns Good = ⊤
MayEnd I nodes turns Open = ¬ AreEnough I nodes turns
MayEnd I nodes turns Words = ⊥
MayEnd I nodes turns Refused = ⊥
MayEnd I nodes turns ReadFault = ⊥
MayEnd I nodes turns WriteFault = ⊤
MayEnd I nodes turns NoMemory = ⊤
MayEnd I nodes turns BadDossier = ⊥
MayEnd I nodes turns Unfit = ⊥
MayEnd I nodes turns PlanRefused = ⊥

-- how a check may end
abbrev pub MayCheck : Instance → Certificate → Status → Type 0
MayCheck I C Good = Accepts I C
MayCheck I C Open = ⊥
MayCheck I C Words = ⊥
MayCheck I C Refused = ⊥
MayCheck I C ReadFault = ⊥
MayCheck I C WriteFault = ⊤
MayCheck I C NoMemory = ⊤
MayCheck I C BadDossier = (place : FailurePlace) × (reason : Reason) × Fails I C place reason
MayCheck I C Unfit = ⊥
MayCheck I C PlanRefused = ⊥

-- how a command that only prints may end
abbrev pub MayPrint : Status → Type 0
MayPrint Good = ⊤
MayPrint Open = ⊥
MayPrint Words = ⊥
MayPrint Refused = ⊥
MayPrint ReadFault = ⊥
MayPrint WriteFault = ⊤
MayPrint NoMemory = ⊤
MayPrint BadDossier = ⊥
MayPrint Unfit = ⊥
MayPrint PlanRefused = ⊥

-- COMPLETENESS. Over a source that is served, and bytes in which nothing is refused.
pub record IsComplete (run : Run) : Type 0 where
  pub solve : (options : SolveOptions) (bytes : List ℕ) (I : Instance) → Asks run.words (Solve options) → IsServed solve_limit run.source bytes → Means bytes I → HasNoUnfit I → MayEnd I options.nodes options.turns run.status
  pub check : (bytes : List ℕ) (I : Instance) (C : Certificate) → Asks run.words Check → IsServed dossier_limit run.source bytes → Reads form.Whole bytes I C → HasNoUnfit I → MayCheck I C run.status
  pub lot : (options : LotOptions) → Asks run.words (Lot options) → MayPrint run.status
  pub trial : (options : TrialOptions) (I : Instance) → Asks run.words (Trial options) → IsLot options.lot.number options.lot.ships options.lot.chambers I → MayEnd I options.nodes options.turns run.status
  pub judge : (bytes : List ℕ) (I : Instance) (P : Plan) → Asks run.words Judge → IsServed plan_limit run.source bytes → IsLegallyPlanned bytes I P → MayPrint run.status
  pub play : (bytes : List ℕ) (I : Instance) (P : Plan) → Asks run.words Play → IsServed plan_limit run.source bytes → IsLegallyPlanned bytes I P → MayPrint run.status
  pub replan : (options : ReplanOptions) (I : Instance) (G : Plan) → Asks run.words (Replan options) → IsReplanServed run.source options.rest I G → run.status ≢ WriteFault → MayEndReplan options I G run.status
  pub lower : (bytes : List ℕ) (I : Instance) (C : Certificate) → Asks run.words Lower → IsServed dossier_limit run.source bytes → Reads form.Open bytes I C → HasNoUnfit I → MayLower I C run.status
  pub resume : (options : SolveOptions) (bytes : List ℕ) (I : Instance) (C : Certificate) → Asks run.words (Resume options) → IsServed dossier_limit run.source bytes → Reads form.Open bytes I C → HasNoUnfit I → MayResume options I C run.status
