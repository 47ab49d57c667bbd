-- The clauses of a run, by command and status.
use Rattle.std.specs.Prelude.{ℕ, ◌≡◌, ◌≢◌, Bool, true, false, List, [], IfSome, OnSome, Some}
use Rattle.lock_io.specs.Faults.{Rose}
use Rattle.lock_model.specs.declared.instance.Instance.{Instance}
use Rattle.lock_model.specs.declared.plan.Plan.{Plan}
use Rattle.lock_model.specs.declared.verdict.Verdict.TheVariants.{Optimal}
use Rattle.lock_rules.specs.Plan.{IsCheapest, cost_of}
use Rattle.certificate_rules.specs.Certificates.{Certificate, Accepts}
use Rattle.certificate_rules.specs.WellFormed.{IsWellFormed}
use Rattle.instance_text.specs.Reading.{Means}
use Rattle.instance_text.specs.Canonical.{canonical}
use Rattle.cert_text.specs.Dossier.{dossier, Reads}
use Rattle.plan_print.specs.Report.{report, verdict_line}
use Rattle.command_words.specs.declared.commands.SolveOptions.{SolveOptions}
use Rattle.command_words.specs.declared.commands.LotOptions.{LotOptions}
use Rattle.command_words.specs.declared.commands.TrialOptions.{TrialOptions}
use Rattle.command_words.specs.declared.commands.ReplanOptions.{ReplanOptions}
use Rattle.command_words.specs.declared.commands.Command.TheVariants.{Solve, Check, Lot, Trial, Judge, Play, Replan, Lower, Resume}
use Rattle.run_answers.specs.Sources.{IsUnread}
use Rattle.run_answers.specs.declared.status.Status.TheVariants.{Good, Open, WriteFault}
use Rattle.solve_commands.specs.Searching.{PrintsOpen}
use Rattle.solve_commands.specs.Keeping.{PrintsLeft}
use Rattle.solve_commands.specs.Solving.{search_of}
use Rattle.solve_commands.specs.Lots.{IsLot}
use Rattle.dossier_commands.specs.Checking.{PrintsAccepted}
use Rattle.dossier_commands.specs.Lowering.{PrintsEqual, PrintsGap}
use Rattle.resume_command.specs.Resuming.{ResumesBest, ResumesOpen}
use Rattle.plan_commands.specs.Judging.{PrintsJudged}
use Rattle.plan_commands.specs.Playing.{PrintsPlayed}
use Rattle.replan_command.specs.Replanning.{AnswersReplan}
use Rattle.lock_top.specs.Asked.{Asks}
use Rattle.lock_top.specs.Runs.{Run, Got}
use Rattle.lock_top.specs.Answers.{IsWrittenWhole, IsCutOff}
use Rattle.lock_top.specs.Complete.{IsComplete}
use Rattle.cert_text.specs.declared.heading.Form.TheVariants as form

-- These are all bytes that the source had left, read to its end, and the sink got a text of which, with these bytes, this is so.
pub record Did (Says : List ℕ → List ℕ → Type 0) (run : Run) : Type 0 where
  pub bytes : List ℕ
  pub all : IfSome run.source.before (λ left. bytes ≡ left)
  pub end : OnSome run.source.before (run.source.after ≡ Some [])
  pub text : List ℕ
  pub says : Says bytes text
  pub got : Got run text

-- SOLVE, OPTIMAL. The bytes mean an instance, and the text is the report of a plan of it that is cheapest over all legal plans.
pub record IsSolved (bytes text : List ℕ) : Type 0 where
  pub instance : Instance
  pub plan : Plan
  pub means : Means bytes instance
  pub cheapest : IsCheapest instance plan
  pub shown : text ≡ report instance plan Optimal

-- SOLVE WITH `--dossier`, OPTIMAL. The bytes mean an instance, and the text is the dossier of it and of a certificate that is accepted; so its plan is cheapest over all legal plans and has its cost. The dossier is read back as the same two.
pub record IsCertified (bytes text : List ℕ) : Type 0 where
  pub instance : Instance
  pub certificate : Certificate
  pub means : Means bytes instance
  pub formed : IsWellFormed instance certificate
  pub accepts : Accepts instance certificate
  pub cheapest : IsCheapest instance certificate.plan
  pub cost : cost_of instance certificate.plan ≡ certificate.cost
  pub reads : Reads form.Whole (dossier form.Whole instance certificate) instance certificate
  pub shown : text ≡ dossier form.Whole instance certificate

abbrev pub IsSolvedAs : Bool → List ℕ → List ℕ → Type 0
IsSolvedAs true bytes text = IsCertified bytes text
IsSolvedAs false bytes text = IsSolved bytes text

-- SOLVE, OPEN. The bytes mean an instance, a search of it ended open, and the text is the report of its best plan and its verdict, or with `--keep` the open dossier of its own certificate.
pub record IsLeftOpen (options : SolveOptions) (bytes text : List ℕ) : Type 0 where
  pub instance : Instance
  pub means : Means bytes instance
  pub left : PrintsLeft options.keep (search_of options.nodes options.turns instance) text

-- LOT. Nothing was read, and the sink got the canonical text of the generator's instance.
pub record IsDrawn (options : LotOptions) (run : Run) : Type 0 where
  pub instance : Instance
  pub lot : IsLot options.number options.ships options.chambers instance
  pub unread : IsUnread run.source
  pub got : Got run (canonical instance)

-- TRIAL, OPTIMAL. Nothing was read, and the sink got the first line of the report of a cheapest plan of the generator's instance.
pub record IsTried (options : TrialOptions) (run : Run) : Type 0 where
  pub instance : Instance
  pub plan : Plan
  pub lot : IsLot options.lot.number options.lot.ships options.lot.chambers instance
  pub unread : IsUnread run.source
  pub cheapest : IsCheapest instance plan
  pub got : Got run (verdict_line instance plan Optimal)

-- TRIAL, OPEN. Nothing was read, a search of the generator's instance ended open, and the sink got the first line of the report of its best plan and its verdict.
pub record IsTriedOpen (options : TrialOptions) (run : Run) : Type 0 where
  pub instance : Instance
  pub text : List ℕ
  pub lot : IsLot options.lot.number options.lot.ships options.lot.chambers instance
  pub unread : IsUnread run.source
  pub left : PrintsOpen verdict_line (search_of options.nodes options.turns instance) text
  pub got : Got run text

-- THE CLAUSE OF A RUN. What was done with status 0 and 1, by command; that what is asked rightly is done; and each status with its cause and its text.
pub record KeepsItsWord (run : Run) : Type 0 where
  pub solved : (options : SolveOptions) → Asks run.words (Solve options) → run.status ≡ Good → Did (IsSolvedAs options.dossier) run
  pub left_open : (options : SolveOptions) → Asks run.words (Solve options) → run.status ≡ Open → Did (IsLeftOpen options) run
  pub accepted : Asks run.words Check → run.status ≡ Good → Did PrintsAccepted run
  pub drawn : (options : LotOptions) → Asks run.words (Lot options) → run.status ≡ Good → IsDrawn options run
  pub tried : (options : TrialOptions) → Asks run.words (Trial options) → run.status ≡ Good → IsTried options run
  pub tried_open : (options : TrialOptions) → Asks run.words (Trial options) → run.status ≡ Open → IsTriedOpen options run
  pub judged : Asks run.words Judge → run.status ≡ Good → Did PrintsJudged run
  pub played : Asks run.words Play → run.status ≡ Good → Did PrintsPlayed run
  pub replanned : (options : ReplanOptions) → Asks run.words (Replan options) → run.status ≡ Good → Did (λ bytes text. AnswersReplan options bytes Good text) run
  pub replanned_open : (options : ReplanOptions) → Asks run.words (Replan options) → run.status ≡ Open → Did (λ bytes text. AnswersReplan options bytes Open text) run
  pub proven : Asks run.words Lower → run.status ≡ Good → Did PrintsEqual run
  pub proven_below : Asks run.words Lower → run.status ≡ Open → Did PrintsGap run
  pub resumed : (options : SolveOptions) → Asks run.words (Resume options) → run.status ≡ Good → Did (ResumesBest options) run
  pub resumed_open : (options : SolveOptions) → Asks run.words (Resume options) → run.status ≡ Open → Did (ResumesOpen options) run
  pub complete : IsComplete run
  pub written : run.status ≢ WriteFault → IsWrittenWhole run
  pub cut_off : run.status ≡ WriteFault → IsCutOff run
  pub fault : run.status ≡ WriteFault → Rose run.sink.faults run.sink.faults_after
