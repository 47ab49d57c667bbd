-- What is asked rightly is done.
use Rattle.std.proofs.Common.{ℕ, ◌≡◌, ◌⊎◌, List, sym, subst, ◌∙◌, inl, inr}
use Rattle.lock_model.specs.declared.instance.Instance.{Instance}
use Rattle.lock_rules.specs.Unfit.{HasNoUnfit, IsFirstUnfit}
use Rattle.instance_text.specs.Reading.{Means}
use Rattle.lock_model.proofs.InstanceLemmas.{same_instance}
use Rattle.instance_text.proofs.ReadingLemmas.{Means-one, Means-no_defect}
use Rattle.plan_print.specs.Report.{verdict_line}
use Rattle.command_words.specs.declared.commands.Command.{Command}
use Rattle.command_words.specs.declared.commands.Command.TheVariants.{Solve, Check, Lot, Trial, Judge, Play, Replan, Lower, Resume}
use Rattle.command_words.specs.declared.commands.SolveOptions.{SolveOptions}
use Rattle.command_words.specs.declared.commands.LotOptions.{LotOptions}
use Rattle.command_words.specs.declared.commands.TrialOptions.{TrialOptions}
use Rattle.run_answers.specs.Refusals.{IsUnfitShip}
use Rattle.run_answers.specs.Sources.{Drained, Saying, AnswersSource, IsServed, plan_limit}
use Rattle.run_answers.specs.declared.status.Status.{Status}
use Rattle.run_answers.specs.declared.status.Status.TheVariants.{Good, Open, Words, Refused, ReadFault, WriteFault, NoMemory, BadDossier, Unfit, PlanRefused}
use Rattle.run_answers.proofs.SourceLemmas.{served_says}
use Rattle.solve_commands.specs.Searching.{Search, AnswersPrinted}
use Rattle.solve_commands.specs.Solving.{solve_limit, search_of, AnswersSolve}
use Rattle.solve_commands.specs.Lots.{IsLot, AnswersLot, AnswersTrial}
use Rattle.solve_commands.proofs.EnoughLemmas.{open_ends, left_ends}
use Rattle.checked_dossiers.specs.Refused.{dossier_limit}
use Rattle.dossier_commands.specs.Checking.{AnswersCheck}
use Rattle.dossier_commands.specs.Lowering.{AnswersLower}
use Rattle.resume_command.specs.Resuming.{AnswersResume}
use Rattle.dossier_commands.specs.Completing.{MayLower}
use Rattle.resume_command.specs.Completing.{MayResume}
use Rattle.dossier_commands.proofs.CompleteLemmas.{lower_ends}
use Rattle.resume_command.proofs.CompleteLemmas.{resume_ends}
use Rattle.plan_commands.specs.Judging.{AnswersJudge}
use Rattle.plan_commands.specs.Playing.{AnswersPlay}
use Rattle.plan_commands.proofs.CompleteLemmas.{judged_good, played_good}
use Rattle.replan_command.specs.Ends.{MayEndReplan}
use Rattle.replan_command.proofs.EndsLemmas.{replan_ends}
use Rattle.lock_top.specs.Asked.{Asks}
use Rattle.lock_top.specs.Answers.{AnswersCommand, RunAnswers}
use Rattle.lock_top.specs.Complete.{MayEnd, MayCheck, MayPrint, IsComplete}
use Rattle.lock_top.specs.Runs.{Filled}
use Rattle.lock_top.proofs.AnswerLemmas.{by_command}
use Rattle.lock_top.proofs.CheckLemmas.{check_ends}

-- ---- `solve` over bytes that mean an instance without an unfit ship

module _ (options : SolveOptions) (bytes : List ℕ) (I : Instance) (means : Means bytes I) (fit : HasNoUnfit I) where
  not_unfit : (J : Instance) (text : List ℕ) → Means bytes J → IsUnfitShip J text → ⊥
  not_unfit J text other unfit =
      let first : IsFirstUnfit I unfit.ship = subst (λ K. IsFirstUnfit K unfit.ship) (Means-one bytes J I other means) unfit.first in
      let fits = fit.fit unfit.ship first.known in
      first.unfit fits.chamber fits.known fits.fits

  solve_ends : (status : Status) (text : List ℕ) → AnswersSolve options bytes status text → MayEnd I options.nodes options.turns status
  solve_ends Good text told = tt
  solve_ends Open text told =
      subst (λ J. MayEnd J options.nodes options.turns Open) (Means-one bytes told.instance I told.means means)
      (left_ends options.keep (search_of options.nodes options.turns told.instance) text told.answer)
  solve_ends Words text told = told
  solve_ends Refused text told = Means-no_defect bytes I told.line told.kind means told.defect
  solve_ends ReadFault text told = told
  solve_ends WriteFault text told = tt
  solve_ends NoMemory text told = tt
  solve_ends BadDossier text told = told
  solve_ends Unfit text told = not_unfit told.instance text told.means told.answer
  solve_ends PlanRefused text told = told

-- ---- `lot` and `trial`

lot_ends : (options : LotOptions) (status : Status) (text : List ℕ) → AnswersLot options status text → MayPrint status
lot_ends options Good text told = tt
lot_ends options Open text told = told
lot_ends options Words text told = told
lot_ends options Refused text told = told
lot_ends options ReadFault text told = told
lot_ends options WriteFault text told = tt
lot_ends options NoMemory text told = tt
lot_ends options BadDossier text told = told
lot_ends options Unfit text told = told
lot_ends options PlanRefused text told = told

line_ends : (k : Search) (status : Status) (text : List ℕ) → AnswersPrinted verdict_line k status text → MayEnd k.instance k.nodes k.turns status
line_ends k Good text told = tt
line_ends k Open text told = open_ends verdict_line k text told
line_ends k Words text told = told
line_ends k Refused text told = told
line_ends k ReadFault text told = told
line_ends k WriteFault text told = tt
line_ends k NoMemory text told = tt
line_ends k BadDossier text told = told
line_ends k Unfit text told = told
line_ends k PlanRefused text told = told

trial_ends : (options : TrialOptions) (I : Instance) → IsLot options.lot.number options.lot.ships options.lot.chambers I → (status : Status) (text : List ℕ)
    → AnswersTrial options status text → MayEnd I options.nodes options.turns status
trial_ends options I lot status text told =
    let same : told.instance ≡ I = same_instance told.instance I (told.lot.chambers_are ∙ sym lot.chambers_are) (told.lot.ships_are ∙ sym lot.ships_are) in
    subst (λ J. MayEnd J options.nodes options.turns status) same (line_ends (search_of options.nodes options.turns told.instance) status text told.answer)

-- ---- what was answered to the words

module _ (words : List (List ℕ)) (source : Drained) (status : Status) (text : List ℕ) (answer : RunAnswers words source status text) where
  -- by what is answered to the command that they mean
  by_answer : (May : Status → Type 0) → May NoMemory → (command : Command) → Asks words command → (AnswersCommand command source status text → May status) → May status
  by_answer May want command ask ends = elim (by_command words source command status text ask.means answer) [
    | inl is ↦ subst May (sym is) want
    | inr told ↦ ends told
  ]

  -- by what is said to the bytes of a source that is served
  by_bytes : (May : Status → Type 0) → May NoMemory → (most : ℕ) (Says : Saying) (bytes : List ℕ) → IsServed most source bytes → ((status : Status) (text : List ℕ) → Says bytes status text → May status) → AnswersSource most Says source status text → May status
  by_bytes May want most Says bytes served ends told = elim (served_says most Says source bytes served status text told) [
    | inl is ↦ subst May (sym is) want
    | inr says ↦ ends status text says
  ]

may_print : (status : Status) → (status ≡ Good) ⊎ (status ≡ NoMemory) → MayPrint status
may_print status (inl good) = subst MayPrint (sym good) tt
may_print status (inr want) = subst MayPrint (sym want) tt

-- COMPLETENESS, from what was answered,
pub complete : (words : List (List ℕ)) (source : Drained) (sink : Filled) (status : Status) (text : List ℕ) → RunAnswers words source status text → IsComplete (record { words = words; source = source; sink = sink; status = status })
complete words source sink status text answer = record {
  solve = λ options bytes I ask served means fit.
      by_answer words source status text answer (MayEnd I options.nodes options.turns) tt (Solve options) ask
      (by_bytes words source status text answer (MayEnd I options.nodes options.turns) tt solve_limit (AnswersSolve options) bytes served (solve_ends options bytes I means fit));
  check = λ bytes I C ask served reads fit.
      by_answer words source status text answer (MayCheck I C) tt Check ask
      (by_bytes words source status text answer (MayCheck I C) tt dossier_limit AnswersCheck bytes served (check_ends bytes I C reads fit));
  lot = λ options ask. by_answer words source status text answer MayPrint tt (Lot options) ask (λ told. lot_ends options status text told.1);
  trial = λ options I ask lot. by_answer words source status text answer (MayEnd I options.nodes options.turns) tt (Trial options) ask (λ told. trial_ends options I lot status text told.1);
  judge = λ bytes I P ask served planned.
      by_answer words source status text answer MayPrint tt Judge ask
      (by_bytes words source status text answer MayPrint tt plan_limit AnswersJudge bytes served (λ s t says. may_print s (judged_good bytes t I P planned s says)));
  play = λ bytes I P ask served planned.
      by_answer words source status text answer MayPrint tt Play ask
      (by_bytes words source status text answer MayPrint tt plan_limit AnswersPlay bytes served (λ s t says. may_print s (played_good bytes t I P planned s says)));
  replan = λ options I G ask served whole.
      by_answer words source status text answer (MayEndReplan options I G) tt (Replan options) ask (replan_ends options source I G served status text);
  lower = λ bytes I C ask served reads fit.
      by_answer words source status text answer (MayLower I C) tt Lower ask
      (by_bytes words source status text answer (MayLower I C) tt dossier_limit AnswersLower bytes served (lower_ends bytes I C reads fit));
  resume = λ options bytes I C ask served reads fit.
      by_answer words source status text answer (MayResume options I C) tt (Resume options) ask
      (by_bytes words source status text answer (MayResume options I C) tt dossier_limit (AnswersResume options) bytes served (resume_ends bytes I C reads fit options));
}
