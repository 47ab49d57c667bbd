-- How `resume` ends on an open dossier whose instance has no unfit ship.
use Rattle.std.proofs.Common.{ℕ, List}
use Rattle.lock_model.specs.declared.instance.Instance.{Instance}
use Rattle.lock_rules.specs.Unfit.{HasNoUnfit}
use Rattle.certificate_rules.specs.Certificates.{Certificate}
use Rattle.book_rules.specs.Ends.{AreEnough}
use Rattle.cert_text.specs.Dossier.{Reads}
use Rattle.command_words.specs.declared.commands.SolveOptions.{SolveOptions}
use Rattle.run_answers.specs.declared.status.Status.{Status}
use Rattle.run_answers.specs.declared.status.Status.TheVariants.{Good, Open, Words, Refused, ReadFault, WriteFault, NoMemory, BadDossier, Unfit, PlanRefused}
use Rattle.solve_commands.proofs.EnoughLemmas.{left_ends}
use Rattle.checked_dossiers.proofs.OneLemmas.{own_said}
use Rattle.checked_dossiers.proofs.ExactLemmas.{no_unfit}
use Rattle.dossier_commands.proofs.CompleteLemmas.{own_standing, own_fails}
use Rattle.resume_command.specs.Resuming.{budget_of, search_on, AnswersResume}
use Rattle.resume_command.specs.Completing.{MayResume}
use Rattle.cert_text.specs.declared.heading.Form.TheVariants as form

module _ (bytes : List ℕ) (I : Instance) (C : Certificate) (reads : Reads form.Open bytes I C) (fit : HasNoUnfit I) where
  pub resume_ends : (options : SolveOptions) (s : Status) (text : List ℕ) → AnswersResume options bytes s text → MayResume options I C s
  resume_ends options Good text answer = own_standing bytes I C reads fit answer.instance answer.certificate answer.standing
  resume_ends options Open text answer =
      let few = left_ends options.keep (search_on options answer.instance answer.certificate) text answer.left in
      (own_standing bytes I C reads fit answer.instance answer.certificate answer.standing, own_said form.Open bytes I C reads (λ J D. ¬ AreEnough J (budget_of D options.nodes) options.turns) answer.instance answer.certificate answer.standing.reads few)
  resume_ends options Words text answer = answer
  resume_ends options Refused text answer = answer
  resume_ends options ReadFault text answer = answer
  resume_ends options WriteFault text answer = tt
  resume_ends options NoMemory text answer = tt
  resume_ends options BadDossier text answer = own_fails bytes I C reads fit text answer
  resume_ends options Unfit text answer = no_unfit form.Open bytes text I C reads fit answer
  resume_ends options PlanRefused text answer = answer
