-- What `check` answers to what `solve --dossier` wrote.
use Rattle.std.proofs.Common.{ℕ, ◌≡◌, ◌≢◌, ◌++◌, Bool, true, false, List, sym, subst, ap, ◌∙◌, refl, Some, true≢false}
use Rattle.std.specs.declared.option.Option.{Option}
use Rattle.std.specs.Io.KnownBytes.{Appends}
use Rattle.std.proofs.lemmas.List.{append_cancel_left}
use Rattle.certificate_rules.proofs.FailLemmas.{fails-not_stands}
use Rattle.cert_text.specs.Dossier.{dossier, Reads}
use Rattle.command_words.specs.declared.commands.Command.TheVariants.{Check}
use Rattle.lock_rules.specs.Unfit.{HasNoUnfit}
use Rattle.run_answers.specs.Sources.{Drained, AnswersBytes}
use Rattle.run_answers.specs.declared.status.Status.{Status}
use Rattle.run_answers.specs.declared.status.Status.TheVariants.{Good, Open, Words, Refused, ReadFault, WriteFault, NoMemory, BadDossier, Unfit, PlanRefused}
use Rattle.run_answers.proofs.SourceLemmas.{told_says, told_refused}
use Rattle.checked_dossiers.specs.Refused.{dossier_limit}
use Rattle.dossier_commands.specs.Checking.{AnswersCheck}
use Rattle.lock_top.specs.Asked.{Asks}
use Rattle.lock_top.specs.Runs.{Filled, Run, Got, run_of}
use Rattle.lock_top.specs.Clauses.{Did, IsCertified, KeepsItsWord}
use Rattle.lock_top.specs.Laws.{IsHandedOn, EndsAccepted}
use Rattle.lock_top.proofs.AnswerLemmas.{meant_answer}
use Rattle.lock_top.proofs.CheckLemmas.{own_shown, own_fails}
use Rattle.checked_dossiers.proofs.FitLemmas.{legal_fits}
use Rattle.checked_dossiers.proofs.ExactLemmas.{no_unfit}
use Rattle.cert_text.specs.declared.heading.Form.TheVariants as form

-- ---- the bytes that were handed on are the dossier

appended_some : (old bytes text : List ℕ) (held held_after : Option (List ℕ)) → held ≡ Some old → held_after ≡ Some (old ++ bytes) → Appends held held_after text → bytes ≡ text
appended_some old bytes text held held_after before after appended =
    let grown : old ++ bytes ≡ old ++ text = subst (λ h. Appends (Some old) h text) after (subst (λ h. Appends h held_after text) before appended) in
    append_cancel_left old bytes text grown

-- ---- how a run ends

abbrev is_cut : Status → Bool
is_cut WriteFault = true
is_cut _ = false

not_cut : (status : Status) → is_cut status ≡ false → status ≢ WriteFault
not_cut status whole is = true≢false (sym (ap is_cut is) ∙ whole)

module _ (first : Run) (certified : Did IsCertified first) (words : List (List ℕ)) (source : Drained) (sink : Filled) (handed : IsHandedOn first.sink source) (ask : Asks words Check) where
  reads_handed : Reads form.Whole handed.bytes certified.says.instance certified.says.certificate
  reads_handed =
      let own = certified.says in
      let certified_got : Got first (dossier form.Whole own.instance own.certificate) = subst (Got first) own.shown certified.got in
      let same = appended_some handed.old handed.bytes (dossier form.Whole own.instance own.certificate) first.sink.held first.sink.held_after handed.before handed.after (certified_got) in
      subst (λ bytes. Reads form.Whole bytes own.instance own.certificate) (sym same) own.reads

  fit : HasNoUnfit certified.says.instance
  fit = legal_fits certified.says.instance certified.says.certificate.plan certified.says.accepts.stands.legal

  told : (status : Status) (text : List ℕ) → AnswersBytes dossier_limit AnswersCheck source status text → AnswersCheck handed.bytes status text
  told status text read = told_says dossier_limit AnswersCheck source handed.bytes handed.told status text read

  pub accepted_ends : (status : Status) → KeepsItsWord (run_of words source sink status) → EndsAccepted certified.says.certificate.cost (run_of words source sink status) status
  accepted_ends Good run =
      let written = run.written (not_cut Good refl) in
      let shown = own_shown handed.bytes certified.says.instance certified.says.certificate reads_handed fit written.text (told Good written.text (meant_answer words source Good written.text Check written.answer ask.means)) in
      subst (Got (run_of words source sink Good)) shown written.appended
  accepted_ends Open run =
      let written = run.written (not_cut Open refl) in
      told Open written.text (meant_answer words source Open written.text Check written.answer ask.means)
  accepted_ends Words run =
      let written = run.written (not_cut Words refl) in
      written.answer.bad Check ask.means
  accepted_ends Refused run =
      let written = run.written (not_cut Refused refl) in
      told_refused dossier_limit AnswersCheck source handed.bytes handed.told handed.few written.text (meant_answer words source Refused written.text Check written.answer ask.means)
  accepted_ends ReadFault run =
      let written = run.written (not_cut ReadFault refl) in
      (meant_answer words source ReadFault written.text Check written.answer ask.means).rose
  accepted_ends WriteFault run = run.fault refl
  accepted_ends NoMemory run =
      let written = run.written (not_cut NoMemory refl) in
      subst (Got (run_of words source sink NoMemory)) written.answer written.appended
  accepted_ends BadDossier run =
      let written = run.written (not_cut BadDossier refl) in
      let fails = own_fails handed.bytes certified.says.instance certified.says.certificate reads_handed fit written.text (told BadDossier written.text (meant_answer words source BadDossier written.text Check written.answer ask.means)) in
      fails-not_stands certified.says.instance certified.says.certificate fails.0 fails.1 fails.2 certified.says.accepts.stands
  accepted_ends Unfit run =
      let written = run.written (not_cut Unfit refl) in
      no_unfit form.Whole handed.bytes written.text certified.says.instance certified.says.certificate reads_handed fit (told Unfit written.text (meant_answer words source Unfit written.text Check written.answer ask.means))
  accepted_ends PlanRefused run =
      let written = run.written (not_cut PlanRefused refl) in
      told PlanRefused written.text (meant_answer words source PlanRefused written.text Check written.answer ask.means)
