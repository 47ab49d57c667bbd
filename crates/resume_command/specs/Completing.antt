-- How `resume` may end on an open dossier whose instance has no unfit ship: its certificate stands and the search is done, or it fails and is refused, or memory was wanting or the sink failed.
use Rattle.std.specs.Prelude.{⊤}
use Rattle.lock_model.specs.declared.instance.Instance.{Instance}
use Rattle.certificate_rules.specs.Certificates.{Certificate, Stands}
use Rattle.book_rules.specs.Ends.{AreEnough}
use Rattle.command_words.specs.declared.commands.SolveOptions.{SolveOptions}
use Rattle.run_answers.specs.declared.status.Status.{Status}
use Rattle.run_answers.specs.declared.status.Status.TheVariants.{Good, Open, Words, Refused, ReadFault, WriteFault, NoMemory, BadDossier, Unfit, PlanRefused}
use Rattle.dossier_commands.specs.Completing.{FailsSomewhere}
use Rattle.resume_command.specs.Resuming.{budget_of}

-- open only where its nodes or turns aren't surely enough
abbrev pub MayResume : SolveOptions → Instance → Certificate → Status → Type 0
MayResume options I C Good = Stands I C
MayResume options I C Open = Stands I C × ¬ AreEnough I (budget_of C options.nodes) options.turns
MayResume options I C Words = ⊥
MayResume options I C Refused = ⊥
MayResume options I C ReadFault = ⊥
MayResume options I C WriteFault = ⊤
MayResume options I C NoMemory = ⊤
MayResume options I C BadDossier = FailsSomewhere I C
MayResume options I C Unfit = ⊥
MayResume options I C PlanRefused = ⊥
