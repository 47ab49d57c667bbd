-- What `lot` and `trial` answer: a status and what is written. Both read nothing.
use Rattle.std.specs.Prelude.{ℕ, ◌≡◌, List, take}
use Rattle.lock_model.specs.declared.instance.Instance.{Instance}
use Rattle.instance_text.specs.Canonical.{canonical}
use Rattle.instance_text.specs.Lot.{lot_chambers, lot_ships}
use Rattle.plan_print.specs.Report.{verdict_line}
use Rattle.command_words.specs.declared.commands.LotOptions.{LotOptions}
use Rattle.command_words.specs.declared.commands.TrialOptions.{TrialOptions}
use Rattle.run_answers.specs.Texts.{no_memory_text}
use Rattle.run_answers.specs.declared.status.Status.{Status}
use Rattle.run_answers.specs.declared.status.Status.TheVariants.{Good, Open, Words, Refused, ReadFault, WriteFault, NoMemory, BadDossier, Unfit, PlanRefused}
use Rattle.solve_commands.specs.Searching.{AnswersPrinted}
use Rattle.solve_commands.specs.Solving.{search_of}

-- the instance that the generator makes of a number, with so many ships and chambers
pub record IsLot (number ships chambers : ℕ) (I : Instance) : Type 0 where
  pub chambers_are : I.chambers ≡ take chambers lot_chambers
  pub ships_are : I.ships ≡ lot_ships ships 1 number 0

-- the canonical text of the lot
pub record PrintsLot (options : LotOptions) (text : List ℕ) : Type 0 where
  pub instance : Instance
  pub lot : IsLot options.number options.ships options.chambers instance
  pub shown : text ≡ canonical instance

-- what `lot` answers
abbrev pub AnswersLot : LotOptions → Status → List ℕ → Type 0
AnswersLot options Good text = PrintsLot options text
AnswersLot options Open text = ⊥
AnswersLot options Words text = ⊥
AnswersLot options Refused text = ⊥
AnswersLot options ReadFault text = ⊥
AnswersLot options WriteFault text = ⊥
AnswersLot options NoMemory text = text ≡ no_memory_text
AnswersLot options BadDossier text = ⊥
AnswersLot options Unfit text = ⊥
AnswersLot options PlanRefused text = ⊥

-- what `trial` answers: the first line of the report of the lot
pub record AnswersTrial (options : TrialOptions) (status : Status) (text : List ℕ) : Type 0 where
  pub instance : Instance
  pub lot : IsLot options.lot.number options.lot.ships options.lot.chambers instance
  pub answer : AnswersPrinted verdict_line (search_of options.nodes options.turns instance) status text
