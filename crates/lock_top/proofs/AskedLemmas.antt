-- Words that mean a command.
use Rattle.std.proofs.Common.{ℕ, ◌≡◌, ◌≤◌, ◌⊎◌, inl, inr, List, Ok, Err, Result}
use Rattle.std.specs.Result.{IsErrOf}
use Rattle.list_laws.proofs.Variants.{one-ok}
use Rattle.command_words.specs.Meaning.{IsGood, GivesRest, GivesOptions, MeanCommand}
use Rattle.command_words.specs.declared.commands.Command.{Command}
use Rattle.command_words.specs.declared.commands.Command.TheVariants.{Solve, Check, Lot, Trial, Judge, Play, Replan, Lower, Resume}
use Rattle.command_words.specs.declared.commands.DayRest.{DayRest}
use Rattle.command_words.specs.declared.commands.DayRest.TheVariants.{Known, Lived}
use Rattle.replan_command.specs.Rests.{minute_of}
use Rattle.command_words.specs.declared.errors.WordsError.{WordsError}
use Rattle.command_words.specs.declared.errors.WordsError.TheVariants as error
use Rattle.lock_top.specs.Asked.{MeanOnly, HasNumbers}

wanting : (a : Command) (r : Result Command WordsError) → r ≡ Ok a → r ≡ Err error.NoMemory → ⊥
wanting a r e f = cc

-- the command that was read is the only one that the words mean
pub mean_only : (words : List (List ℕ)) (command : Command) (r : Result Command WordsError) → r ≡ Ok command → MeanCommand words command
    → ((c : Command) → MeanCommand words c → (r ≡ Ok c) ⊎ IsErrOf r error.NoMemory) → MeanOnly words command
mean_only words command r is means each = record {
  means = means;
  only = λ other meant. elim (each other meant) [
    | inl e ↦ one-ok r other command e is
    | inr n ↦ absurd (wanting command r is n)
  ];
}

-- ---- the numbers of what the words mean are in their ranges

rest_early : (words : List (List ℕ)) (good : IsGood words) (D : DayRest) → GivesRest D good.given → minute_of D ≤ 1000000
rest_early words good (Known minute) gives = gives.1.high
rest_early words good (Lived minute) gives = gives.1.high

given_numbers : (words : List (List ℕ)) (good : IsGood words) (command : Command) → GivesOptions command good.given → HasNumbers command
given_numbers words good (Solve options) gives = record { nodes = (gives.nodes.low, gives.nodes.high); turns = (gives.turns.low, gives.turns.high); workers = (gives.workers.low, gives.workers.high) }
given_numbers words good Check gives = tt
given_numbers words good (Lot options) gives = record { ships = (gives.ships.low, gives.ships.high); chambers = (gives.chambers.low, gives.chambers.high) }
given_numbers words good (Trial options) gives = record {
  lot = record { ships = (gives.lot.ships.low, gives.lot.ships.high); chambers = (gives.lot.chambers.low, gives.lot.chambers.high) };
  nodes = (gives.nodes.low, gives.nodes.high);
  turns = (gives.turns.low, gives.turns.high);
}
given_numbers words good Judge gives = tt
given_numbers words good Play gives = tt
given_numbers words good (Replan options) gives = record {
  minute = rest_early words good options.rest gives.rest;
  nodes = (gives.nodes.low, gives.nodes.high);
  turns = (gives.turns.low, gives.turns.high);
  workers = (gives.workers.low, gives.workers.high);
}
given_numbers words good Lower gives = tt
given_numbers words good (Resume options) gives = record { nodes = (gives.nodes.low, gives.nodes.high); turns = (gives.turns.low, gives.turns.high); workers = (gives.workers.low, gives.workers.high) }

pub has_numbers : (words : List (List ℕ)) (command : Command) → MeanCommand words command → HasNumbers command
has_numbers words command means = given_numbers words means.good command means.gives.options
