-- The numbers of the commands' options, in their ranges.
use Rattle.command_words.specs.declared.commands.SolveOptions.{SolveOptions}
use Rattle.command_words.specs.declared.commands.LotOptions.{LotOptions}
use Rattle.command_words.specs.declared.commands.TrialOptions.{TrialOptions}
use Rattle.lock_model.specs.declared.limits.TheConstants.{CHAMBERS, SHIPS, WORKERS}
use Rattle.lock_model.specs.Limits.{Within}

pub record AreSolveNumbers (options : SolveOptions) : Type 0 where
  pub nodes : Within 1 1000000 options.nodes
  pub turns : Within 1 200000 options.turns
  pub workers : Within 1 WORKERS options.workers

pub record AreLotNumbers (options : LotOptions) : Type 0 where
  pub ships : Within 1 SHIPS options.ships
  pub chambers : Within 1 CHAMBERS options.chambers

pub record AreTrialNumbers (options : TrialOptions) : Type 0 where
  pub lot : AreLotNumbers options.lot
  pub nodes : Within 1 1000000 options.nodes
  pub turns : Within 1 200000 options.turns
