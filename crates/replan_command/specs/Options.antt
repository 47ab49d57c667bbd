-- The numbers of the options, in their ranges.
use Rattle.std.specs.Prelude.{◌≤◌}
use Rattle.command_words.specs.declared.commands.ReplanOptions.{ReplanOptions}
use Rattle.lock_model.specs.declared.limits.TheConstants.{WORKERS}
use Rattle.lock_model.specs.Limits.{Within}
use Rattle.replan_command.specs.Rests.{minute_of}

pub record AreReplanNumbers (options : ReplanOptions) : Type 0 where
  pub minute : minute_of options.rest ≤ 1000000
  pub nodes : Within 1 1000000 options.nodes
  pub turns : Within 1 200000 options.turns
  pub workers : Within 1 WORKERS options.workers
