-- The first berth of a ship.
use Rattle.lock_model.specs.declared.placement.Rank.TheVariants.{Left}
use Rattle.lock_model.specs.declared.placement.Moor.TheVariants.{Quay}
use Rattle.refute_rules.specs.declared.choices.Berth.{Berth}

abbrev pub first_berth : Berth
first_berth = record { rank = Left; moor = Quay }
