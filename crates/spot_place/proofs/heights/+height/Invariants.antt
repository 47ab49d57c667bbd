use Rattle.spot_place.proofs.heights.+height.Given as goal

abbrev pub decreases-height : goal.decreases-height
decreases-height l = l.steps
