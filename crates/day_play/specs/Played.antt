-- What `play` answers.
use Rattle.std.specs.Prelude.{List}
use Rattle.mooring_rules.specs.declared.breaks.BrokenPlan.{BrokenPlan}
use Rattle.day_play.specs.declared.beat.Beat.{Beat}
use Rattle.day_play.specs.declared.playing.Played.{Played}
use Rattle.day_play.specs.declared.playing.Played.TheVariants.{Day, Stuck}

-- where the answer is a day, it is so
abbrev pub OnDay : Played → (List Beat → Type 0) → Type 0
OnDay (Day d) Q = Q d
OnDay (Stuck b) Q = Unit {0}

-- where the answer is a break, it is so
abbrev pub OnStuck : Played → (BrokenPlan → Type 0) → Type 0
OnStuck (Day d) Q = Unit {0}
OnStuck (Stuck b) Q = Q b
