-- How a node may end.
use Rattle.std.specs.Prelude.{⊤}
use Rattle.refute_rules.specs.Spots.{IsSpotHard}
use Rattle.node_work.specs.declared.fate.Fate.{Fate}
use Rattle.node_work.specs.declared.fate.Fate.TheVariants.{Spent}

-- a spent group is spot-hard for its turns
abbrev pub MayEnd : Fate → Type 0
MayEnd (Spent c p hard) = IsSpotHard hard.value.deck hard.value.turns
MayEnd _ = ⊤
