-- What `play` answers to bytes: a status and what is written.
use Rattle.std.specs.Prelude.{ℕ, ◌≡◌, ◌<◌, List, ◌++◌, length, codes, decimal, ⊤}
use Rattle.std.specs.List.{flat_map}
use Rattle.lock_model.specs.Fleet.{ship_at, chamber_at}
use Rattle.lock_model.specs.declared.instance.Instance.{Instance}
use Rattle.lock_model.specs.declared.plan.Plan.{Plan}
use Rattle.lock_rules.specs.Lines.{lockage_at}
use Rattle.instance_text.specs.Canonical.{way_word}
use Rattle.day_play.specs.Lawful.{IsLawfulDay}
use Rattle.day_play.specs.Playing.{day_of}
use Rattle.day_play.specs.declared.beat.Act.{Act}
use Rattle.day_play.specs.declared.beat.Act.TheVariants.{Turn, Moor, Go, Done}
use Rattle.day_play.specs.declared.beat.Beat.{Beat}
use Rattle.run_answers.specs.Ended.{IsGoodOr}
use Rattle.run_answers.specs.declared.status.Status.{Status}
use Rattle.plan_commands.specs.Planned.{IsLegallyPlanned, AnswersIllegal}

-- what an act for lockage p names is in the instance and in the plan
abbrev pub IsKnownAct : Instance → Plan → ℕ → Act → Type 0
IsKnownAct I P p Turn = ⊤
IsKnownAct I P p (Moor i) = i < length I.ships
IsKnownAct I P p Go = p < length P.lockages
IsKnownAct I P p Done = ⊤

-- what a beat names is in the instance and in the plan
pub record IsKnownBeat (I : Instance) (P : Plan) (b : Beat) : Type 0 where
  pub chamber : b.chamber < length I.chambers
  pub act : IsKnownAct I P b.lockage b.act

-- an act for lockage p, with the ship's name or the lockage's way
abbrev pub act_words : Instance → Plan → ℕ → Act → List ℕ
act_words I P p Turn = codes "turn"
act_words I P p (Moor i) = codes "moor " ++ (ship_at I i).name
act_words I P p Go = codes "go " ++ way_word (lockage_at P p).way
act_words I P p Done = codes "done"

-- the minute, the chamber's name and the act
unfoldable pub beat_line : Instance → Plan → Beat → List ℕ
beat_line I P b = decimal b.minute ++ codes " " ++ (chamber_at I b.chamber).name ++ codes " " ++ act_words I P b.lockage b.act ++ codes "\n"

-- a line for each beat, and the line `end`
unfoldable pub day_lines : Instance → Plan → List Beat → List ℕ
day_lines I P beats = flat_map (beat_line I P) beats ++ codes "end\n"

-- The bytes name a legal plan, and the text is the lines of its day, which is a lawful one.
pub record PrintsPlayed (bytes text : List ℕ) : Type 0 where
  pub instance : Instance
  pub plan : Plan
  pub planned : IsLegallyPlanned bytes instance plan
  pub lawful : IsLawfulDay instance plan (day_of instance plan)
  pub shown : text ≡ day_lines instance plan (day_of instance plan)

-- what `play` answers to bytes
abbrev pub AnswersPlay : List ℕ → Status → List ℕ → Type 0
AnswersPlay bytes status text = IsGoodOr (PrintsPlayed bytes text) (λ s. AnswersIllegal bytes s text) status
