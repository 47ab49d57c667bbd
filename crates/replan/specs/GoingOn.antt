-- The law of the rest as lived: which plans can still be carried out at a minute, and that they are those that come from plans of the rest.
use Rattle.std.specs.Prelude.{ℕ, ◌≡◌, ◌+◌, ◌≤◌, List, [], ◌∷◌, ◌++◌, length, Option, Some, None}
use Rattle.lock_model.specs.declared.instance.Instance.{Instance}
use Rattle.lock_model.specs.declared.plan.Plan.{Plan}
use Rattle.lock_rules.specs.Plan.{IsLegal, IsCheapest, cost_of}
use Rattle.day_play.specs.declared.beat.Act.TheVariants.{Turn}
use Rattle.day_play.specs.declared.beat.Beat.{Beat}
use Rattle.day_play.specs.GoingOn.{GoesOn}
use Rattle.day_play.specs.Lawful.{IsLawfulCourse}
use Rattle.day_play.specs.Playing.{chamber_beats, mixed, day_of}
use Rattle.replan.specs.Begun.{begun_turn, turn_minute}
use Rattle.replan.specs.Kept.{kept_of, CanBeKept}
use Rattle.replan.specs.Lived.{IsLivedRest, CanBeLived}
use Rattle.replan.specs.Rest.{ships_left, chamber_after, added_of}
use Rattle.replan.specs.Together.{joined, Keeps, ComesFrom}

-- the beat of a turn of chamber c at minute t, where it is for some lockage
abbrev pub turn_beats_for : ℕ → ℕ → Option ℕ → List Beat
turn_beats_for c t None = []
turn_beats_for c t (Some p) = record { minute = t; chamber = c; lockage = p; act = Turn } ∷ []

-- the beats of what has begun in chamber c: of the kept lockages, and of the begun turn
abbrev pub begun_beats : Instance → Plan → ℕ → ℕ → List Beat
begun_beats I P M c = chamber_beats I (kept_of P M) c ++ turn_beats_for c (turn_minute (chamber_after I (kept_of P M) c)) (begun_turn I P M c)

-- THE DAY OF WHAT HAS BEGUN
abbrev pub day_begun : Instance → Plan → ℕ → List Beat
day_begun I P M = mixed (begun_beats I P M) (length I.chambers)

-- Plan W can still be carried out: it keeps the begun lockages, and has a lawful day that goes on at minute M from the day of what has begun.
pub record CanGoOn (I : Instance) (P : Plan) (M : ℕ) (W : Plan) : Type 0 where
  pub keeps : Keeps (kept_of P M) M W
  pub day : List Beat
  pub lawful : IsLawfulCourse I W day
  pub goes_on : GoesOn M (day_begun I P M) day

-- Plan W is legal, can still be carried out, and costs as much more than the plan Q of the rest as the begun lockages and the delays do.
pub record IsGoneOn (I R : Instance) (P : Plan) (M : ℕ) (Q W : Plan) : Type 0 where
  pub legal : IsLegal I W
  pub can : CanGoOn I P M W
  pub cost : cost_of I W ≡ cost_of R Q + added_of I (kept_of P M) M

-- What has begun is what is played: the day of a legal plan goes on from the day of what has begun in it, so the plan can still be carried out.
abbrev pub LegalPlansGoOn : Type 0
LegalPlansGoOn = (I : Instance) (P : Plan) (M : ℕ) → IsLegal I P → CanBeKept I (kept_of P M) → GoesOn M (day_begun I P M) (day_of I P) × CanGoOn I P M P

-- Every legal plan of the rest, put together with the kept lockages, is a legal plan that can still be carried out.
abbrev pub RestsGoOn : Type 0
RestsGoOn = (I R : Instance) (P : Plan) (M : ℕ) → CanBeLived I P M → IsLivedRest I P M R → (Q : Plan) → IsLegal R Q
    → IsGoneOn I R P M Q (joined (kept_of P M) (ships_left I (kept_of P M)) Q)

-- Every legal plan that can still be carried out comes from a plan of the rest, up to the order of lockages.
abbrev pub ComeFromLivedRests : Type 0
ComeFromLivedRests = (I R : Instance) (P : Plan) (M : ℕ) → CanBeLived I P M → IsLivedRest I P M R → (W : Plan) → IsLegal I W → CanGoOn I P M W
    → (Q : Plan) × ComesFrom I R (kept_of P M) M W Q

-- A cheapest plan of the rest makes a cheapest one of those that can still be carried out.
abbrev pub StayCheapestAsLived : Type 0
StayCheapestAsLived = (I R : Instance) (P : Plan) (M : ℕ) → CanBeLived I P M → IsLivedRest I P M R → (Q W : Plan) → IsCheapest R Q → IsLegal I W → CanGoOn I P M W
    → cost_of I (joined (kept_of P M) (ships_left I (kept_of P M)) Q) ≤ cost_of I W
