-- The rest of a day as it is lived: P is the given plan and M the minute.
use Rattle.std.specs.Prelude.{ℕ, ◌≡◌, ◌≤◌, ◌<◌, ◌↔◌, ◌⊎◌, List, [], length, map, max, Some, IsNone, IfSome}
use Rattle.lock_model.specs.declared.chamber.Chamber.{Chamber}
use Rattle.lock_model.specs.declared.instance.Instance.{Instance}
use Rattle.lock_model.specs.declared.plan.Plan.{Plan}
use Rattle.lock_rules.specs.Arrival.{numbers_from}
use Rattle.replan.specs.declared.refusal.ReplanError.{ReplanError}
use Rattle.replan.specs.declared.refusal.ReplanError.TheVariants.{Kept, Late}
use Rattle.replan.specs.declared.remainder.Residual.{Residual}
use Rattle.replan.specs.Begun.{begun_turn, chamber_begun}
use Rattle.replan.specs.Kept.{last_opening, kept_of, kept_places, CanBeKept}
use Rattle.replan.specs.PartBreaks.{IsPartRefusal}
use Rattle.replan.specs.Rest.{ships_left, ships_from, added_of}

-- a chamber that opens at minute M or later
abbrev pub opened_from : ℕ → Chamber → Chamber
opened_from M k = record k { opens = max k.opens M }

-- the chambers as what has begun leaves them, none of which opens before minute M
abbrev pub chambers_lived : Instance → Plan → ℕ → List Chamber
chambers_lived I P M = map (λ c. opened_from M (chamber_begun I P M c)) (numbers_from 0 (length I.chambers))

-- THE REST AS LIVED of an instance after a plan at minute M.
pub record IsLivedRest (I : Instance) (P : Plan) (M : ℕ) (R : Instance) : Type 0 where
  pub chambers : R.chambers ≡ chambers_lived I P M
  pub ships : R.ships ≡ ships_from I M (ships_left I (kept_of P M))

-- what has begun in chamber c is over when a chamber may still open
pub record IsOverInTime (I : Instance) (P : Plan) (M c : ℕ) : Type 0 where
  pub opens : (chamber_begun I P M c).opens ≤ last_opening

-- what has begun can be gone on from: the begun lockages can be kept, and all begun turns end in time
pub record CanBeLived (I : Instance) (P : Plan) (M : ℕ) : Type 0 where
  pub kept : CanBeKept I (kept_of P M)
  pub turns : (c : ℕ) → c < length I.chambers → IsOverInTime I P M c

-- What is left of the instance after a plan at minute M as lived. There is no rest where the begun lockages serve all ships.
pub record IsLivedLeft (I : Instance) (P : Plan) (M : ℕ) (r : Residual) : Type 0 where
  pub can : CanBeLived I P M
  pub kept : r.kept ≡ kept_of P M
  pub numbers : r.numbers ≡ ships_left I (kept_of P M)
  pub rest : IfSome r.rest (IsLivedRest I P M)
  pub done : IsNone r.rest ↔ (ships_left I (kept_of P M) ≡ [])
  pub added : r.added ≡ added_of I (kept_of P M) M

-- the begun turn of chamber c ends too late, and those of the chambers before it in time
pub record IsFirstLateTurn (I : Instance) (P : Plan) (M c : ℕ) : Type 0 where
  pub chamber : c < length I.chambers
  pub late : last_opening < (chamber_begun I P M c).opens
  pub before : (d : ℕ) → d < c → IsOverInTime I P M d

-- the begun lockages can be kept, and lockage p is the one for which the first late turn has begun
pub record IsTurnRefusal (I : Instance) (P : Plan) (M p : ℕ) : Type 0 where
  pub kept : CanBeKept I (kept_of P M)
  pub chamber : ℕ
  pub first : IsFirstLateTurn I P M chamber
  pub place : begun_turn I P M chamber ≡ Some p

-- Why what has begun can't be gone on from: the first break or late lockage of the kept ones, or else the first late turn, by the place of the lockage for which it has begun.
abbrev pub IsLivedRefusal : Instance → Plan → ℕ → ReplanError → Type 0
IsLivedRefusal I P M (Kept b) = IsPartRefusal I (kept_of P M) (kept_places P M) (Kept b)
IsLivedRefusal I P M (Late p) = IsPartRefusal I (kept_of P M) (kept_places P M) (Late p) ⊎ IsTurnRefusal I P M p
