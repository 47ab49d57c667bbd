-- The first break of a plan: shapes, then service, then placements, then cargo, then times.
use Rattle.std.specs.Prelude.{ℕ, ◌≡◌, ◌≤◌, ◌<◌, length, All}
use Rattle.lock_model.specs.Limits.{Within}
use Rattle.lock_model.specs.Fleet.{ship_at, chamber_at}
use Rattle.lock_model.specs.Fitting.{deck_of}
use Rattle.lock_model.specs.Placement.{IsLegalPlacement}
use Rattle.lock_model.specs.Cargo.{HasNoClash}
use Rattle.lock_model.specs.declared.instance.Instance.{Instance}
use Rattle.lock_model.specs.declared.plan.Lockage.{Lockage}
use Rattle.lock_model.specs.declared.plan.Plan.{Plan}
use Rattle.lock_model.specs.declared.way.Way.{Way}
use Rattle.lock_rules.specs.Plan.{served_in, IsTimely}
use Rattle.lock_rules.specs.Lines.{lockage_at}
use Rattle.chamber_times.specs.FirstBreak.{IsFirstBreak}
use Rattle.chamber_times.specs.declared.breaks.BrokenTime.{BrokenTime}
use Rattle.mooring_rules.specs.PlacementBreaks.{IsFirstBroken}
use Rattle.mooring_rules.specs.CargoBreaks.{AreFirstClashing}
use Rattle.mooring_rules.specs.declared.breaks.Broken.{Broken}
use Rattle.mooring_rules.specs.declared.breaks.BrokenPlan.{BrokenPlan}
use Rattle.mooring_rules.specs.declared.breaks.BrokenPlan.TheVariants.{Shape, Double, Missing, Deck, Clash, Time}

-- s is a ship of the instance and goes this way
pub record GoesThisWay (I : Instance) (way : Way) (s : ℕ) : Type 0 where
  pub known : s < length I.ships
  pub goes : (ship_at I s).way ≡ way

-- A chamber of the instance, one to its `most` ships, all of the lockage's way, and a spot for each.
pub record HasShape (I : Instance) (l : Lockage) : Type 0 where
  pub chamber : l.chamber < length I.chambers
  pub count : Within 1 (chamber_at I l.chamber).most (length l.ships)
  pub spots : length l.spots ≡ length l.ships
  pub ships : All (GoesThisWay I l.way) l.ships

-- the spots are a legal placement of the deck
pub record IsPlaced (I : Instance) (l : Lockage) : Type 0 where
  pub legal : IsLegalPlacement (deck_of I l.chamber l.ships) l.spots

-- no two of its ships clash
pub record IsClear (I : Instance) (l : Lockage) : Type 0 where
  pub clear : HasNoClash (deck_of I l.chamber l.ships)

module _ (I : Instance) (P : Plan) where
  -- every lockage has its shape
  pub record AreShaped : Type 0 where
    pub each : (p : ℕ) → p < length P.lockages → HasShape I (lockage_at P p)

  -- no ship lies in more than one lockage
  pub record HasNoDouble : Type 0 where
    pub each : (s : ℕ) → s < length I.ships → served_in P.lockages s ≤ 1

  -- every ship lies in a lockage
  pub record HasNoMissing : Type 0 where
    pub each : (s : ℕ) → s < length I.ships → 1 ≤ served_in P.lockages s

  -- every lockage's ships are legally placed
  pub record ArePlaced : Type 0 where
    pub each : (p : ℕ) → p < length P.lockages → IsPlaced I (lockage_at P p)

  -- no two ships of a lockage clash
  pub record AreClear : Type 0 where
    pub each : (p : ℕ) → p < length P.lockages → IsClear I (lockage_at P p)

  -- every chamber's line is lawful
  pub record AreOnTime : Type 0 where
    pub each : (c : ℕ) → c < length I.chambers → IsTimely I P c

  -- lockage p hasn't its shape, and each before it has
  pub record IsFirstMisshapen (p : ℕ) : Type 0 where
    pub place : p < length P.lockages
    pub misshapen : ¬ HasShape I (lockage_at P p)
    pub before : (k : ℕ) → k < p → HasShape I (lockage_at P k)

  -- ship s lies in more than one lockage, and none before it does
  pub record IsFirstDouble (s : ℕ) : Type 0 where
    pub ship : s < length I.ships
    pub double : 1 < served_in P.lockages s
    pub before : (k : ℕ) → k < s → served_in P.lockages k ≤ 1

  -- ship s lies in no lockage, and each before it does
  pub record IsFirstMissing (s : ℕ) : Type 0 where
    pub ship : s < length I.ships
    pub missing : served_in P.lockages s ≡ 0
    pub before : (k : ℕ) → k < s → 1 ≤ served_in P.lockages k

  -- b is the first break of the placement of lockage p, and the placement of each before it is legal
  pub record IsFirstMisplaced (p : ℕ) (b : Broken) : Type 0 where
    pub place : p < length P.lockages
    pub broken : IsFirstBroken (deck_of I (lockage_at P p).chamber (lockage_at P p).ships) (lockage_at P p).spots b
    pub before : (k : ℕ) → k < p → IsPlaced I (lockage_at P k)

  -- i and j are the first two ships of lockage p that clash, and none clash in those before it
  pub record IsFirstClash (p i j : ℕ) : Type 0 where
    pub place : p < length P.lockages
    pub pair : AreFirstClashing (deck_of I (lockage_at P p).chamber (lockage_at P p).ships) i j
    pub before : (k : ℕ) → k < p → IsClear I (lockage_at P k)

  -- b is the first break of the line of chamber c, and the line of each before it is lawful
  pub record IsFirstUntimely (c : ℕ) (b : BrokenTime) : Type 0 where
    pub chamber : c < length I.chambers
    pub broken : IsFirstBreak I P c b
    pub before : (k : ℕ) → k < c → IsTimely I P k

  -- The first break of a part of a plan, which may lack ships: no lockage, ship or chamber before it, and no kind of break before it, breaks a rule.
  abbrev pub IsFirstBrokenPart : BrokenPlan → Type 0
  IsFirstBrokenPart (Shape p) = IsFirstMisshapen p
  IsFirstBrokenPart (Double s) = AreShaped × IsFirstDouble s
  IsFirstBrokenPart (Missing s) = ⊥
  IsFirstBrokenPart (Deck p b) = AreShaped × HasNoDouble × IsFirstMisplaced p b
  IsFirstBrokenPart (Clash p i j) = AreShaped × HasNoDouble × ArePlaced × IsFirstClash p i j
  IsFirstBrokenPart (Time c b) = AreShaped × HasNoDouble × ArePlaced × AreClear × IsFirstUntimely c b

  -- The first break of a plan: that of a part, with missing ships behind double ones.
  abbrev pub IsFirstBrokenPlan : BrokenPlan → Type 0
  IsFirstBrokenPlan (Shape p) = IsFirstBrokenPart (Shape p)
  IsFirstBrokenPlan (Double s) = IsFirstBrokenPart (Double s)
  IsFirstBrokenPlan (Missing s) = AreShaped × HasNoDouble × IsFirstMissing s
  IsFirstBrokenPlan (Deck p b) = HasNoMissing × IsFirstBrokenPart (Deck p b)
  IsFirstBrokenPlan (Clash p i j) = HasNoMissing × IsFirstBrokenPart (Clash p i j)
  IsFirstBrokenPlan (Time c b) = HasNoMissing × IsFirstBrokenPart (Time c b)
