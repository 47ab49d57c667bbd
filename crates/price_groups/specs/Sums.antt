-- The sums of groups: what each ship counts in what a group pays, how long it takes, and when its last ship arrives.
use Rattle.std.specs.Prelude.{ℕ, ◌≡◌, ◌+◌, ◌*◌, ◌≤◌, ◌<◌, List, length, All, cond, slice_index_or}
use Rattle.lock_model.specs.Fleet.{ship_at}
use Rattle.lock_model.specs.declared.instance.Instance.{Instance}
use Rattle.lock_model.specs.declared.group.Group.{Group}
use Rattle.lock_rules.specs.Lawful.{duration_of}
use Rattle.lock_rules.specs.Timetable.{last_arrival}
use Rattle.lock_rules.specs.Children.{insert_number}
use Rattle.price_rules.specs.Prices.{PriceList, is_missing, price_at}
use Rattle.price_groups.specs.declared.growing.WeighedGroups.{WeighedGroups}
use Rattle.price_groups.specs.declared.sums.Sums.{Sums}
use Rattle.price_groups.specs.Asks.{GroupAsk}
use Rattle.price_groups.specs.Masks.{IsMask}

-- what ship s counts: 100 times its arrival, and its price where it is missing
abbrev pub rate_of : Instance → ℕ → PriceList → ℕ → ℕ
rate_of I k prices s = 100 * (ship_at I s).arrival + cond (is_missing I k s) (price_at prices s) 0

-- what the first n ships count
pub record AreRates (I : Instance) (k : ℕ) (prices : PriceList) (n : ℕ) (rates : List ℕ) : Type 0 where
  pub count : length rates ≡ n
  pub each : (s d : ℕ) → s < n → slice_index_or rates s d ≡ rate_of I k prices s
  pub small : All (λ r. r ≤ 101000000) rates

-- the sums of these ships
pub record AreSumsOf (I : Instance) (c : ℕ) (ships : List ℕ) (sums : Sums) : Type 0 where
  pub duration : sums.duration ≡ duration_of I c ships
  pub last : sums.last ≡ last_arrival I 0 ships
  pub mask : IsMask sums.mask ships

-- for each of the groups its sums
pub record AreWeighed (I : Instance) (c : ℕ) (groups : List Group) (sums : List Sums) : Type 0 where
  pub count : length sums ≡ length groups
  pub each : (j : ℕ) (d : Group) (e : Sums) → j < length groups → AreSumsOf I c (slice_index_or groups j d).ships (slice_index_or sums j e)

-- the same of what groups are asked by
abbrev pub AreSumsIn : GroupAsk → List ℕ → Sums → Type 0
AreSumsIn A = AreSumsOf A.instance A.chamber

abbrev pub AreWeighedIn : GroupAsk → List Group → List Sums → Type 0
AreWeighedIn A = AreWeighed A.instance A.chamber

-- whatever ships have the old sums, with the ship they have the new ones
abbrev pub AreSumsMore : GroupAsk → ℕ → Sums → Sums → Type 0
AreSumsMore A s old new = (ships : List ℕ) → AreSumsIn A ships old → AreSumsIn A (insert_number s ships) new

-- these are groups with their sums
abbrev pub AreWeighedGroups : GroupAsk → WeighedGroups → Type 0
AreWeighedGroups A listed = AreWeighedIn A listed.groups.items listed.sums.items
