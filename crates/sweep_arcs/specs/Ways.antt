-- What a way of a chamber keeps: all its uncut groups, and by minute lists of their arcs.
use Rattle.std.specs.Prelude.{ℕ, ℤ, pos, ◌+ℤ◌, ◌+◌, ◌*◌, min, false, ◌≡◌, ◌≤◌, ◌<◌, ◌≤ℤ◌, ◌⊎◌, Some, None, IfSome, List, [], ◌∷◌, ◌++◌, length, All, Contains, slice_index_or}
use Rattle.std.specs.declared.option.Option.{Option}
use Rattle.lock_model.specs.Fleet.{ship_at}
use Rattle.lock_model.specs.declared.limits.TheConstants.{MOST}
use Rattle.lock_model.specs.declared.instance.Instance.{Instance}
use Rattle.lock_model.specs.declared.group.Group.{Group}
use Rattle.lock_model.specs.declared.way.Way.{Way}
use Rattle.lock_rules.specs.Children.{insert_number}
use Rattle.lock_rules.specs.Lawful.{stand_before}
use Rattle.price_rules.specs.Prices.{PriceList, price_at}
use Rattle.price_groups.specs.Asks.{LineAsk, IsUncutIn}
use Rattle.price_groups.specs.GrownLists.{HasGroup}
use Rattle.price_groups.specs.Masks.{IsMask}
use Rattle.price_groups.specs.Worth.{soonest_of}
use Rattle.price_groups.specs.declared.grown_lists.GrownGroup.{GrownGroup}
use Rattle.sweep_rules.specs.Gain.{IsGainFrom}
use Rattle.sweep_labels.specs.declared.step.Arc.{Arc}
use Rattle.sweep_labels.specs.Arcs.{IsArcBy, IsLowWorth, IsBeyond, arc_at}
use Rattle.sweep_labels.specs.Rows.{IsKeptAt}
use Rattle.sweep_labels.specs.Ships.{AreApart, HoldsAll}
use Rattle.sweep_arcs.specs.declared.arc_list.ArcList.{ArcList}
use Rattle.sweep_arcs.specs.declared.asked.ArcsAsked.{ArcsAsked}
use Rattle.sweep_arcs.specs.declared.listing.Range.{Range}
use Rattle.sweep_arcs.specs.declared.way_groups.Latest.{Latest}
use Rattle.sweep_arcs.specs.declared.way_groups.WayGroups.{WayGroups}
use Rattle.sweep_arcs.specs.declared.way_arcs.WayArcs.{WayArcs}
use Rattle.sweep_arcs.specs.declared.way_lane.WayLane.{WayLane}

-- of the first n ships the prices, raised by more than the spread as far as prices may be
pub record AreCeilings (prices : PriceList) (spread n : ℕ) (ceilings : List ℕ) : Type 0 where
  pub each : (s : ℕ) → s < n → slice_index_or ceilings s 0 ≡ min 1000000 (price_at prices s + spread + 1)
  pub fair : (s : ℕ) → s < n → price_at prices s ≤ 1000000

-- none of the first n ships arrives later or is handled longer
pub record AreBefore (I : Instance) (latest : Latest) (n : ℕ) : Type 0 where
  pub arrivals : (s : ℕ) → s < n → (ship_at I s).arrival ≤ latest.arrival
  pub handlings : (s : ℕ) → s < n → (ship_at I s).handling ≤ latest.handling

-- whatever ships lie in the chamber together are served within 10,000 minutes
pub record IsBrief (L : LineAsk) : Type 0 where
  pub soon : (ships : List ℕ) → All (λ s. s < length L.instance.ships) ships → length ships ≤ MOST → soonest_of L.instance L.chamber 0 ships < 10000

-- ships of the instance, of the way, and the number has their bits
pub record IsWayGroup (L : LineAsk) (way : Way) (one : GrownGroup) : Type 0 where
  pub known : All (λ s. s < length L.instance.ships) one.group.ships
  pub few : length one.group.ships ≤ MOST
  pub same : one.group.way ≡ way
  pub mask : IsMask one.sums.mask one.group.ships

-- The group is another uncut one of its way and a ship more, which even at the soonest end of all is served for more than its price and the spread.
pub record IsIdleGroup (L : LineAsk) (spread : ℕ) (g : Group) : Type 0 where
  pub others : Group
  pub uncut : IsUncutIn L others
  pub same : others.way ≡ g.way
  pub among : All (Contains g.ships) others.ships
  pub ship : ℕ
  pub joined : insert_number ship others.ships ≡ g.ships
  pub idle : price_at L.prices ship + spread + 100 * (ship_at L.instance ship).arrival < 100 * soonest_of L.instance L.chamber 0 g.ships

-- all uncut groups of the way are among these but such ones
pub record AreWayGroups (L : LineAsk) (way : Way) (spread : ℕ) (groups : List GrownGroup) : Type 0 where
  pub each : All (IsWayGroup L way) groups
  pub whole : (g : Group) → IsUncutIn L g → g.way ≡ way → HasGroup groups g ⊎ IsIdleGroup L spread g

-- all ships of the first n groups are in the set
pub record AreJoined (groups : List GrownGroup) (n bits : ℕ) : Type 0 where
  pub each : (k : ℕ) (d : GrownGroup) → k < n → HoldsAll bits (slice_index_or groups k d).sums.mask

-- the uncut groups of the way, and their ships
pub record IsWayOf (L : LineAsk) (way : Way) (all : WayGroups) : Type 0 where
  pub groups : AreWayGroups L way all.spread all.groups.items
  pub ships : AreJoined all.groups.items (length all.groups.items) all.ships.bits

-- the limit and the gain from the minute on are no more than the spread
pub record IsReached (L : LineAsk) (range : Range) (spread : ℕ) : Type 0 where
  pub gain : ℕ
  pub is : IsGainFrom L.instance L.chamber L.cuts (λ s. false) L.prices (stand_before range.way) range.minute gain
  pub most : (range.limit +ℤ pos gain) ≤ℤ pos spread

-- the arc is the group's, and its worth is low for it
pub record IsArcWorth (L : LineAsk) (minute : ℕ) (g : Group) (arc : Arc) : Type 0 where
  pub is : IsArcBy L.instance L.prices L.chamber minute g arc
  pub mask : IsMask arc.ships.bits g.ships
  pub low : IsLowWorth L.instance L.cuts L.prices L.chamber minute g arc.worth

-- one of the arcs is the group's, and its worth is low for it
pub record HasArcWorth (L : LineAsk) (minute : ℕ) (arcs : List Arc) (g : Group) : Type 0 where
  pub arc : Arc
  pub held : Contains arcs arc
  pub is : IsArcWorth L minute g arc

-- the group has an arc, or is worth more than the limit
abbrev pub IsArcOrBeyond : LineAsk → ℕ → ℤ → List Arc → Group → Type 0
IsArcOrBeyond L minute limit arcs g = HasArcWorth L minute arcs g ⊎ IsBeyond L.instance L.cuts L.prices L.chamber minute limit g

-- the arcs are still there, and the group has one unless it is empty, or is worth more than the limit
pub record IsPutArc (L : LineAsk) (range : Range) (g : Group) (old new : List Arc) : Type 0 where
  pub kept : (arc : Arc) → Contains old arc → Contains new arc
  pub own : 1 ≤ length g.ships → IsArcOrBeyond L range.minute range.limit new g

-- the same of each of the first n groups
pub record ArePutArcs (L : LineAsk) (range : Range) (groups : List GrownGroup) (n : ℕ) (arcs : List Arc) : Type 0 where
  pub each : (k : ℕ) (d : GrownGroup) → k < n → 1 ≤ length (slice_index_or groups k d).group.ships → IsArcOrBeyond L range.minute range.limit arcs (slice_index_or groups k d).group

-- the arcs stand by rising worth
pub record AreRising (arcs : List Arc) : Type 0 where
  pub rising : (j k : ℕ) → j ≤ k → k < length arcs → (arc_at arcs j).worth ≤ℤ (arc_at arcs k).worth

-- each uncut group of the way has an arc of the list from the minute on, or is worth more than its limit
pub record IsArcList (L : LineAsk) (way : Way) (minute : ℕ) (list : ArcList) : Type 0 where
  pub rising : AreRising list.arcs.items
  pub whole : (g : Group) → IsUncutIn L g → g.way ≡ way → IsArcOrBeyond L minute list.limit list.arcs.items g

-- the same of a range
pub record IsRangeList (L : LineAsk) (range : Range) (list : ArcList) : Type 0 where
  pub is : IsArcList L range.way range.minute list
  pub limit : list.limit ≡ range.limit

-- the same of what is asked: the list reaches as far as the room
pub record IsAskedList (L : LineAsk) (asked : ArcsAsked) (list : ArcList) : Type 0 where
  pub is : IsArcList L asked.way asked.minute list
  pub reach : asked.room ≤ℤ list.limit

-- there is a list of arcs at the place
pub record IsListAt (L : LineAsk) (way : Way) (minute : ℕ) (lists : List ArcList) (place : ℕ) : Type 0 where
  pub within : place < length lists
  pub is : (d : ArcList) → IsArcList L way minute (slice_index_or lists place d)

-- what is kept for a minute is the place of its list
pub record AreListsBy (L : LineAsk) (way : Way) (places : List (Option ℕ)) (lists : List ArcList) : Type 0 where
  pub each : (minute place : ℕ) → slice_index_or places minute None ≡ Some place → IsListAt L way minute lists place

-- what is kept of the way is right
pub record IsWayArcs (L : LineAsk) (way : Way) (lane : WayArcs) : Type 0 where
  pub all : IsWayOf L way lane.all
  pub lists : AreListsBy L way lane.places.items.items lane.lists.items

-- so it is, once something was asked of the way
pub record IsWayLane (L : LineAsk) (way : Way) (lane : WayLane) : Type 0 where
  pub right : IfSome lane.made (IsWayArcs L way)

-- the list was put behind the others, and its place is kept for the minute
pub record IsListKept (minute : ℕ) (list : ArcList) (old new : WayArcs) (place : ℕ) : Type 0 where
  pub all : new.all ≡ old.all
  pub behind : place ≡ length old.lists.items
  pub lists : new.lists.items ≡ old.lists.items ++ list ∷ []
  pub row : IsKeptAt minute place old.places.items.items new.places.items.items

-- the list at the place is that of the minute, and reaches as far as the room
pub record IsWide (asked : ArcsAsked) (lane : WayArcs) (place : ℕ) : Type 0 where
  pub kept : slice_index_or lane.places.items.items asked.minute None ≡ Some place
  pub reach : (d : ArcList) → asked.room ≤ℤ (slice_index_or lane.lists.items place d).limit

-- the arc was appended, or one of its ships is served
pub record IsPutAsked (asked : ArcsAsked) (arc : Arc) (old new : List Arc) : Type 0 where
  pub kept : (other : Arc) → Contains old other → Contains new other
  pub own : AreApart arc.ships.bits asked.served.bits → Contains new arc

-- each of the first n arcs within the room by ships that aren't served is there
pub record AreWithin (asked : ArcsAsked) (list : List Arc) (n : ℕ) (arcs : List Arc) : Type 0 where
  pub each : (k : ℕ) → k < n → (arc_at list k).worth ≤ℤ asked.room → AreApart (arc_at list k).ships.bits asked.served.bits → Contains arcs (arc_at list k)
