-- Groups that have grown, kept for prices up to their ceilings and under cuts of which more may come.
use Rattle.std.specs.Prelude.{ℕ, ◌≡◌, ◌<◌, ◌≤◌, ◌⊎◌, Some, None, List, [], ◌∷◌, ◌++◌, length, take, All, Contains, bit_and, slice_index_or}
use Rattle.std.specs.declared.option.Option.{Option}
use Rattle.lock_model.specs.declared.instance.Instance.{Instance}
use Rattle.price_rules.specs.Prices.{PriceList}
use Rattle.price_terms.specs.declared.cut.ChamberCut.{ChamberCut}
use Rattle.price_bound.specs.declared.terms.Terms.{Terms}
use Rattle.price_groups.specs.declared.grown_lists.GrownGroup.{GrownGroup}
use Rattle.price_groups.specs.declared.grown_lists.GrownList.{GrownList}
use Rattle.price_bound.specs.declared.kept_groups.ChamberGroups.{ChamberGroups}
use Rattle.price_bound.specs.declared.kept_groups.KeptGroups.{KeptGroups}
use Rattle.price_terms.specs.Cuts.{plain_cuts}
use Rattle.price_groups.specs.Asks.{group_ask}
use Rattle.price_groups.specs.GrownLists.{IsGrownList}
use Rattle.price_groups.specs.Masks.{AreAllCompletable}
use Rattle.price_groups.specs.Sparing.{AreForbidden}

-- none of the sets of these masks is among the ships of another mask
abbrev pub IsApart : List ℕ → ℕ → Type 0
IsApart masks mask = All (λ m. ¬ (bit_and m mask ≡ m)) masks

-- the group was put behind the others, or one of the masks' sets is among its ships
abbrev pub IsPutSpared : List ℕ → GrownGroup → List GrownGroup → List GrownGroup → Type 0
IsPutSpared masks one old new = (IsApart masks one.sums.mask × (new ≡ old ++ one ∷ [])) ⊎ ((¬ IsApart masks one.sums.mask) × (new ≡ old))

-- some of the groups without the masks' sets, and each of the first i
pub record AreSpared (masks : List ℕ) (groups : List GrownGroup) (i : ℕ) (spared : List GrownGroup) : Type 0 where
  pub each : All (Contains groups) spared
  pub apart : All (λ one. IsApart masks one.sums.mask) spared
  pub whole : (j : ℕ) (d : GrownGroup) → j < i → j < length groups → IsApart masks (slice_index_or groups j d).sums.mask
      → Contains spared (slice_index_or groups j d)

-- the same list without the groups that hold one of the masks' sets
pub record IsSparedList (masks : List ℕ) (list spared : GrownList) : Type 0 where
  pub base : spared.base ≡ list.base
  pub groups : AreSpared masks list.groups.items (length list.groups.items) spared.groups.items

-- of the first n lists
pub record AreSparedLists (masks : List ℕ) (lists : List GrownList) (n : ℕ) (spared : List GrownList) : Type 0 where
  pub count : length spared ≡ n
  pub each : (j : ℕ) (d e : GrownList) → j < n → IsSparedList masks (slice_index_or lists j d) (slice_index_or spared j e)

-- What is kept of a chamber at nodes of depth k: the sets that the first of the cuts forbid it, and what has grown
-- at the ceilings without these.
pub record AreGroupsFor (I : Instance) (k : ℕ) (cuts : List ChamberCut) (ceilings : PriceList) (own : ChamberGroups) : Type 0 where
  pub seen : own.seen ≤ length cuts
  pub forbidden : AreForbidden I own.chamber (plain_cuts I (take own.seen cuts)) own.sets.items
  pub completable : AreAllCompletable I k own.sets.items (length I.ships) own.completable.items
  pub lists : All (IsGrownList (group_ask I own.chamber k ceilings own.sets.items)) own.lists.items

-- what serves stays so, whatever the ceilings
abbrev pub StayGroupsFor : Instance → ℕ → List ChamberCut → ChamberGroups → ChamberGroups → Type 0
StayGroupsFor I k cuts old new = (ceilings : PriceList) → AreGroupsFor I k cuts ceilings old → AreGroupsFor I k cuts ceilings new

-- all that is kept of chambers
abbrev pub AreAllGroupsFor : Instance → ℕ → List ChamberCut → KeptGroups → Type 0
AreAllGroupsFor I k cuts kept = All (AreGroupsFor I k cuts kept.ceilings) kept.chambers.items

-- all that was kept still serves, and what was put to it where it does
abbrev pub AreGroupsWith : KeptGroups → ChamberGroups → KeptGroups → Type 0
AreGroupsWith old own new =
    (I : Instance) (k : ℕ) (cuts : List ChamberCut) → AreAllGroupsFor I k cuts old → AreGroupsFor I k cuts old.ceilings own → AreAllGroupsFor I k cuts new

-- the same under the terms; without terms nothing is kept
abbrev pub AreGroupsUnder : Option Terms → KeptGroups → Type 0
AreGroupsUnder None kept = kept.chambers.items ≡ []
AreGroupsUnder (Some terms) kept = AreAllGroupsFor terms.instance terms.depth terms.cuts.items kept
