-- Groups that have grown, kept with their sums.
use Rattle.std.proofs.Common.{◌≡◌, ℕ, ◌<◌, ◌⊎◌, inl, inr, List, length, All, Contains, sym, ◌∙◌, subst, arith, slice_index_or}
use Rattle.std.specs.List.Sorted.{IsPermutation}
use Rattle.std.proofs.lemmas.List.Elements.{Contains-get_or}
use Rattle.std.proofs.lemmas.List.Sorted.{All-permutation, Contains-permutation}
use Rattle.lock_model.specs.declared.instance.Instance.{Instance}
use Rattle.lock_model.specs.declared.group.Group.{Group}
use Rattle.price_rules.specs.Prices.{PriceList}
use Rattle.price_groups.specs.declared.sums.Sums.{Sums}
use Rattle.price_groups.specs.declared.grown_lists.GrownGroup.{GrownGroup}
use Rattle.price_groups.specs.declared.grown_lists.GrownList.{GrownList}
use Rattle.price_groups.specs.Asks.{GroupAsk, group_ask}
use Rattle.price_groups.specs.Growing.{IsGrown, HasIdler, AreGrown}
use Rattle.price_groups.specs.GrownLists.{ArePaired, IsGrownGroup, HasGroup, IsGrownList}
use Rattle.price_groups.specs.Sums.{AreSumsOf, AreWeighed}

module _ (I : Instance) (c k : ℕ) (prices : PriceList) (sets : List (List ℕ)) where
  abbrev A : GroupAsk
  A = group_ask I c k prices sets

  -- WHAT HAS GROWN, each group with its sums, in whatever order.
  pub listed : (base : Group) (groups : List Group) (sums : List Sums) (pairs ordered : List GrownGroup) (list : GrownList) → AreGrown A base (length I.ships) groups → AreWeighed I c groups sums
      → ArePaired groups sums (length groups) pairs → IsPermutation pairs ordered → list.base ≡ base → list.groups.items ≡ ordered → IsGrownList A list
  listed base groups sums pairs ordered list grown weighed are moved same items =
      let all = subst (All (IsGrownGroup I c k sets base)) (sym items) (All-permutation (IsGrownGroup I c k sets base) pairs ordered moved each) in
      record {
        each = subst (λ b. All (IsGrownGroup I c k sets b) list.groups.items) (sym same) all;
        whole = λ g h. subst (λ gs. (HasGroup gs g) ⊎ HasIdler I c k prices g) (sym items) (has g (grown.whole g (subst (λ b. IsGrown I c k sets b (length I.ships) g) same h)));
      }
    where
      each : All (IsGrownGroup I c k sets base) pairs
      each = λ j d here.
          let less : j < length groups = omega (arith, here, are.count) in
          let both = are.each j d less in
          record {
            grown = subst (IsGrown I c k sets base (length I.ships)) (sym both.0) (grown.each j d.group less);
            sums = subst (AreSumsOf I c (slice_index_or pairs j d).group.ships) (sym both.1) (subst (λ (g : Group). AreSumsOf I c g.ships (slice_index_or sums j d.sums)) (sym both.0) (weighed.each j d.group d.sums less));
          }

      has : (g : Group) → (Contains groups g) ⊎ HasIdler I c k prices g → (HasGroup ordered g) ⊎ HasIdler I c k prices g
      has g (inl at) =
          let d : GrownGroup = record { group = g; sums = record { duration = 0; last = 0; least = 0; mask = 0 } } in
          let one = slice_index_or pairs at.0 d in
          let held : Contains pairs one = Contains-get_or pairs at.0 d (omega (arith, at.1, are.count)) in
          inl (record { one = one; held = Contains-permutation pairs ordered one moved held; is = (are.each at.0 d at.1).0 ∙ at.2 })
      has g (inr idler) = inr idler

  -- one of the groups, however it was come by
  pub grown-at : (list : GrownList) (groups : List GrownGroup) (i : ℕ) (one : GrownGroup) → IsGrownList A list → groups ≡ list.groups.items → i < length groups → one ≡ slice_index_or groups i one → IsGrownGroup I c k sets list.base one
  grown-at list groups i one held same here is = subst (IsGrownGroup I c k sets list.base) (sym is) (subst (All (IsGrownGroup I c k sets list.base)) (sym same) held.each i one here)
