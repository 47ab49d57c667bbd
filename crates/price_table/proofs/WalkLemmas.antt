-- Loose lines of the least worth, group by group.
use Rattle.std.proofs.Common.{◌≡◌, ◌≢◌, ℕ, suc, ◌+◌, inl, inr, ◌<◌, ℤ, pos, ◌+ℤ◌, ◌≤ℤ◌, ◌<ℤ◌, Some, List, [], ◌∷◌, ◌++◌, length, drop, All, Contains, sym, ap, ◌∙◌, subst, arith}
use Rattle.std.specs.Prelude.{slice_index_or}
use Rattle.std.proofs.lemmas.Bool.Decides.{eqb_tells, leb_tells}
use Rattle.std.proofs.lemmas.Int.{ints}
use Rattle.std.proofs.lemmas.List.{append_assoc, get_or_default}
use Rattle.std.proofs.lemmas.List.Elements.{All-drop}
use Rattle.lock_model.specs.declared.instance.Instance.{Instance}
use Rattle.lock_model.specs.declared.group.Group.{Group}
use Rattle.lock_model.specs.declared.way.Stand.{Stand}
use Rattle.price_rules.specs.Prices.{PriceList, PlainCut, IsUncut}
use Rattle.price_successors.specs.declared.successor.Successor.{Successor}
use Rattle.price_table.specs.declared.next_group.NextGroup.{NextGroup}
use Rattle.price_table.specs.declared.next_group.ValuedState.{ValuedState}
use Rattle.price_groups.specs.Asks.{LineAsk}
use Rattle.price_groups.specs.Worth.{worth_from, IsLeastWorth, IsKeptGroup}
use Rattle.price_successors.specs.Counted.{IsCounted}
use Rattle.price_successors.specs.Enough.{AreEnoughSuccessors}
use Rattle.price_table.specs.Lines.{IsLineWorth, IsBegun, IsNext}
use Rattle.price_table.specs.Values.{IsValue}
use Rattle.price_table.proofs.StepLemmas.{own-loose, all-below}

module _ (L : LineAsk) (known : L.chamber < length L.instance.chambers) where
  abbrev I : Instance
  I = L.instance

  abbrev c : ℕ
  c = L.chamber

  abbrev cuts : List PlainCut
  cuts = L.cuts

  abbrev k : ℕ
  k = L.depth

  abbrev prices : PriceList
  prices = L.prices

  abbrev line : List Group
  line = L.line

  -- one group more
  pub begun-next : (horizon : ℕ) (taken : List Group) (at : ValuedState) (next : NextGroup) (total : ℤ) → IsNext L horizon at next → IsBegun L taken at total → IsBegun L (taken ++ next.group ∷ []) next.behind total
  begun-next horizon taken at next total is begun = record {
    goes_on = λ gs loose worth.
        let step = is.goes_on gs loose worth in
        subst (λ xs. IsLineWorth L xs total) (sym (append_assoc taken (next.group ∷ []) gs)) (begun.goes_on (next.group ∷ gs) step.0 step.1);
  }

  module _ (uncut : All (IsUncut I c cuts) line) (own : All (IsKeptGroup I k) line) where
    -- the rest of the line's own groups at the end
    pub begun-last : (taken : List Group) (at : ValuedState) (total : ℤ) → worth_from I c k prices at.state.stand at.state.minute (drop at.state.place line) ≡ at.value → IsBegun L taken at total → IsLineWorth L (taken ++ drop at.state.place line) total
    begun-last taken at total worth begun =
        begun.goes_on (drop at.state.place line) (own-loose L known (drop at.state.place line) (All-drop (IsUncut I c cuts) at.state.place line uncut) (All-drop (IsKeptGroup I k) at.state.place line own)) worth

    -- the value is at most what the line's own groups are worth
    pub value-below : (horizon p : ℕ) (stand : Stand) (from : ℕ) (v : ℤ) → IsValue L horizon p stand from v → v ≤ℤ worth_from I c k prices stand from (drop p line)
    value-below horizon p stand from v value =
        value.least.below (drop p line) (own-loose L known (drop p line) (All-drop (IsUncut I c cuts) p line uncut) (All-drop (IsKeptGroup I k) p line own))

    -- ONE OF THE CHOICES, OR THE LINE'S OWN GROUPS, COME TO THE VALUE: they can't all come to more.
    pub none-more : (horizon : ℕ) (successors : List Successor) → AreEnoughSuccessors L successors → (p : ℕ) (stand : Stand) (from : ℕ) (v : ℤ) → IsValue L horizon p stand from v
        → v <ℤ worth_from I c k prices stand from (drop p line) → ((h : Successor) → Contains successors h → IsCounted L stand from p (v +ℤ pos 1) h) → ⊥
    none-more horizon successors are p stand from v value more counted =
        let reached = value.least.reached in
        let above = all-below L known successors are stand from p (v +ℤ pos 1) (up v _ more) counted reached.loose reached.is_loose in
        apart v _ above reached.worth
      where
        up : (a b : ℤ) → a <ℤ b → (a +ℤ pos 1) ≤ℤ b
        up a b h = omega (arith, ints)

        apart : (a b : ℤ) → (a +ℤ pos 1) ≤ℤ b → b ≡ a → ⊥
        apart a b h e = absurd (omega (arith, ints, h, e))

  -- one successor more is counted
  pub counted-next : (stand : Stand) (from p : ℕ) (best : ℤ) (successors : List Successor) (i : ℕ) (h : Successor) → i < length successors → h ≡ slice_index_or successors i h → IsCounted L stand from p best h
      → ((j : ℕ) (d : Successor) → j < i → j < length successors → IsCounted L stand from p best (slice_index_or successors j d))
      → (j : ℕ) (d : Successor) → j < i + 1 → j < length successors → IsCounted L stand from p best (slice_index_or successors j d)
  counted-next stand from p best successors i h here held counted before j d less inside = elim (eqb_tells j i) [
    | inl y ↦ subst (IsCounted L stand from p best) (held ∙ get_or_default successors i h d here ∙ ap (λ i. slice_index_or successors i d) (sym y.1)) counted
    | inr m ↦ before j d (earlier j m.1 less) inside
  ]
    where
      earlier : (j : ℕ) → j ≢ i → j < i + 1 → j < i
      earlier j apart less = elim (leb_tells (suc j) i) [ inl y ↦ y.1 | inr q ↦ absurd (apart (omega (arith, less, q.1))) ]

  -- two least worths are one
  pub least-one : (stand : Stand) (from : ℕ) (rest : List Group) (v w : ℤ) → IsLeastWorth I c cuts k prices stand from rest (Some v) → IsLeastWorth I c cuts k prices stand from rest (Some w) → v ≡ w
  least-one stand from rest v w first second =
      same v w (subst (λ x. v ≤ℤ x) second.reached.worth (first.below second.reached.loose second.reached.is_loose)) (subst (λ x. w ≤ℤ x) first.reached.worth (second.below first.reached.loose first.reached.is_loose))
    where
      same : (v w : ℤ) → v ≤ℤ w → w ≤ℤ v → v ≡ w
      same v w h j = omega (arith, ints)
