-- Marks of worked dossiers whose root is closed by a sweep.
use Rattle.std.proofs.Common.{◌≡◌, ℕ, zero, suc, ◌<◌, List, [], ◌∷◌, All, refl, ◌⊎◌, inl, inr, arith}
use Rattle.std.proofs.lemmas.List.Elements.{All-cons, All-nil}
use Rattle.std.proofs.lemmas.Option.{none-some}
use Rattle.lock_model.specs.Fleet.{ship_at}
use Rattle.lock_model.specs.declared.group.Group.{Group}
use Rattle.lock_model.specs.declared.way.Way.TheVariants.{Up}
use Rattle.lock_model.specs.Instance.{IsInstance}
use Rattle.lock_rules.specs.Node.{root_lines}
use Rattle.lock_rules.specs.Children.{single}
use Rattle.lock_rules.proofs.NodeLemmas.{increasing-RisesFrom}
use Rattle.lock_rules.proofs.RowInstances.{chambers-narrow, ships-narrow, narrow}
use Rattle.price_rules.specs.Prices.{PriceList, Spares, IsUncut}
use Rattle.sweep_rules.specs.Uncut.{IsUncutPlan, times_over}
use Rattle.sweep_rules.proofs.RowLock.{row}
use Rattle.sweep_rules.proofs.Rows.{in_order-swept}
use Rattle.closing_rules.specs.ListedPrices.{ship_prices}
use Rattle.closing_rules.specs.declared.grounds.Ground.TheVariants as by
use Rattle.certificate_rules.specs.declared.certificate.Mark.{Mark}
use Rattle.certificate_rules.specs.declared.certificate.Mark.TheVariants as mark
use Rattle.certificate_rules.specs.declared.certificate.Reason.TheVariants as reason
use Rattle.certificate_rules.specs.Certificates.{IsMarkTree, EndsNode}
use Rattle.certificate_rules.specs.Failures.{MarksFail}

abbrev swept : ℕ → Mark
swept number = mark.Leaf (by.Swept number)

abbrev row_prices : List PriceList
row_prices = ship_prices (3500 ∷ 5000 ∷ 5000 ∷ []) ∷ []

-- three ships of one way, one at a time: first come, first served costs 225, which is swept
row-swept : IsMarkTree row (EndsNode row 225 [] row_prices) 3 0 root_lines (swept 0 ∷ []) []
row-swept = inl (swept 0, record { root = refl; own = ship_prices (3500 ∷ 5000 ∷ 5000 ∷ []); there = refl; swept = in_order-swept }, refl)

-- no such prices: `rejected tree 0 reason 14 SweptWrong`
row-no_prices : MarksFail row (EndsNode row 225 [] row_prices) (swept 1 ∷ []) (swept 1 ∷ []) reason.SweptWrong
row-no_prices = inl (inl (refl, not, refl))
  where
    not : EndsNode row 225 [] row_prices 0 root_lines (swept 1) ⊎ (swept 1 ≡ mark.Split) → ⊥
    not (inl h) = none-some h.own h.there
    not (inr h) = cc

-- a node below the root: `rejected tree 1 reason 14 SweptWrong`
row-below : MarksFail row (EndsNode row 225 [] row_prices) (mark.Split ∷ swept 0 ∷ []) (swept 0 ∷ []) reason.SweptWrong
row-below = inl (inr (swept 0 ∷ [], refl, inl (inl (refl, not ((single Up 0 ∷ []) ∷ []), refl))))
  where
    not : (lines : List (List Group)) → EndsNode row 225 [] row_prices 1 lines (swept 0) ⊎ (swept 0 ≡ mark.Split) → ⊥
    not lines (inl h) = absurd (let root = h.root in omega (arith, root))
    not lines (inr h) = cc

-- a mark behind it: `TreeLong`
row-long : MarksFail row (EndsNode row 225 [] row_prices) (swept 0 ∷ mark.Leaf by.Bound ∷ []) (mark.Leaf by.Bound ∷ []) reason.TreeLong
row-long =
    inr (
      (λ e. cc),
      refl,
      inl (swept 0, record { root = refl; own = ship_prices (3500 ∷ 5000 ∷ 5000 ∷ []); there = refl; swept = in_order-swept }, refl),
    )

-- ---- the narrow chamber without its cut: both ships together are an uncut group, which costs 80

abbrev together : ℕ → List Group
together c = record { way = Up; ships = 0 ∷ 1 ∷ [] } ∷ []

together-uncut : (ok : IsInstance chambers-narrow ships-narrow) → All (IsUncut (narrow ok) 0 []) (together 0)
together-uncut ok =
    All-cons (IsUncut (narrow ok) 0 []) (record { way = Up; ships = 0 ∷ 1 ∷ [] }) [] (record {
      good = record {
        rising = increasing-RisesFrom 0 (0 ∷ 1 ∷ []) (omega arith, (omega arith, tt));
        count = (omega arith, omega arith);
        way = All-cons (λ s. (ship_at (narrow ok) s).way ≡ Up) 0 (1 ∷ []) refl (All-cons (λ s. (ship_at (narrow ok) s).way ≡ Up) 1 [] refl (All-nil (λ s. (ship_at (narrow ok) s).way ≡ Up)));
      };
      known = All-cons (λ s. s < 2) 0 (1 ∷ []) (omega arith) (All-cons (λ s. s < 2) 1 [] (omega arith) (All-nil (λ s. s < 2)));
      spared = All-nil (Spares (narrow ok) 0 (0 ∷ 1 ∷ []));
    }) (All-nil (IsUncut (narrow ok) 0 []))

together-plan : (ok : IsInstance chambers-narrow ships-narrow) → IsUncutPlan (narrow ok) [] together
together-plan ok = record { uncut = λ c known. only c known; once = λ s known. one s known }
  where
    only : (c : ℕ) → c < 1 → All (IsUncut (narrow ok) c []) (together c)
    only zero known = together-uncut ok
    only (suc c) known = absurd (omega (arith, known))

    one : (s : ℕ) → s < 2 → times_over (narrow ok) s together ≡ 1
    one zero known = refl
    one (suc zero) known = refl
    one (suc (suc s)) known = absurd (omega (arith, known))

-- 120 isn't swept: `rejected tree 0 reason 14 SweptWrong`
row-no_cut : (ok : IsInstance chambers-narrow ships-narrow)
    → MarksFail (narrow ok) (EndsNode (narrow ok) 120 [] (ship_prices (8500 ∷ 8500 ∷ []) ∷ [])) (swept 0 ∷ []) (swept 0 ∷ []) reason.SweptWrong
row-no_cut ok = inl (inl (refl, not, refl))
  where
    not : EndsNode (narrow ok) 120 [] (ship_prices (8500 ∷ 8500 ∷ []) ∷ []) 0 root_lines (swept 0) ⊎ (swept 0 ≡ mark.Split) → ⊥
    not (inl h) = absurd (omega (arith, h.swept.least together (together-plan ok)))
    not (inr h) = cc
