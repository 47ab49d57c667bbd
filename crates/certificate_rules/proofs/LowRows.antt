-- Lows of worked open dossiers: what an open leaf shows by its bound, and what by prices.
use Rattle.std.proofs.Common.{◌≡◌, ℕ, ◌+◌, ◌*◌, ◌<◌, ◌≤◌, List, [], ◌∷◌, filter, All, Contains, refl, sym, ap, ◌∙◌, subst, ◌⊎◌, inl, inr, Some, arith}
use Rattle.std.proofs.lemmas.List.Elements.{All-cons, All-nil, All-head, All-tail}
use Rattle.std.proofs.lemmas.Option.{same_Some}
use Rattle.list_laws.specs.Among.{IsAmong}
use Rattle.list_laws.proofs.Lists.{same-tails, same-heads}
use Rattle.lock_model.specs.Fitting.{deck_of}
use Rattle.lock_model.specs.declared.group.Group.{Group}
use Rattle.lock_model.specs.declared.way.Way.TheVariants.{Up}
use Rattle.lock_model.specs.declared.plan.Plan.{Plan}
use Rattle.lock_model.specs.Instance.{IsInstance}
use Rattle.lock_rules.specs.Node.{root_lines, line_at}
use Rattle.lock_rules.specs.Children.{single}
use Rattle.lock_rules.specs.Trace.{has_number, with_group, trace_by}
use Rattle.lock_rules.specs.Cut.{Hits}
use Rattle.lock_rules.proofs.AmongLemmas.{among-filter}
use Rattle.lock_rules.proofs.TreeLemmas.{contains-among}
use Rattle.lock_rules.proofs.RowInstances.{chambers-narrow, ships-narrow, narrow}
use Rattle.price_rules.specs.Prices.{PriceList, PlainCut, Spares, IsUncut, IsLoose, AreLoose, Reaches}
use Rattle.price_rules.proofs.ReachLemmas.{reached-without}
use Rattle.closing_rules.specs.ProvedCuts.{CertCut}
use Rattle.closing_rules.specs.ListedPrices.{IsPricedBy, cut_in, ship_prices}
use Rattle.closing_rules.specs.declared.grounds.Ground.TheVariants as by
use Rattle.certificate_rules.specs.declared.certificate.Mark.{Mark}
use Rattle.certificate_rules.specs.declared.certificate.Mark.TheVariants as mark
use Rattle.certificate_rules.specs.declared.certificate.Reason.TheVariants as reason
use Rattle.certificate_rules.specs.Certificates.{Certificate, IsMarkTree, cuts_in, EndsNode}
use Rattle.certificate_rules.specs.Low.{ShowsCost, EndsShowing, IsTreeShowing, IsLow}
use Rattle.certificate_rules.specs.Failures.{MarksFail}
use Rattle.certificate_rules.proofs.CertRows.{narrow_cuts, low_prices}

-- `[0,0,m,1,1]` of cost 120: the node of mark m holds both ships together, and its bound is 80
abbrev row_marks : Mark → List Mark
row_marks m = mark.Split ∷ mark.Split ∷ m ∷ mark.Leaf by.Bound ∷ mark.Leaf by.Bound ∷ []

abbrev row_certificate : Plan → List CertCut → List PriceList → Mark → Certificate
row_certificate P cuts prices m = record { cost = 120; cuts = cuts; plan = P; prices = prices; tree = row_marks m }

abbrev first_held : List (List Group)
first_held = (single Up 0 ∷ []) ∷ [] ∷ [] ∷ [] ∷ []

abbrev both_together : List (List Group)
both_together = (record { way = Up; ships = 0 ∷ 1 ∷ [] } ∷ []) ∷ [] ∷ [] ∷ [] ∷ []

module _ (ok : IsInstance chambers-narrow ships-narrow) (P : Plan) (cuts : List CertCut) (prices : List PriceList) where
  -- the tree shows what its open leaf shows, as the other leaves are closed by their bounds
  row-shows : (n : ℕ) (m : Mark) → EndsShowing (narrow ok) 120 cuts prices n 2 both_together m → IsTreeShowing (narrow ok) (row_certificate P cuts prices m) n
  row-shows n m ends =
      let high : 120 ≤ 120 = omega arith in
      inr (
        mark.Split ∷ m ∷ mark.Leaf by.Bound ∷ mark.Leaf by.Bound ∷ [],
        refl,
        (
          [],
          inr (
            m ∷ mark.Leaf by.Bound ∷ mark.Leaf by.Bound ∷ [],
            refl,
            (
              mark.Leaf by.Bound ∷ mark.Leaf by.Bound ∷ [],
              (m, ends, refl),
              (mark.Leaf by.Bound ∷ [], (mark.Leaf by.Bound, (high, tt), refl), ([], (mark.Leaf by.Bound, (high, tt), refl), refl)),
            ),
          ),
          refl,
        ),
      )

-- an open leaf without prices: the low is its bound
row-low : (ok : IsInstance chambers-narrow ships-narrow) (P : Plan) → IsLow (narrow ok) (row_certificate P [] [] mark.Open) 80
row-low ok P = record {
  most = omega arith;
  shown = row-shows ok P [] [] 80 mark.Open (tt, omega arith);
  greatest = λ n few shown. at_root n shown;
}
  where
    closed : List Mark
    closed = mark.Leaf by.Bound ∷ mark.Leaf by.Bound ∷ []

    Shows : ℕ → ℕ → ℕ → List (List Group) → List Mark → List Mark → Type 0
    Shows n = IsMarkTree (narrow ok) (EndsShowing (narrow ok) 120 [] [] n)

    no_split : (n k : ℕ) (lines : List (List Group)) (m : Mark) (inner rest : List Mark) → mark.Split ∷ inner ≡ m ∷ rest → EndsShowing (narrow ok) 120 [] [] n k lines m → ⊥
    no_split n k lines m inner rest is ends = (subst (EndsShowing (narrow ok) 120 [] [] n k lines) (sym (same-heads mark.Split m inner rest is)) ends).0

    at_leaf : (n : ℕ) (inner rest : List Mark) → mark.Open ∷ closed ≡ inner → Shows n 0 2 both_together inner rest → n ≤ 80
    at_leaf n inner rest is (m, ends, front) = (subst (EndsShowing (narrow ok) 120 [] [] n 2 both_together) (sym (same-heads mark.Open m closed rest (is ∙ front))) ends).1

    below : (n : ℕ) (inner rest : List Mark) → mark.Split ∷ mark.Open ∷ closed ≡ inner → Shows n 1 1 first_held inner rest → n ≤ 80
    below n inner rest is (inl (m, ends, front)) = absurd (no_split n 1 first_held m (mark.Open ∷ closed) rest (is ∙ front) ends)
    below n inner rest is (inr (deeper, front, trees)) = at_leaf n deeper trees.0 (same-tails mark.Split mark.Split (mark.Open ∷ closed) deeper (is ∙ front)) trees.1

    at_root : (n : ℕ) → IsTreeShowing (narrow ok) (row_certificate P [] [] mark.Open) n → n ≤ 80
    at_root n (inl (m, ends, front)) = absurd (no_split n 0 root_lines m (mark.Split ∷ mark.Open ∷ closed) [] front ends)
    at_root n (inr (inner, front, trees)) = below n inner trees.0 (same-tails mark.Split mark.Split (mark.Split ∷ mark.Open ∷ closed) inner front) trees.1

-- ---- an open leaf by prices: the cut hits the node of both ships, which has no loose line, so that the prices show every cost

abbrev kept : List ℕ → List ℕ
kept = filter (has_number (0 ∷ 1 ∷ []))

no-loose : (ok : IsInstance chambers-narrow ships-narrow) (line : List Group) → All (IsUncut (narrow ok) 0 (cuts_in (narrow ok) narrow_cuts)) line
    → trace_by (has_number (0 ∷ 1 ∷ [])) line ≡ record { way = Up; ships = 0 ∷ 1 ∷ [] } ∷ [] → ⊥
no-loose ok [] uncut is = cc
no-loose ok (g ∷ gs) uncut is = go (no-loose ok gs (All-tail (IsUncut (narrow ok) 0 (cuts_in (narrow ok) narrow_cuts)) g gs uncut)) (kept g.ships) refl is
  where
    own : IsUncut (narrow ok) 0 (cuts_in (narrow ok) narrow_cuts) g
    own = All-head (IsUncut (narrow ok) 0 (cuts_in (narrow ok) narrow_cuts)) g gs uncut

    held : (s : ℕ) → kept g.ships ≡ 0 ∷ 1 ∷ [] → IsAmong (0 ∷ 1 ∷ []) s → Contains g.ships s
    held s same among = contains-among g.ships s (among-filter (has_number (0 ∷ 1 ∷ [])) g.ships s (subst (λ xs. IsAmong xs s) (sym same) among)).0

    hit : kept g.ships ≡ 0 ∷ 1 ∷ [] → Hits (0 ∷ 1 ∷ []) (deck_of (narrow ok) 0 (0 ∷ 1 ∷ [])) (narrow ok) 0 g.ships
    hit same = record {
      among = All-cons (Contains g.ships) 0 (1 ∷ []) (held 0 same (inl refl)) (All-cons (Contains g.ships) 1 [] (held 1 same (inr (inl refl))) (All-nil (Contains g.ships)));
      sizes = refl;
      tight = record { end = refl; gap = refl; side = refl; long = omega arith; wide = omega arith };
    }

    go : (trace_by (has_number (0 ∷ 1 ∷ [])) gs ≡ record { way = Up; ships = 0 ∷ 1 ∷ [] } ∷ [] → ⊥) → (own_ships : List ℕ) → kept g.ships ≡ own_ships → with_group g.way own_ships (trace_by (has_number (0 ∷ 1 ∷ [])) gs) ≡ record { way = Up; ships = 0 ∷ 1 ∷ [] } ∷ [] → ⊥
    go rest [] same front = rest front
    go rest (s ∷ ss) same front =
        let group : record { way = g.way; ships = s ∷ ss } ≡ record { way = Up; ships = 0 ∷ 1 ∷ [] } = same-heads _ _ (trace_by (has_number (0 ∷ 1 ∷ [])) gs) [] front in
        let ships : s ∷ ss ≡ 0 ∷ 1 ∷ [] = ap (λ (x : Group). x.ships) group in
        (All-head (Spares (narrow ok) 0 g.ships) (cut_in (narrow ok) 0 (0 ∷ 1 ∷ [])) [] own.spared).spared (hit (same ∙ ships))

priced-both : (ok : IsInstance chambers-narrow ships-narrow) (n : ℕ) → IsPricedBy (narrow ok) (cuts_in (narrow ok) narrow_cuts) low_prices 0 2 both_together n
priced-both ok n = record {
  own = ship_prices (8400 ∷ 8400 ∷ []);
  there = refl;
  reached = reached-without (narrow ok) (cuts_in (narrow ok) narrow_cuts) 2 both_together (ship_prices (8400 ∷ 8400 ∷ [])) n 0 (omega arith) (λ loose h. no-loose ok loose h.uncut h.trace);
}

-- the low is what the prices show: the cost, as no more counts
row-priced : (ok : IsInstance chambers-narrow ships-narrow) (P : Plan) → IsLow (narrow ok) (row_certificate P narrow_cuts low_prices (mark.OpenPriced 0)) 120
row-priced ok P = record {
  most = omega arith;
  shown = row-shows ok P narrow_cuts low_prices 120 (mark.OpenPriced 0) (omega arith, inr (priced-both ok 120));
  greatest = λ n few shown. few;
}

-- ---- prices that show less than the bound of the root, which is 70

abbrev no_worth : List PriceList
no_worth = ship_prices (0 ∷ 0 ∷ []) ∷ []

empty-loose : (ok : IsInstance chambers-narrow ships-narrow) (cuts : List PlainCut) → AreLoose (narrow ok) cuts 0 root_lines (λ c. [])
empty-loose ok cuts = record {
  each = λ c known. subst (λ c. IsLoose (narrow ok) c cuts 0 (line_at root_lines c) []) (omega (arith, known)) (record { uncut = All-nil (IsUncut (narrow ok) 0 cuts); trace = refl });
}

abbrev root-certificate : Plan → Certificate
root-certificate P = record { cost = 120; cuts = []; plan = P; prices = no_worth; tree = mark.OpenPriced 0 ∷ [] }

row-bounded : (ok : IsInstance chambers-narrow ships-narrow) (P : Plan) → IsLow (narrow ok) (root-certificate P) 70
row-bounded ok P = record {
  most = omega arith;
  shown = inl (mark.OpenPriced 0, (omega arith, inl (omega arith)), refl);
  greatest = λ n few shown. below n shown;
}
  where
    some-same : (own : PriceList) → Some (ship_prices (0 ∷ 0 ∷ [])) ≡ Some own → ship_prices (0 ∷ 0 ∷ []) ≡ own
    some-same own e = same_Some (ship_prices (0 ∷ 0 ∷ [])) own e

    at_root : (n : ℕ) → ShowsCost (narrow ok) [] no_worth n 0 root_lines (mark.OpenPriced 0) → n ≤ 70
    at_root n (inl h) = h
    at_root n (inr h) =
        let reached = subst (λ own. Reaches (narrow ok) [] 0 root_lines own n) (sym (some-same h.own h.there)) h.reached in
        let high : 100 * n + 0 + 0 < 100 * 0 + 0 + 0 + 100 = reached.high (λ c. []) (empty-loose ok []) in
        omega (arith, high)

    below : (n : ℕ) → IsTreeShowing (narrow ok) (root-certificate P) n → n ≤ 70
    below n (inl (m, ends, front)) = at_root n (subst (EndsShowing (narrow ok) 120 [] no_worth n 0 root_lines) (sym (same-heads (mark.OpenPriced 0) m [] [] front)) ends).1
    below n (inr (inner, front, trees)) = absurd cc

-- no such prices: `rejected tree 0 reason 14 SweptWrong`
row-no_number : (ok : IsInstance chambers-narrow ships-narrow)
    → MarksFail (narrow ok) (EndsNode (narrow ok) 120 [] no_worth) (mark.OpenPriced 1 ∷ []) (mark.OpenPriced 1 ∷ []) reason.SweptWrong
row-no_number ok = inl (inl (refl, not, refl))
  where
    not : EndsNode (narrow ok) 120 [] no_worth 0 root_lines (mark.OpenPriced 1) ⊎ (mark.OpenPriced 1 ≡ mark.Split) → ⊥
    not (inl h) = absurd (omega (arith, h))
    not (inr h) = cc
