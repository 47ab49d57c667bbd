-- What the root reaches each node reaches: its loose lines are loose lines of the root, its own ships pay the same in both, and groups are
-- charged the same at both.
use Rattle.std.proofs.Common.{◌≡◌, ℕ, zero, suc, ◌+◌, ◌<◌, ◌≤◌, List, [], ◌∷◌, length, All, sum_by, filter, refl, sym, ap, ◌∙◌, arith}
use Rattle.std.proofs.lemmas.List.{take-append-drop}
use Rattle.std.proofs.lemmas.List.Sums.{sum_by-append, sum_by-cons}
use Rattle.std.proofs.lemmas.List.Elements.{All-weaker}
use Rattle.lock_model.specs.declared.instance.Instance.{Instance}
use Rattle.lock_model.specs.declared.group.Group.{Group}
use Rattle.lock_model.specs.declared.way.Way.{Way}
use Rattle.lock_rules.specs.Arrival.{numbers_from, order_of, first_ships, missing_ships}
use Rattle.lock_rules.specs.Node.{IsNode, line_at, root_lines}
use Rattle.lock_rules.specs.Trace.{has_number, with_group, trace_of}
use Rattle.lock_rules.proofs.CountLemmas.{sum_by-counts, sum_by-parts}
use Rattle.lock_rules.proofs.LineLemmas.{sum_by-each, sum_by-plus, sum_by-zero, numbers-below}
use Rattle.lock_rules.proofs.SizeLemmas.{line_ships, lines_ships, times_in-lines}
use Rattle.lock_rules.proofs.SplitLemmas.{filter-all}
use Rattle.lock_rules.proofs.ThroughputLemmas.{sum_by-shifted}
use Rattle.price_rules.specs.Prices.{PlainCut, PriceList, AreLoose, Reaches, is_missing, price_at, paid_in, paid_of, missing_prices}

-- no ships are left of a line where none is kept
none-traced : (line : List Group) → trace_of [] line ≡ []
none-traced [] = refl
none-traced (g ∷ gs) = (λ i. with_group g.way (none g.ships i) (trace_of [] gs)) ∙ none-traced gs
  where
    none : (xs : List ℕ) → filter (has_number []) xs ≡ []
    none [] = refl
    none (x ∷ xs) = none xs

root-empty : (c : ℕ) → line_at root_lines c ≡ []
root-empty zero = refl
root-empty (suc zero) = refl
root-empty (suc (suc zero)) = refl
root-empty (suc (suc (suc zero))) = refl
root-empty (suc (suc (suc (suc c)))) = refl

module _ (I : Instance) (cuts : List PlainCut) (k : ℕ) (lines : List (List Group)) where
  -- a node's loose lines are loose lines of the root
  loose-above : (chosen : ℕ → List Group) → AreLoose I cuts k lines chosen → AreLoose I cuts 0 root_lines chosen
  loose-above chosen loose = record {
    each = λ c known. record {
      uncut = (loose.each c known).uncut;
      trace = none-traced (chosen c) ∙ sym (root-empty c);
    };
  }

  module _ (prices : PriceList) where
    abbrev price_of : List ℕ → ℕ
    price_of ships = sum_by (price_at prices) ships

    group-price : (way : Way) (ships : List ℕ) (gs : List Group) → price_of (line_ships (with_group way ships gs)) ≡ price_of ships + price_of (line_ships gs)
    group-price way [] gs = omega arith
    group-price way (s ∷ ss) gs = sum_by-append (price_at prices) (s ∷ ss) (line_ships gs)

    -- at the root a line pays for the ships of its trace besides
    line-pays : (line : List Group) → paid_in I 0 prices line ≡ paid_in I k prices line + price_of (line_ships (trace_of (first_ships I k) line))
    line-pays [] = refl
    line-pays (g ∷ gs) =
        let kept = first_ships I k in
        let all : filter (is_missing I 0) g.ships ≡ g.ships = filter-all (is_missing I 0) g.ships (λ j d here. refl) in
        omega (
          arith,
          ap price_of all,
          sum_by-parts (price_at prices) (has_number kept) g.ships,
          group-price g.way (filter (has_number kept) g.ships) (trace_of kept gs),
          line-pays gs,
        )

    -- the prices of the ships of all lines, chamber by chamber
    lines-price : (lines : List (List Group)) (m : ℕ) → ((c : ℕ) → m ≤ c → line_at lines c ≡ []) → price_of (lines_ships lines) ≡ sum_by (λ c. price_of (line_ships (line_at lines c))) (numbers_from 0 m)
    lines-price [] m past = sym (sum_by-zero (numbers_from 0 m))
    lines-price (line ∷ lines) zero past =
        omega (
          arith,
          sum_by-append (price_at prices) (line_ships line) (lines_ships lines),
          ap (λ gs. price_of (line_ships gs)) (past 0 (omega arith)),
          lines-price lines 0 (λ c out. past (suc c) (omega arith)),
        )
    lines-price (line ∷ lines) (suc m) past =
        omega (
          arith,
          sum_by-append (price_at prices) (line_ships line) (lines_ships lines),
          lines-price lines m (λ c out. past (suc c) (omega arith)),
          sum_by-cons (λ c. price_of (line_ships (line_at (line ∷ lines) c))) 0 (numbers_from 1 m),
          sum_by-shifted (λ c. price_of (line_ships (line_at (line ∷ lines) c))) 0 m,
        )

    -- each of the node's ships stands in one of its lines
    node-price : IsNode I k lines → price_of (first_ships I k) ≡ sum_by (λ c. price_of (line_ships (line_at lines c))) (numbers_from 0 (length I.chambers))
    node-price node =
        sym (sum_by-counts (price_at prices) (lines_ships lines) (first_ships I k) (λ s. times_in-lines s lines ∙ node.held s))
        ∙ lines-price lines (length I.chambers) node.past

    -- at the root loose lines pay for the node's ships besides
    more-paid : IsNode I k lines → (chosen : ℕ → List Group) → AreLoose I cuts k lines chosen → paid_of I k prices chosen + price_of (first_ships I k) ≤ paid_of I 0 prices chosen
    more-paid node chosen loose =
        let m = length I.chambers in
        let traced : ℕ → ℕ = λ c. price_of (line_ships (trace_of (first_ships I k) (chosen c))) in
        let held : ℕ → ℕ = λ c. price_of (line_ships (line_at lines c)) in
        let each : All (λ c. held c ≤ traced c) (numbers_from 0 m) =
        All-weaker (λ c. c < 0 + m) (λ c. held c ≤ traced c) (λ c less. omega (arith, ap (λ gs. price_of (line_ships gs)) (loose.each c (omega arith)).trace)) (numbers_from 0 m) (numbers-below 0 m) in
        let parts : paid_of I 0 prices chosen ≡ sum_by (λ c. paid_in I k prices (chosen c) + traced c) (numbers_from 0 m) = λ i. sum_by (λ c. line-pays (chosen c) i) (numbers_from 0 m) in
        omega (
          arith,
          node-price node,
          sum_by-each held traced (numbers_from 0 m) each,
          parts,
          sum_by-plus (λ c. paid_in I k prices (chosen c)) traced (numbers_from 0 m),
        )

    missing-more : missing_prices I 0 prices ≡ price_of (first_ships I k) + missing_prices I k prices
    missing-more = ap price_of (sym (take-append-drop k (order_of I))) ∙ sum_by-append (price_at prices) (first_ships I k) (missing_ships I k)

    -- WHAT THE ROOT REACHES EACH NODE REACHES.
    pub reached-below : (cost : ℕ) → IsNode I k lines → Reaches I cuts 0 root_lines prices cost → Reaches I cuts k lines prices cost
    reached-below cost node reached = record {
      high = λ chosen loose. omega (arith, reached.high chosen (loose-above chosen loose), more-paid node chosen loose, missing-more);
    }
