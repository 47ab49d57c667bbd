-- The chambers' least worths add up, and tell what the node reaches.
use Rattle.std.proofs.Common.{◌≡◌, ◌≢◌, ℕ, zero, suc, ◌+◌, ◌*◌, ◌<◌, ◌≤◌, cond, nat_eq, ℤ, pos, neg_ℤ, to_z, of_z, w64, ◌+ℤ◌, ◌-ℤ◌, ◌≤ℤ◌, ◌<ℤ◌, ◌↔◌, Some, List, [], ◌∷◌, ◌++◌, length, sum_by, inl, inr, refl, sym, ap, ◌∙◌, subst, arith, All, slice_index_or}
use Rattle.std.proofs.lemmas.Int.{ints}
use Rattle.std.proofs.lemmas.Bool.Decides.{eqb_tells, leb_tells}
use Rattle.std.proofs.lemmas.List.Sums.{sum_by-append, sum_by-cons}
use Rattle.lock_model.specs.Fleet.{chamber_at}
use Rattle.lock_model.specs.declared.instance.Instance.{Instance}
use Rattle.lock_model.specs.declared.group.Group.{Group}
use Rattle.lock_rules.specs.Arrival.{numbers_from, first_ships}
use Rattle.lock_rules.specs.Bound.{line_flow}
use Rattle.lock_rules.specs.Plan.{times_in}
use Rattle.lock_rules.specs.Node.{IsNode, line_at}
use Rattle.lock_rules.proofs.LineLemmas.{numbers_more}
use Rattle.lock_rules.proofs.ChildLemmas.{times_on-held}
use Rattle.lock_rules.proofs.SplitLemmas.{times_in-at}
use Rattle.lock_rules.proofs.NodeLemmas.{group-line}
use Rattle.lock_rules.proofs.LeafLemmas.{has_number-some}
use Rattle.price_rules.specs.Prices.{PriceList, PlainCut, IsLoose, Reaches, paid_in, charged_in}
use Rattle.price_groups.specs.Asks.{line_ask}
use Rattle.price_groups.specs.Worth.{worth_from, IsKeptGroup}
use Rattle.price_table.specs.Lines.{IsLeastOn, IsLeastLine}
use Rattle.price_table.specs.Values.{most_worth}
use Rattle.price_bound.specs.Asks.{node_ask}
use Rattle.price_bound.specs.Total.{worths_of, IsLeastSum, IsPriceSum, AreLeastLines}
use Rattle.std.proofs.Math.Seq.{get_or-append_seam}
use Rattle.std.proofs.lemmas.List.{get_or_append_left, length-append}
use Rattle.price_terms.specs.declared.loose_line.LooseLine.{LooseLine}

sum_by-one : (f : ℕ → ℕ) (n : ℕ) → sum_by f (n ∷ []) ≡ f n
sum_by-one f n = omega (arith, sum_by-cons f n [])

module _ (I : Instance) (cuts : List PlainCut) (k : ℕ) (lines : List (List Group)) (prices : PriceList) where
  worths-same : (first second : ℕ → List Group) (n : ℕ) → ((c : ℕ) → c < n → first c ≡ second c) → worths_of I k prices first n ≡ worths_of I k prices second n
  worths-same first second zero same = refl
  worths-same first second (suc n) same =
      λ i. worths-same first second n (λ c less. same c (omega (arith, less))) i +ℤ worth_from I n k prices (chamber_at I n).stands (chamber_at I n).opens (same n (omega arith) i)

  pub sum-start : IsLeastSum (node_ask I cuts k lines prices) 0 (pos 0)
  sum-start = record { below = λ chosen loose. nothing tt; chosen = λ c. []; loose = λ c less. absurd (omega (arith, less)); worth = refl }
    where
      nothing : Unit {0} → pos 0 ≤ℤ pos 0
      nothing _ = omega (arith, ints)

  -- ONE CHAMBER MORE: the least of all is the least of each.
  pub sum-next : (n : ℕ) (v w : ℤ) → IsLeastSum (node_ask I cuts k lines prices) n v → IsLeastOn (line_ask I n cuts k prices (line_at lines n)) (Some w) → IsLeastSum (node_ask I cuts k lines prices) (suc n) (v +ℤ w)
  sum-next n v w sum least =
      let own = least.reached in
      let chosen : ℕ → List Group = λ c. cond (nat_eq c n) own.loose (sum.chosen c) in
      let others : (c : ℕ) → c < n → chosen c ≡ sum.chosen c = λ c less. elim (eqb_tells c n) [ inl y ↦ absurd (omega (arith, less, y.1)) | inr m ↦ ap (λ b. cond b own.loose (sum.chosen c)) m.0 ] in
      let here : chosen n ≡ own.loose = elim (eqb_tells n n) [ inl y ↦ ap (λ b. cond b own.loose (sum.chosen n)) y.0 | inr m ↦ absurd (m.1 refl) ] in
      record {
        below = λ other loose. add v w _ _ (sum.below other (λ c less. loose c (omega (arith, less)))) (least.below (other n) (loose n (omega arith)));
        chosen = chosen;
        loose = λ c less. elim (eqb_tells c n) [
          | inl y ↦ subst (λ c. IsLoose I c cuts k (line_at lines c) (chosen c)) (sym y.1) (subst (IsLoose I n cuts k (line_at lines n)) (sym here) own.is_loose)
          | inr m ↦ let lower = before c n less m.1 in subst (IsLoose I c cuts k (line_at lines c)) (sym (others c lower)) (sum.loose c lower)
        ];
        worth = λ i. (worths-same chosen sum.chosen n others ∙ sum.worth) i +ℤ (ap (worth_from I n k prices (chamber_at I n).stands (chamber_at I n).opens) here ∙ own.worth) i;
      }
    where
      add : (v w x y : ℤ) → v ≤ℤ x → w ≤ℤ y → (v +ℤ w) ≤ℤ (x +ℤ y)
      add v w x y h j = omega (arith, ints)

      before : (c n : ℕ) → c < suc n → c ≢ n → c < n
      before c n less m = elim (leb_tells (suc c) n) [ inl y ↦ y.1 | inr q ↦ absurd (m (omega (arith, less, q.1))) ]

  -- the chosen lines' worths are 100 times their flow times and what they are charged, minus what they pay
  worths-flow : (chosen : ℕ → List Group) (n : ℕ) → worths_of I k prices chosen n
      ≡ (pos (100 * sum_by (λ c. line_flow I c (chosen c)) (numbers_from 0 n) + sum_by (λ c. charged_in prices (chosen c)) (numbers_from 0 n))
      -ℤ pos (sum_by (λ c. paid_in I k prices (chosen c)) (numbers_from 0 n)))
  worths-flow chosen zero = refl
  worths-flow chosen (suc n) =
      let flow : ℕ → ℕ = λ c. line_flow I c (chosen c) in
      let paid : ℕ → ℕ = λ c. paid_in I k prices (chosen c) in
      let charged : ℕ → ℕ = λ c. charged_in prices (chosen c) in
      let one : suc n ≡ n + 1 = omega arith in
      let more : numbers_from 0 (suc n) ≡ numbers_from 0 n ++ n ∷ [] = ap (numbers_from 0) one ∙ numbers_more 0 n ∙ ap (λ m. numbers_from 0 n ++ m ∷ []) (omega arith) in
      let flows : sum_by flow (numbers_from 0 (suc n)) ≡ sum_by flow (numbers_from 0 n) + flow n = ap (sum_by flow) more ∙ sum_by-append flow (numbers_from 0 n) (n ∷ []) ∙ ap (λ x. sum_by flow (numbers_from 0 n) + x) (sum_by-one flow n) in
      let pays : sum_by paid (numbers_from 0 (suc n)) ≡ sum_by paid (numbers_from 0 n) + paid n = ap (sum_by paid) more ∙ sum_by-append paid (numbers_from 0 n) (n ∷ []) ∙ ap (λ x. sum_by paid (numbers_from 0 n) + x) (sum_by-one paid n) in
      let charges : sum_by charged (numbers_from 0 (suc n)) ≡ sum_by charged (numbers_from 0 n) + charged n = ap (sum_by charged) more ∙ sum_by-append charged (numbers_from 0 n) (n ∷ []) ∙ ap (λ x. sum_by charged (numbers_from 0 n) + x) (sum_by-one charged n) in
      step _ _ _ _ _ _ _ _ _ _ (worths-flow chosen n) flows charges pays
    where
      step : (u : ℤ) (f g h j p q x z y : ℕ) → u ≡ (pos (100 * f + h) -ℤ pos p) → x ≡ f + g → z ≡ h + j → y ≡ p + q → (u +ℤ (pos (100 * g + j) -ℤ pos q)) ≡ (pos (100 * x + z) -ℤ pos y)
      step u f g h j p q x z y e a d b = omega (arith, ints)

  -- THE NODE REACHES THE COST EXACTLY where the least sum, with the prices of the missing ships less those of the triples, is high enough.
  pub reaches-exact : (v : ℤ) (cost : ℕ) → IsPriceSum (node_ask I cuts k lines prices) v → Reaches I cuts k lines prices cost ↔ (pos (100 * cost) <ℤ (v +ℤ pos 100))
  reaches-exact v cost sum = let least = sum.is_least in (
    λ reached. up cost _ _ _ _ _ sum.least v (reached.high least.chosen (record { each = λ c known. least.loose c known })) (sym (worths-flow least.chosen (length I.chambers)) ∙ least.worth) sum.value,
    λ high. record {
      high = λ chosen loose. down cost _ _ _ _ _ sum.least v high (subst (λ w. sum.least ≤ℤ w) (worths-flow chosen (length I.chambers)) (least.below chosen (λ c known. loose.each c known))) sum.value;
    },
  )
    where
      up : (cost flow charged paid triples missing : ℕ) (u v : ℤ) → 100 * cost + paid + triples < 100 * flow + charged + missing + 100
          → (pos (100 * flow + charged) -ℤ pos paid) ≡ u → (v +ℤ pos triples) ≡ (u +ℤ pos missing) → pos (100 * cost) <ℤ (v +ℤ pos 100)
      up cost flow charged paid triples missing u v h e is = omega (arith, ints)

      down : (cost flow charged paid triples missing : ℕ) (u v : ℤ) → pos (100 * cost) <ℤ (v +ℤ pos 100)
          → u ≤ℤ (pos (100 * flow + charged) -ℤ pos paid) → (v +ℤ pos triples) ≡ (u +ℤ pos missing) → 100 * cost + paid + triples < 100 * flow + charged + missing + 100
      down cost flow charged paid triples missing u v h e is = omega (arith, ints)

-- sums are far from the ends of their type
pub sum-rounded : (v : ℤ) → neg_ℤ (pos 4000000000000000) ≤ℤ v → v ≤ℤ pos 400000000000000 → to_z w64 (of_z w64 v) ≡ v
sum-rounded v low high = omega (arith, ints)

module _ (n : ℕ) (v w : ℤ) (few : n < 4) (v-low : neg_ℤ (pos (816080000000000 * n)) ≤ℤ v) (v-high : v ≤ℤ pos (most_worth * n)) (w-low : neg_ℤ (pos 816080000000000) ≤ℤ w) (w-high : w ≤ℤ pos most_worth) where
  more-rounded : (v +ℤ w) ≡ to_z w64 (of_z w64 (v +ℤ to_z w64 (of_z w64 w)))
  more-rounded = omega (arith, ints, few, v-low, v-high, w-low, w-high)

  pub more-low : neg_ℤ (pos (816080000000000 * (n + 1))) ≤ℤ to_z w64 (of_z w64 (v +ℤ to_z w64 (of_z w64 w)))
  more-low = subst (λ x. neg_ℤ (pos (816080000000000 * (n + 1))) ≤ℤ x) more-rounded (omega (arith, ints, v-low, w-low))

  pub more-high : to_z w64 (of_z w64 (v +ℤ to_z w64 (of_z w64 w))) ≤ℤ pos (most_worth * (n + 1))
  more-high = subst (λ x. x ≤ℤ pos (most_worth * (n + 1))) more-rounded (omega (arith, ints, v-high, w-high))

-- one chamber more, in the type of sums
pub sum-more : (I : Instance) (cuts : List PlainCut) (k : ℕ) (lines : List (List Group)) (prices : PriceList) (n : ℕ) (v w : ℤ) → n < 4 → neg_ℤ (pos (816080000000000 * n)) ≤ℤ v → v ≤ℤ pos (most_worth * n) → neg_ℤ (pos 816080000000000) ≤ℤ w → w ≤ℤ pos most_worth
    → IsLeastSum (node_ask I cuts k lines prices) n v → IsLeastOn (line_ask I n cuts k prices (line_at lines n)) (Some w) → IsLeastSum (node_ask I cuts k lines prices) (n + 1) (to_z w64 (of_z w64 (v +ℤ to_z w64 (of_z w64 w))))
sum-more I cuts k lines prices n v w few v-low v-high w-low w-high sum least =
    let up : suc n ≡ n + 1 = omega arith in
    subst (λ n. IsLeastSum (node_ask I cuts k lines prices) n (to_z w64 (of_z w64 (v +ℤ to_z w64 (of_z w64 w))))) up
    (subst (IsLeastSum (node_ask I cuts k lines prices) (suc n)) (more-rounded n v w few v-low v-high w-low w-high) (sum-next I cuts k lines prices n v w sum least))

-- a node's line keeps its ships
pub line-kept : (I : Instance) (k : ℕ) (lines : List (List Group)) → IsNode I k lines → (c : ℕ) → c < length I.chambers → All (IsKeptGroup I k) (line_at lines c)
line-kept I k lines node c known = λ j d here.
    let g = slice_index_or (line_at lines c) j d in
    record {
      some = (node.groups c known j d here).count.0;
      kept = λ i e inside.
          let s = slice_index_or g.ships i e in
          let own : 1 ≤ times_in g.ships s = times_in-at g.ships i e inside in
          has_number-some (first_ships I k) s (omega (arith, own, group-line s (line_at lines c) j d here, times_on-held s lines c, node.held s));
    }

module _ (I : Instance) (cuts : List PlainCut) (k : ℕ) (prices : PriceList) where
  -- the line of one chamber more
  pub lines-next : (lines : List (List Group)) (n : ℕ) (found : List LooseLine) (more : LooseLine) → AreLeastLines (node_ask I cuts k lines prices) n found → IsLeastLine (line_ask I n cuts k prices (line_at lines n)) more → AreLeastLines (node_ask I cuts k lines prices) (n + 1) (found ++ more ∷ [])
  lines-next lines n found more are is = record {
    count = omega (arith, are.count, length-append found (more ∷ []));
    each = λ m d less. elim (leb_tells (suc m) n) [
      | inl y ↦ subst (IsLeastLine (line_ask I m cuts k prices (line_at lines m))) (sym (get_or_append_left found (more ∷ []) d m (omega (arith, y.1, are.count)))) (are.each m d y.1)
      | inr q ↦
          let same : m ≡ n = omega (arith, less, q.1) in
          let last : slice_index_or (found ++ more ∷ []) n d ≡ more = (λ i. slice_index_or (found ++ more ∷ []) (sym are.count i) d) ∙ get_or-append_seam found more [] d in
          subst (λ m. IsLeastLine (line_ask I m cuts k prices (line_at lines m)) (slice_index_or (found ++ more ∷ []) m d)) (sym same) (subst (IsLeastLine (line_ask I n cuts k prices (line_at lines n))) (sym last) is)
    ];
  }
