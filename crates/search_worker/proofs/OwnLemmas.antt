-- A node whose groups are made of the first ships, each once, is a node of the instance.
use Rattle.std.proofs.Common.{◌≡◌, ℕ, zero, suc, ◌+◌, ◌<◌, ◌≤◌, List, [], ◌∷◌, length, take, min, All, Contains, cond, nat_eq, slice_index_or, refl, sym, ap, ◌∙◌, subst, arith, inl, inr}
use Rattle.std.proofs.lemmas.Bool.Decides.{eqb_tells, leb_tells}
use Rattle.std.proofs.lemmas.List.{get_or_past, get_or_default, length-take}
use Rattle.std.proofs.lemmas.List.Elements.{All-head, All-tail, All-weaker}
use Rattle.std.specs.List.Sorted.{IsStrictlyIncreasing}
use Rattle.lock_model.specs.declared.limits.TheConstants.{CHAMBERS}
use Rattle.lock_model.specs.Fleet.{ship_at, chamber_at}
use Rattle.lock_model.specs.declared.instance.Instance.{Instance}
use Rattle.lock_model.specs.declared.group.Group.{Group}
use Rattle.lock_model.specs.declared.way.Way.{Way}
use Rattle.lock_rules.specs.Plan.{times_in}
use Rattle.lock_rules.specs.Arrival.{order_of, first_ships}
use Rattle.lock_rules.specs.Node.{line_at, times_on, times_held, KeepsNode, IsNode, IsNodeGroup}
use Rattle.lock_rules.proofs.CountLemmas.{without, times_in-without, sum_by-without}
use Rattle.lock_rules.proofs.TreeLemmas.{times_in-hit, times_in-miss}
use Rattle.lock_rules.proofs.ChildLemmas.{times_on-held}
use Rattle.lock_rules.proofs.SizeLemmas.{lines_ships, times_in-lines, length-lines}
use Rattle.lock_rules.proofs.SplitLemmas.{length-order, order-known, times_in-at}
use Rattle.lock_rules.proofs.ThroughputLemmas.{length-sum}
use Rattle.lock_rules.proofs.AmongLemmas.{contains-times, times-contains}
use Rattle.lock_rules.proofs.NodeLemmas.{group-line}
use Rattle.search_worker.specs.Owning.{IsOwnShip, IsOwnGroup, IsOwnLine}

-- Of two lists that are equally long, where the one holds no number more often than the other, both hold each number equally often.
pub same-counts : (xs ys : List ℕ) → length xs ≡ length ys → ((s : ℕ) → times_in xs s ≤ times_in ys s) → (s : ℕ) → times_in xs s ≡ times_in ys s
same-counts [] [] long few s = refl
same-counts [] (y ∷ ys) long few s = absurd (omega (arith, long))
same-counts (x ∷ xs) ys long few s =
    let here = times_in-hit x x xs (elim (eqb_tells x x) [ inl y ↦ y.0 | inr n ↦ absurd (n.1 refl) ]) in
    let some : 1 ≤ times_in ys x = let most = few x in omega (arith, here, most) in
    let shorter : length xs ≡ length (without x ys) =
    let cut = sum_by-without (λ (y : ℕ). 1) x ys some in omega (arith, long, cut, length-sum ys, length-sum (without x ys)) in
    let fewer : (t : ℕ) → times_in xs t ≤ times_in (without x ys) t = λ t.
    let most : cond (nat_eq x t) 1 0 + times_in xs t ≤ times_in ys t = few t in
    let parts = times_in-without x t ys some in
    omega (arith, most, parts) in
    let rest = same-counts xs (without x ys) shorter fewer s in
    let parts = times_in-without x s ys some in
    let goal : cond (nat_eq x s) 1 0 + times_in xs s ≡ times_in ys s = omega (arith, rest, parts) in
    goal

module _ (I : Instance) (first : List ℕ) where
  -- a ship of a group of own ships is among the first ones
  abbrev AreAmong : List Group → Type 0
  AreAmong gs = All (λ g. All (IsOwnShip I first g.way) g.ships) gs

  ship-among : (way : Way) (ss : List ℕ) (s : ℕ) → All (IsOwnShip I first way) ss → 1 ≤ times_in ss s → 1 ≤ times_in first s
  ship-among way [] s own some = absurd (omega (arith, some))
  ship-among way (x ∷ ss) s own some =
      elim (eqb_tells x s) [
        | inl same ↦ contains-times first s (subst (Contains first) same.1 (All-head (IsOwnShip I first way) x ss own).among)
        | inr other ↦ ship-among way ss s (All-tail (IsOwnShip I first way) x ss own) (let miss = times_in-miss s x ss other.0 in omega (arith, some, miss))
      ]

  line-among : (gs : List Group) (s : ℕ) → AreAmong gs → 1 ≤ times_on s gs → 1 ≤ times_in first s
  line-among [] s own some = absurd (omega (arith, some))
  line-among (g ∷ gs) s own some =
      elim (leb_tells 1 (times_in g.ships s)) [
        | inl here ↦ ship-among g.way g.ships s (All-head (λ (g : Group). All (IsOwnShip I first g.way) g.ships) g gs own) here.1
        | inr none ↦ line-among gs s (All-tail (λ (g : Group). All (IsOwnShip I first g.way) g.ships) g gs own) (let past = none.1 in omega (arith, some, past))
      ]

  lines-among : (lines : List (List Group)) (s : ℕ) → ((c : ℕ) → AreAmong (line_at lines c)) → 1 ≤ times_held s lines → 1 ≤ times_in first s
  lines-among [] s own some = absurd (omega (arith, some))
  lines-among (line ∷ lines) s own some =
      elim (leb_tells 1 (times_on s line)) [
        | inl here ↦ line-among line s (own 0) here.1
        | inr none ↦ lines-among lines s (λ c. own (suc c)) (let past = none.1 in omega (arith, some, past))
      ]

-- what is tested of a node of depth k
abbrev pub IsOwn : Instance → ℕ → List (List Group) → Type 0
IsOwn I k lines = (c : ℕ) → c < CHAMBERS → IsOwnLine I (first_ships I k) c (line_at lines c)

module _ (I : Instance) (k : ℕ) (lines : List (List Group)) (keeps : KeepsNode k lines) where
  past-line : (c : ℕ) → CHAMBERS ≤ c → line_at lines c ≡ []
  past-line c past = get_or_past lines c [] (let four = keeps.four in omega (arith, four, past))

  module _ (deep : k ≤ length (order_of I)) (own : IsOwn I k lines) where
    no-chamber : (c : ℕ) → length I.chambers ≤ c → line_at lines c ≡ []
    no-chamber c past = elim (leb_tells CHAMBERS c) [
      | inl beyond ↦ past-line c beyond.1
      | inr within ↦ (own c (let less = within.1 in omega (arith, less))).past past
    ]

    group-own : (c : ℕ) → c < length I.chambers → All (IsOwnGroup I (first_ships I k) (chamber_at I c).most) (line_at lines c)
    group-own c inside = (own c (let few = I.limits.chamber_count.1 in omega (arith, few, inside))).groups inside

    all-among : (c : ℕ) → AreAmong I (first_ships I k) (line_at lines c)
    all-among c = elim (leb_tells (length I.chambers) c) [
      | inl past ↦ subst (AreAmong I (first_ships I k)) (sym (no-chamber c past.1)) (λ j d here. absurd (omega (arith, here)))
      | inr inside ↦ All-weaker (IsOwnGroup I (first_ships I k) (chamber_at I c).most) (λ (g : Group). All (IsOwnShip I (first_ships I k) g.way) g.ships) (λ g h. h.ships) (line_at lines c) (group-own c (let less = inside.1 in omega (arith, less)))
    ]

    held-few : (s : ℕ) → times_in (lines_ships lines) s ≤ times_in (first_ships I k) s
    held-few s = elim (leb_tells 1 (times_held s lines)) [
      | inl here ↦
          let once = keeps.once s in
          let among = lines-among I (first_ships I k) lines s all-among here.1 in
          omega (arith, times_in-lines s lines, once, among)
      | inr none ↦ let past = none.1 in omega (arith, times_in-lines s lines, past)
    ]

    pub own_node : IsNode I k lines
    own_node = record {
      four = keeps.four;
      depth = omega (arith, deep, length-order I);
      held = λ s.
          let long : length (first_ships I k) ≡ min k (length (order_of I)) = length-take k (order_of I) in
          let size = keeps.depth in
          let same : length (lines_ships lines) ≡ length (first_ships I k) = omega (arith, long, size, deep, length-lines lines) in
          sym (times_in-lines s lines) ∙ same-counts (lines_ships lines) (first_ships I k) same held-few s;
      groups = λ c inside. All-weaker (IsOwnGroup I (first_ships I k) (chamber_at I c).most) (IsNodeGroup I c) (λ g h. record {
        rising = h.rising;
        count = h.count;
        way = All-weaker (IsOwnShip I (first_ships I k) g.way) (λ s. (ship_at I s).way ≡ g.way) (λ s own. own.way_is) g.ships h.ships;
      }) (line_at lines c) (group-own c inside);
      past = no-chamber;
    }

module _ (I : Instance) (k : ℕ) (lines : List (List Group)) (node : IsNode I k lines) where
  pub node_deep : k ≤ length (order_of I)
  node_deep = let deep = node.depth in omega (arith, deep, length-order I)

  node-group : (c : ℕ) → c < length I.chambers → All (IsOwnGroup I (first_ships I k) (chamber_at I c).most) (line_at lines c)
  node-group c inside j d here =
      let g = slice_index_or (line_at lines c) j d in
      let good = node.groups c inside j d here in
      record {
        rising = good.rising;
        count = good.count;
        ships = λ i e known. record {
          among =
              let s = slice_index_or g.ships i e in
              let some : 1 ≤ times_in g.ships s = times_in-at g.ships i e known in
              times-contains (first_ships I k) s (omega (arith, some, group-line s (line_at lines c) j d here, times_on-held s lines c, node.held s));
          way_is = good.way i e known;
        };
      }

  pub node_own : IsOwn I k lines
  node_own c less = record { groups = node-group c; past = node.past c }

-- the first ships are known
pub first_known : (I : Instance) (k : ℕ) → All (λ s. s < length I.ships) (first_ships I k)
first_known I k = λ j d here. first-at (order_of I) k j d here (order-known I)
  where
    first-at : (xs : List ℕ) (k j d : ℕ) → j < length (take k xs) → All (λ s. s < length I.ships) xs → slice_index_or (take k xs) j d < length I.ships
    first-at xs zero j d here all = absurd (omega (arith, here))
    first-at [] (suc k) j d here all = absurd (omega (arith, here))
    first-at (x ∷ xs) (suc k) zero d here all = All-head (λ s. s < length I.ships) x xs all
    first-at (x ∷ xs) (suc k) (suc j) d here all = first-at xs k j d (omega (arith, here)) (All-tail (λ s. s < length I.ships) x xs all)

-- what holds of each place of a list
pub all_from : {X : Type 0} (P : X → Type 0) (xs : List X) (d : X) (n : ℕ) → length xs ≤ n → ((k : ℕ) → k < n → P (slice_index_or xs k d)) → All P xs
all_from P xs d n long each k e here = subst P (get_or_default xs k d e here) (each k (omega (arith, long, here)))

-- the ships of a group as the code reads them
pub own_group : (I : Instance) (first : List ℕ) (most : ℕ) (g : Group) (ss : List ℕ) → ss ≡ g.ships → IsStrictlyIncreasing ss → 1 ≤ length ss → length ss ≤ most → All (IsOwnShip I first g.way) ss → IsOwnGroup I first most g
own_group I first most g ss same rising some few own = record {
  rising = subst IsStrictlyIncreasing same rising;
  count = (let long = ap length same in omega (arith, long, some), let long = ap length same in omega (arith, long, few));
  ships = subst (All (IsOwnShip I first g.way)) same own;
}

pub own_ships : (I : Instance) (first : List ℕ) (most : ℕ) (g : Group) (ss : List ℕ) → ss ≡ g.ships → IsOwnGroup I first most g → All (IsOwnShip I first g.way) ss
own_ships I first most g ss same own = subst (All (IsOwnShip I first g.way)) (sym same) own.ships

-- the same of a node, with the order and the depth as the code reads them
module _ (I : Instance) (k d : ℕ) (order : List ℕ) (lines : List (List Group)) (by_arrival : order ≡ order_of I) (depth : d ≡ k) where
  firsts : take d order ≡ first_ships I k
  firsts = ap (λ n. take n order) depth ∙ ap (take k) by_arrival

  pub node_from : KeepsNode k lines → d ≤ length order → ((c : ℕ) → c < CHAMBERS → IsOwnLine I (take d order) c (line_at lines c)) → IsNode I k lines
  node_from keeps deep own =
      own_node I k lines keeps (let long = ap length by_arrival in omega (arith, deep, depth, long)) (λ c less. subst (λ first. IsOwnLine I first c (line_at lines c)) firsts (own c less))

  pub deep_from : IsNode I k lines → d ≤ length order
  deep_from node = let long = ap length by_arrival in omega (arith, node_deep I k lines node, depth, long)

  pub own_from : IsNode I k lines → (c : ℕ) → c < CHAMBERS → IsOwnLine I (take d order) c (line_at lines c)
  own_from node c less = subst (λ first. IsOwnLine I first c (line_at lines c)) (sym firsts) (node_own I k lines node c less)
