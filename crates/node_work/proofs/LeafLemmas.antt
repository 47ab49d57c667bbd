-- The lockages of a line, one after the other.
use Rattle.std.proofs.Common.{◌≡◌, ℕ, zero, suc, ◌+◌, ◌<◌, ◌≤◌, List, [], ◌∷◌, ◌++◌, length, take, All, sum_by, refl, sym, ap, ◌∙◌, arith, slice_index_or, append-nil, append_assoc}
use Rattle.std.specs.List.{flat_map}
use Rattle.lock_model.specs.Fleet.{chamber_at}
use Rattle.lock_model.specs.declared.instance.Instance.{Instance}
use Rattle.lock_model.specs.declared.group.Group.{Group}
use Rattle.lock_model.specs.declared.placement.Spot.{Spot}
use Rattle.lock_model.specs.declared.way.Stand.{Stand}
use Rattle.lock_model.specs.declared.plan.Lockage.{Lockage}
use Rattle.lock_rules.specs.Lawful.{stand_after, duration_of}
use Rattle.lock_rules.specs.Timetable.{start_of, timetable_from, timetable_of}
use Rattle.lock_rules.specs.Leaf.{lockages_from, lockages_on}
use Rattle.lock_rules.specs.Arrival.{numbers_from}
use Rattle.lock_rules.specs.Node.{line_at, size_on, IsNode, IsNodeGroup}
use Rattle.std.proofs.lemmas.Grind.{flat_map-append}
use Rattle.std.proofs.lemmas.List.Sums.{sum_by-append}
use Rattle.std.proofs.lemmas.List.Elements.{All-weaker}
use Rattle.lock_rules.proofs.LineLemmas.{numbers-below, numbers_more, sum_by-each}
use Rattle.lock_rules.proofs.SizeLemmas.{groups-few, sizes-sum, node-size}

-- the lockage of a group
abbrev pub lockage_with : ℕ → (Group → List Spot) → Group → ℕ → Lockage
lockage_with c spots g start = record { chamber = c; way = g.way; ships = g.ships; start = start; spots = spots g }

module _ (I : Instance) (c : ℕ) (spots : Group → List Spot) where
  lockages-length : (stand : Stand) (from : ℕ) (gs : List Group) → length (lockages_from I c spots stand from gs) ≡ length gs
  lockages-length stand from [] = refl
  lockages-length stand from (g ∷ gs) = ap suc (lockages-length (stand_after g.way) (start_of I c stand from g + duration_of I c g.ships) gs)

  taken : (stand : Stand) (from : ℕ) (gs : List Group) (i : ℕ) (d : Group) (t : ℕ × ℕ) → i < length gs
      → take (suc i) (lockages_from I c spots stand from gs) ≡ take i (lockages_from I c spots stand from gs) ++ lockage_with c spots (slice_index_or gs i d) (slice_index_or (timetable_from I c stand from gs) i t).0 ∷ []
  taken stand from [] i d t here = absurd (omega (arith, here))
  taken stand from (g ∷ gs) zero d t here = refl
  taken stand from (g ∷ gs) (suc i) d t here =
      ap (λ ls. lockage_with c spots g (start_of I c stand from g) ∷ ls) (taken (stand_after g.way) (start_of I c stand from g + duration_of I c g.ships) gs i d t (omega (arith, here)))

  -- one lockage more
  pub line_step : (gs : List Group) (i : ℕ) (d : Group) (t : ℕ × ℕ) → i < length gs
      → take (i + 1) (lockages_on I c spots gs) ≡ take i (lockages_on I c spots gs) ++ lockage_with c spots (slice_index_or gs i d) (slice_index_or (timetable_of I c gs) i t).0 ∷ []
  line_step gs i d t here = (λ j. take (plus-one i j) (lockages_on I c spots gs)) ∙ taken (chamber_at I c).stands (chamber_at I c).opens gs i d t here
    where
      plus-one : (i : ℕ) → i + 1 ≡ suc i
      plus-one i = omega arith

  -- the whole line
  pub line_whole : (gs : List Group) → take (length gs) (lockages_on I c spots gs) ≡ lockages_on I c spots gs
  line_whole gs = all (lockages_on I c spots gs) (length gs) (lockages-length (chamber_at I c).stands (chamber_at I c).opens gs)
    where
      all : {X : Type 0} (xs : List X) (n : ℕ) → length xs ≡ n → take n xs ≡ xs
      all [] zero long = refl
      all [] (suc n) long = refl
      all (x ∷ xs) zero long = absurd (omega (arith, long))
      all (x ∷ xs) (suc n) long = ap (λ ys. x ∷ ys) (all xs n (omega (arith, long)))

  pub line_length : (gs : List Group) → length (lockages_on I c spots gs) ≡ length gs
  line_length gs = lockages-length (chamber_at I c).stands (chamber_at I c).opens gs

-- the lockages of one chamber more
pub chambers_step : (f : ℕ → List Lockage) (n : ℕ) → flat_map f (numbers_from 0 (n + 1)) ≡ flat_map f (numbers_from 0 n) ++ f n
chambers_step f n =
    let here : 0 + n ≡ n = omega arith in
    ap (flat_map f) (numbers_more 0 n)
    ∙ flat_map-append f (numbers_from 0 n) ((0 + n) ∷ [])
    ∙ ap (λ k. flat_map f (numbers_from 0 n) ++ (f k ++ [])) here
    ∙ ap (λ xs. flat_map f (numbers_from 0 n) ++ xs) (append-nil (f n))

-- the groups of the first chambers of a node are at most as many as its ships
pub groups-within : (I : Instance) (k : ℕ) (lines : List (List Group)) → IsNode I k lines → (m : ℕ) → m ≤ length I.chambers → sum_by (λ c. length (line_at lines c)) (numbers_from 0 m) ≤ k
groups-within I k lines node m within =
    let nums = numbers_from 0 m in
    let groups : ℕ → ℕ = λ c. length (line_at lines c) in
    let sizes : ℕ → ℕ = λ c. size_on (line_at lines c) in
    let few : All (λ c. groups c ≤ sizes c) nums = All-weaker (λ c. c < 0 + m) (λ c. groups c ≤ sizes c) (λ c less.
    groups-few (line_at lines c) (All-weaker (IsNodeGroup I c) (λ g. 1 ≤ length g.ships) (λ g h. h.count.0) (line_at lines c) (node.groups c (omega (arith, less, within))))) nums (numbers-below 0 m) in
    omega (arith, sum_by-each groups sizes nums few, sizes-sum lines m, node-size I k lines node)

-- room for the lockages of one chamber more
pub room_for : (I : Instance) (k : ℕ) (lines : List (List Group)) → IsNode I k lines → (m : ℕ) → m < length I.chambers → sum_by (λ c. length (line_at lines c)) (numbers_from 0 m) + length (line_at lines m) ≤ k
room_for I k lines node m within =
    let groups : ℕ → ℕ = λ c. length (line_at lines c) in
    let here : 0 + m ≡ m = omega arith in
    let more : sum_by groups (numbers_from 0 (m + 1)) ≡ sum_by groups (numbers_from 0 m) + groups m =
    ap (sum_by groups) (numbers_more 0 m) ∙ sum_by-append groups (numbers_from 0 m) ((0 + m) ∷ []) ∙ omega (arith, ap groups here) in
    omega (arith, more, groups-within I k lines node (m + 1) (omega (arith, within)))

pub sizes_step : (lines : List (List Group)) (n : ℕ) → sum_by (λ c. length (line_at lines c)) (numbers_from 0 (n + 1)) ≡ sum_by (λ c. length (line_at lines c)) (numbers_from 0 n) + length (line_at lines n)
sizes_step lines n =
    let groups : ℕ → ℕ = λ c. length (line_at lines c) in
    let here : 0 + n ≡ n = omega arith in
    ap (sum_by groups) (numbers_more 0 n) ∙ sum_by-append groups (numbers_from 0 n) ((0 + n) ∷ []) ∙ omega (arith, ap groups here)

-- a lockage appended as the code makes it
pub line_more : (I : Instance) (c : ℕ) (spots : Group → List Spot) (gs : List Group) (times : List (ℕ × ℕ)) (old ls new : List Lockage) (i : ℕ) (g : Group) (ships : List ℕ) (start : ℕ) (sp : List Spot) (t : ℕ × ℕ)
    → times ≡ timetable_of I c gs → i < length gs → ls ≡ old ++ take i (lockages_on I c spots gs)
    → g ≡ slice_index_or gs i g → ships ≡ g.ships → sp ≡ spots g → start ≡ (slice_index_or times i t).0
    → new ≡ ls ++ record { chamber = c; way = g.way; ships = ships; start = start; spots = sp } ∷ []
    → new ≡ old ++ take (i + 1) (lockages_on I c spots gs)
line_more I c spots gs times old ls new i g ships start sp t table here before group same-ships same-spots same-start appended =
    let lockage : record { chamber = c; way = g.way; ships = ships; start = start; spots = sp } ≡ lockage_with c spots (slice_index_or gs i g) (slice_index_or (timetable_of I c gs) i t).0 =
    (λ j. record { chamber = c; way = (group j).way; ships = (same-ships ∙ ap (λ (g : Group). g.ships) group) j; start = (same-start ∙ ap (λ ts. (slice_index_or ts i t).0) table) j; spots = (same-spots ∙ ap spots group) j }) in
    appended
    ∙ ap (λ xs. xs ++ record { chamber = c; way = g.way; ships = ships; start = start; spots = sp } ∷ []) before
    ∙ append_assoc old (take i (lockages_on I c spots gs)) (record { chamber = c; way = g.way; ships = ships; start = start; spots = sp } ∷ [])
    ∙ ap (λ x. old ++ (take i (lockages_on I c spots gs) ++ x ∷ [])) lockage
    ∙ sym (ap (λ xs. old ++ xs) (line_step I c spots gs i g t here))
