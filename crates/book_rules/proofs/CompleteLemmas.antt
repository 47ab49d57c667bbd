-- Completeness: with enough nodes and turns a search never ends open.
use Rattle.std.proofs.Common.{◌≡◌, ℕ, zero, suc, ◌*◌, ◌^◌, ◌<◌, ◌≤◌, List, [], ◌∷◌, length, inl, inr, refl, ap, arith, Contains}
use Rattle.std.proofs.Math.Nat.{mul-le-mul, pow-le-pow_left, pow-le-pow_right}
use Rattle.std.proofs.lemmas.List.{length-map}
use Rattle.std.proofs.lemmas.List.Elements.{All-contains}
use Rattle.lock_model.specs.Fleet.{ship_at, chamber_at, no_chamber}
use Rattle.lock_model.specs.Fitting.{deck_of, size_of}
use Rattle.lock_model.specs.declared.instance.Instance.{Instance}
use Rattle.lock_model.specs.declared.group.Group.{Group}
use Rattle.lock_model.specs.declared.plan.Plan.{Plan}
use Rattle.lock_model.specs.declared.verdict.Verdict.{Verdict}
use Rattle.lock_model.specs.declared.verdict.Verdict.TheVariants as verdict
use Rattle.lock_rules.specs.Node.{IsNode, IsNodeGroup, line_at, size_on, size_held}
use Rattle.lock_rules.specs.Size.{turn_limit}
use Rattle.lock_rules.proofs.SizeLemmas.{node-size}
use Rattle.book_rules.specs.Ends.{IsSpentIn, IsEnd, GroupsAtMost, AreEnough}
use Rattle.book_rules.proofs.GrowLemmas.{law-cheap}
use Rattle.book_rules.proofs.CaseCountLemmas.{pairs_below, pairs-half, hard-few}

-- ---- more ships, more turns

pairs-more : (n k : ℕ) → n ≤ k → pairs_below n ≤ pairs_below k
pairs-more zero k less = omega arith
pairs-more (suc n) zero less = absurd (omega (arith, less))
pairs-more (suc n) (suc k) less = let rest = pairs-more n k (omega (arith, less)) in omega (arith, rest, less)

limit-more : (n k : ℕ) → 1 ≤ k → n ≤ k → turn_limit n ≤ turn_limit k
limit-more n k some less =
    let base : (2 * n) ^ n ≤ (2 * k) ^ n = pow-le-pow_left (omega (arith, less)) n in
    let up : (2 * k) ^ n ≤ (2 * k) ^ k = pow-le-pow_right (omega (arith, some)) less in
    let berths : 2 * (2 * n) ^ n ≤ 2 * (2 * k) ^ k = omega (arith, base, up) in
    let pairs : 4 ^ pairs_below n ≤ 4 ^ pairs_below k = pow-le-pow_right (omega arith) (pairs-more n k less) in
    let both : 2 * (2 * n) ^ n * 4 ^ pairs_below n ≤ 2 * (2 * k) ^ k * 4 ^ pairs_below k = mul-le-mul berths pairs in
    let own = ap (λ p. 2 * (2 * n) ^ n * 4 ^ p) (pairs-half n) in
    let other = ap (λ p. 2 * (2 * k) ^ k * 4 ^ p) (pairs-half k) in
    omega (arith, both, own, other)

-- ---- the ships of a group

on-line : (gs : List Group) (g : Group) → Contains gs g → length g.ships ≤ size_on gs
on-line [] g h = absurd (omega (arith, h.1))
on-line (x ∷ gs) g (zero, known, is) = let same = ap (λ (g : Group). length g.ships) is in omega (arith, same)
on-line (x ∷ gs) g (suc i, known, is) = let rest = on-line gs g (i, omega (arith, known), is) in omega (arith, rest)

in-lines : (lines : List (List Group)) (c : ℕ) → size_on (line_at lines c) ≤ size_held lines
in-lines [] c = omega arith
in-lines (line ∷ lines) zero = omega arith
in-lines (line ∷ lines) (suc c) = let rest = in-lines lines c in omega (arith, rest)

module _ (I : Instance) (depth : ℕ) (lines : List (List Group)) (node : IsNode I depth lines) (turns chamber : ℕ) (ships : List ℕ) (group : IsSpentIn I turns lines chamber ships) where
  own-group : IsNodeGroup I chamber group.group
  own-group = All-contains (IsNodeGroup I chamber) (line_at lines chamber) group.group (node.groups chamber group.known) group.held

  -- a spent group has a ship, and no more than k
  group-few : (k : ℕ) → GroupsAtMost I k → length ships ≤ k
  group-few k (inl few) =
      let same = ap length group.same in
      omega (arith, same, few, on-line (line_at lines chamber) group.group group.held, in-lines lines chamber, node-size I depth lines node, node.depth)
  group-few k (inr few) =
      let same = ap length group.same in
      let own : (chamber_at I chamber).most ≤ k = few chamber no_chamber group.known in
      omega (arith, same, own, own-group.count.1)

  group-some : 1 ≤ length ships
  group-some = let same = ap length group.same in omega (arith, same, own-group.count.0)

  -- it's spent for fewer turns than k ships have cases
  group-turns : (k : ℕ) → GroupsAtMost I k → turns < turn_limit k
  group-turns k few =
      let some = group-some in
      let less = group-few k few in
      let count = ap turn_limit (length-map ships (λ s. size_of (ship_at I s))) in
      omega (arith, hard-few (deck_of I chamber ships) turns group.spent.hard, limit-more (length ships) k (omega (arith, some, less)) less, count)

-- COMPLETENESS: with enough nodes and turns, the only end is that of a cheapest plan.
pub enough-optimal : (I : Instance) (nodes turns limit : ℕ) (P : Plan) (V : Verdict) → AreEnough I nodes turns → IsEnd I nodes turns limit P V → V ≡ verdict.Optimal
enough-optimal I nodes turns limit P verdict.Optimal enough end = refl
enough-optimal I nodes turns limit P (verdict.OpenNodes used low) enough end = absurd (law-cheap I nodes limit enough.nodes_are end.more)
enough-optimal I nodes turns limit P (verdict.OpenTurns chamber ships given low) enough end =
    let named = end.named in
    let few = group-turns I named.depth named.lines named.node turns chamber ships named.group enough.size enough.groups in
    absurd (omega (arith, few, enough.turns_are))
