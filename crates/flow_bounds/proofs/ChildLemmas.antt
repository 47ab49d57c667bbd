-- The probe of the next ship is the least bound of the children.
use Rattle.std.proofs.Common.{◌≡◌, ℕ, suc, ◌+◌, ◌<◌, ◌≤◌, List, [], ◌∷◌, length, map, sum_by, drop, All, IsTrue, nat_le, inl, inr, refl, arith, ap, sym, ◌∙◌, slice_set, le-leb}
use Rattle.std.proofs.lemmas.Bool.{false≢true}
use Rattle.std.proofs.lemmas.Bool.Decides.{leb_tells}
use Rattle.std.proofs.lemmas.List.Elements.{All-head, All-tail, All-cons, All-nil}
use Rattle.std.proofs.Math.Seq.{drop-cons}
use Rattle.std.proofs.lemmas.List.Sums.{sum_by-cons}
use Rattle.lock_model.specs.Fleet.{ship_at, chamber_at}
use Rattle.lock_model.specs.declared.instance.Instance.{Instance}
use Rattle.lock_model.specs.declared.group.Group.{Group}
use Rattle.lock_rules.specs.Arrival.{numbers_from, order_of, missing_ships, next_ship}
use Rattle.lock_rules.specs.Node.{IsNode, line_at}
use Rattle.lock_rules.specs.Children.{single, joined, added, children_at, children_by, children_of}
use Rattle.lock_rules.specs.Bound.{node_flow, least_passage, least_number, bound_of, probe_of}
use Rattle.list_laws.specs.Among.{IsAmong}
use Rattle.lock_rules.proofs.TreeLemmas.{IsAmong-map, IsAmong-right, IsAmong-added}
use Rattle.lock_rules.proofs.BoundLemmas.{IsAmong-numbers}
use Rattle.lock_rules.proofs.SplitLemmas.{IsAmong-flat_map, length-order, next-missing, missing-known}
use Rattle.flow_bounds.proofs.ProbeLemmas.{missing-once, next-held, others-sum}

-- a number added to all is added to the least
least-plus : {X : Type 0} (f : X → ℕ) (r : ℕ) (x : X) (xs : List X) → least_number (map (λ y. f y + r) (x ∷ xs)) ≡ least_number (map f (x ∷ xs)) + r
least-plus f r x [] = refl
least-plus f r x (y ∷ ys) = omega (arith, least-plus f r y ys)

least-plus-some : {X : Type 0} (f : X → ℕ) (r : ℕ) (xs : List X) (x : X) → IsAmong xs x → least_number (map (λ y. f y + r) xs) ≡ least_number (map f xs) + r
least-plus-some f r [] x none = absurd none
least-plus-some f r (y ∷ ys) x some = least-plus f r y ys

-- a ship may always stand alone before the first chamber's groups
some-child : (I : Instance) (s : ℕ) (lines : List (List Group)) → IsAmong (children_by I s lines) (slice_set lines 0 (single (ship_at I s).way s ∷ line_at lines 0))
some-child I s lines =
    let way = (ship_at I s).way in
    let line = line_at lines 0 in
    let some : 0 < length I.chambers = omega (arith, I.limits.chamber_count.0) in
    IsAmong-flat_map (children_at I s lines) (numbers_from 0 (length I.chambers)) 0 (slice_set lines 0 (single way s ∷ line)) (IsAmong-numbers 0 (length I.chambers) 0 (omega arith) (omega arith))
    (IsAmong-map (λ line. slice_set lines 0 line) _ (single way s ∷ line) (IsAmong-right (joined (chamber_at I 0).most way s line) (added way s line) (single way s ∷ line) (IsAmong-added way s line)))

pub least-child : (I : Instance) (k : ℕ) (lines : List (List Group)) → IsNode I k lines → k < length I.ships → least_number (map (bound_of I (k + 1)) (children_of I k lines)) ≡ probe_of I k lines (next_ship I k)
least-child I k lines node less =
    let s = next_ship I k in
    let rest = sum_by (least_passage I) (missing_ships I (k + 1)) in
    let known = missing-known I k s (next-missing I k less) in
    let once = missing-once I k lines node s known (next-held I k lines node less) in
    let up : suc k ≡ k + 1 = omega arith in
    let front : missing_ships I k ≡ s ∷ missing_ships I (k + 1) = drop-cons (order_of I) k 0 (omega (arith, length-order I)) ∙ ap (λ n. s ∷ drop n (order_of I)) up in
    omega (
      arith,
      least-plus-some (node_flow I) rest (children_of I k lines) _ (some-child I s lines),
      ap (sum_by (least_passage I)) front,
      sum_by-cons (least_passage I) s (missing_ships I (k + 1)),
      others-sum (least_passage I) s (missing_ships I k) once,
    )

-- a number is at most the least of some numbers exactly where it is at most each
reached-least : {X : Type 0} (f : X → ℕ) (n : ℕ) (x : X) (xs : List X) → All (λ r. IsTrue r) (map (λ y. nat_le n (f y)) (x ∷ xs)) → n ≤ least_number (map f (x ∷ xs))
reached-least f n x [] all = elim (leb_tells n (f x)) [
  | inl most ↦ most.1
  | inr less ↦ absurd (false≢true (sym less.0 ∙ All-head (λ r. IsTrue r) (nat_le n (f x)) [] all))
]
reached-least f n x (y ∷ ys) all =
    let rest = reached-least f n y ys (All-tail (λ r. IsTrue r) (nat_le n (f x)) (map (λ y. nat_le n (f y)) (y ∷ ys)) all) in
    elim (leb_tells n (f x)) [
      | inl most ↦ omega (arith, most.1, rest)
      | inr less ↦ absurd (false≢true (sym less.0 ∙ All-head (λ r. IsTrue r) (nat_le n (f x)) (map (λ y. nat_le n (f y)) (y ∷ ys)) all))
    ]

least-reached : {X : Type 0} (f : X → ℕ) (n : ℕ) (x : X) (xs : List X) → n ≤ least_number (map f (x ∷ xs)) → All (λ r. IsTrue r) (map (λ y. nat_le n (f y)) (x ∷ xs))
least-reached f n x [] most = All-cons (λ r. IsTrue r) (nat_le n (f x)) [] (le-leb n (f x) most) (All-nil (λ r. IsTrue r))
least-reached f n x (y ∷ ys) most =
    All-cons (λ r. IsTrue r) (nat_le n (f x)) (map (λ y. nat_le n (f y)) (y ∷ ys)) (le-leb n (f x) (omega (arith, most))) (least-reached f n y ys (omega (arith, most)))

reached-some : {X : Type 0} (f : X → ℕ) (n : ℕ) (xs : List X) (x : X) → IsAmong xs x → All (λ r. IsTrue r) (map (λ y. nat_le n (f y)) xs) → n ≤ least_number (map f xs)
reached-some f n [] x none all = absurd none
reached-some f n (y ∷ ys) x some all = reached-least f n y ys all

some-reached : {X : Type 0} (f : X → ℕ) (n : ℕ) (xs : List X) (x : X) → IsAmong xs x → n ≤ least_number (map f xs) → All (λ r. IsTrue r) (map (λ y. nat_le n (f y)) xs)
some-reached f n [] x none most = absurd none
some-reached f n (y ∷ ys) x some most = least-reached f n y ys most

-- a cost is at most the bounds of all children exactly where it is at most the probe of the next ship
pub reached-probe : (I : Instance) (k : ℕ) (lines : List (List Group)) → IsNode I k lines → k < length I.ships → (n : ℕ)
    → All (λ r. IsTrue r) (map (λ lines. nat_le n (bound_of I (k + 1) lines)) (children_of I k lines)) → n ≤ probe_of I k lines (next_ship I k)
reached-probe I k lines node less n all = omega (arith, least-child I k lines node less, reached-some (bound_of I (k + 1)) n (children_of I k lines) _ (some-child I (next_ship I k) lines) all)

pub probe-reached : (I : Instance) (k : ℕ) (lines : List (List Group)) → IsNode I k lines → k < length I.ships → (n : ℕ)
    → n ≤ probe_of I k lines (next_ship I k) → All (λ r. IsTrue r) (map (λ lines. nat_le n (bound_of I (k + 1) lines)) (children_of I k lines))
probe-reached I k lines node less n most = some-reached (bound_of I (k + 1)) n (children_of I k lines) _ (some-child I (next_ship I k) lines) (omega (arith, least-child I k lines node less, most))
