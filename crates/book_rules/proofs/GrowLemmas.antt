-- How many nodes are cheap: no fewer by a greater cost, and no more than the law of size allows.
use Rattle.std.proofs.Common.{◌≡◌, ℕ, zero, suc, ◌-◌, ◌<◌, ◌≤◌, List, length, Bool, true, false, nat_lt, inl, inr, ap, arith}
use Rattle.std.proofs.lemmas.Bool.Decides.{leb_tells}
use Rattle.lock_model.specs.declared.instance.Instance.{Instance}
use Rattle.lock_model.specs.declared.group.Group.{Group}
use Rattle.lock_rules.specs.Node.{root_lines}
use Rattle.lock_rules.specs.Children.{children_of}
use Rattle.lock_rules.specs.Bound.{bound_of}
use Rattle.lock_rules.specs.Cheap.{cheap_from, cheap_nodes}
use Rattle.lock_rules.specs.Size.{node_limit}
use Rattle.lock_rules.proofs.LineLemmas.{sum_by-each}
use Rattle.lock_rules.proofs.SizeLemmas.{cheap-few, nodes-law}
use Rattle.book_rules.proofs.TallyLemmas.{one}

one-grows : (n b c : ℕ) → b ≤ c → one (nat_lt n b) ≤ one (nat_lt n c)
one-grows n b c less =
    elim (leb_tells (suc n) c) [
      | inl y ↦ let here = ap one y.0 in omega (arith, here, one-few (nat_lt n b))
      | inr m ↦
          elim (leb_tells (suc n) b) [
            | inl z ↦ absurd (omega (arith, z.1, m.1, less))
            | inr k ↦ let here = ap one k.0 in omega (arith, here)
          ]
    ]
  where
    one-few : (t : Bool) → one t ≤ 1
    one-few true = omega arith
    one-few false = omega arith

from-grows : (I : Instance) (b c : ℕ) → b ≤ c → (left k : ℕ) (lines : List (List Group)) → cheap_from I b left k lines ≤ cheap_from I c left k lines
from-grows I b c less zero k lines = one-grows (bound_of I k lines) b c less
from-grows I b c less (suc left) k lines =
    let here = one-grows (bound_of I k lines) b c less in
    let rest = sum_by-each (cheap_from I b left (suc k)) (cheap_from I c left (suc k)) (children_of I k lines) (λ j d inside. from-grows I b c less left (suc k) _) in
    omega (arith, here, rest)

-- CHEAP NODES GROW WITH THE COST: a greater cost leaves no fewer nodes below it.
pub cheap-grows : (I : Instance) (b c : ℕ) → b ≤ c → (k : ℕ) (lines : List (List Group)) → cheap_nodes I b k lines ≤ cheap_nodes I c k lines
cheap-grows I b c less k lines = from-grows I b c less (length I.ships - k) k lines

-- COMPLETENESS: where the budget is that of the node law, no more nodes than it allows are cheap.
pub law-cheap : (I : Instance) (nodes cost : ℕ) → node_limit (length I.ships) (length I.chambers) ≤ nodes → nodes < cheap_nodes I cost 0 root_lines → ⊥
law-cheap I nodes cost room more =
    let whole : length I.ships - 0 ≡ length I.ships = omega arith in
    let same = ap (λ n. cheap_from I cost n 0 root_lines) whole in
    omega (arith, room, more, same, cheap-few I cost (length I.ships) 0 root_lines, nodes-law I)
