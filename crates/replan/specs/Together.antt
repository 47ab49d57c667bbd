-- A plan of the rest, put together with the kept plan.
use Rattle.std.specs.Prelude.{ℕ, ◌≡◌, ◌+◌, ◌≤◌, ◌++◌, List, map, filter, slice_index_or}
use Rattle.lock_model.specs.declared.instance.Instance.{Instance}
use Rattle.lock_model.specs.declared.plan.Lockage.{Lockage}
use Rattle.lock_model.specs.declared.plan.Plan.{Plan}
use Rattle.lock_rules.specs.Lines.{line_of}
use Rattle.lock_rules.specs.Plan.{IsLegal, IsCheapest, cost_of}
use Rattle.replan.specs.Kept.{starts_before, kept_of, CanBeKept}
use Rattle.replan.specs.Rest.{ships_left, added_of, IsRest}

-- the ship of the instance for ship s of the rest
abbrev pub number_of : List ℕ → ℕ → ℕ
number_of ns s = slice_index_or ns s 0

-- a lockage of the rest, its ships told by their numbers in the instance
abbrev pub renumbered : List ℕ → Lockage → Lockage
renumbered ns l = record l { ships = map (number_of ns) l.ships }

-- the kept lockages, and then those of the rest
abbrev pub joined : Plan → List ℕ → Plan → Plan
joined K ns Q = record { lockages = K.lockages ++ map (renumbered ns) Q.lockages }

-- In each chamber the lockages that start before minute M are those of K; so all others start at M or later.
pub record Keeps (K : Plan) (M : ℕ) (P : Plan) : Type 0 where
  pub lines : (c : ℕ) → filter (starts_before M) (line_of P c) ≡ line_of K c

-- A plan Q of the rest R from which a plan P of the instance comes: put together with the kept plan it has the lines of P, and it costs as much less as the kept plan and the delays do.
pub record ComesFrom (I R : Instance) (K : Plan) (M : ℕ) (P Q : Plan) : Type 0 where
  pub legal : IsLegal R Q
  pub lines : (c : ℕ) → line_of (joined K (ships_left I K) Q) c ≡ line_of P c
  pub cost : cost_of I P ≡ cost_of R Q + added_of I K M

-- Every legal plan that keeps the kept plan comes from a plan of the rest.
abbrev pub ComeFromRests : Type 0
ComeFromRests = (I R : Instance) (G : Plan) (M : ℕ) → CanBeKept I (kept_of G M) → IsRest I (kept_of G M) M R → (P : Plan) → IsLegal I P → Keeps (kept_of G M) M P → (Q : Plan) × ComesFrom I R (kept_of G M) M P Q

-- A cheapest plan of the rest makes a cheapest one of those that keep the kept plan.
abbrev pub StayCheapest : Type 0
StayCheapest = (I R : Instance) (G : Plan) (M : ℕ) → CanBeKept I (kept_of G M) → IsRest I (kept_of G M) M R → (Q P : Plan) → IsCheapest R Q → IsLegal I P → Keeps (kept_of G M) M P
    → cost_of I (joined (kept_of G M) (ships_left I (kept_of G M)) Q) ≤ cost_of I P
