-- What a legal plan, and a legal part of one, says of each of its lockages.
use Rattle.std.proofs.Common.{ℕ, ◌<◌, ◌≤◌, List, [], ◌∷◌, length, filter, All, cond, true, false, nat_eq, nat_le, eq-eqb, subst, refl, arith}
use Rattle.std.proofs.lemmas.List.Elements.{All-head, All-tail, All-cons, All-nil, All-weaker}
use Rattle.lock_model.specs.Fleet.{ship_at, chamber_at}
use Rattle.lock_model.specs.declared.instance.Instance.{Instance}
use Rattle.lock_model.specs.declared.plan.Lockage.{Lockage}
use Rattle.lock_model.specs.declared.plan.Plan.{Plan}
use Rattle.lock_rules.specs.Lines.{insert_by_start, sorted_by_start, line_of}
use Rattle.lock_rules.specs.Plan.{IsLegal, IsLegalPart, IsLegalLockage}
use Rattle.lock_rules.proofs.ThroughputLemmas.{arrivals-line}

-- no ship of the lockage arrives after its start
abbrev pub HasArrived : Instance → Lockage → Type 0
HasArrived I l = All (λ s. (ship_at I s).arrival ≤ l.start) l.ships

module _ (Q : Lockage → Type 0) where
  All-before_insert : (l : Lockage) (ls : List Lockage) → All Q (insert_by_start l ls) → All Q (l ∷ ls)
  All-before_insert l [] h = h
  All-before_insert l (m ∷ ms) h =
      elim (nat_le l.start m.start) as (λ b. All Q (cond b (l ∷ m ∷ ms) (m ∷ insert_by_start l ms)) → All Q (l ∷ m ∷ ms)) [
        | true ↦ λ h. h
        | false ↦ λ h.
            let rest = All-before_insert l ms (All-tail Q m (insert_by_start l ms) h) in
            All-cons Q l (m ∷ ms) (All-head Q l ms rest) (All-cons Q m ms (All-head Q m (insert_by_start l ms) h) (All-tail Q l ms rest))
      ] h

  All-before_sort : (ls : List Lockage) → All Q (sorted_by_start ls) → All Q ls
  All-before_sort [] h = h
  All-before_sort (l ∷ ls) h =
      let all = All-before_insert l (sorted_by_start ls) h in
      All-cons Q l ls (All-head Q l (sorted_by_start ls) all) (All-before_sort ls (All-tail Q l (sorted_by_start ls) all))

  All-from_chambers : (m : ℕ) (ls : List Lockage) → All (λ l. l.chamber < m) ls → ((c : ℕ) → c < m → All Q (filter (λ l. nat_eq l.chamber c) ls)) → All Q ls
  All-from_chambers m [] known each = All-nil Q
  All-from_chambers m (l ∷ ls) known each =
      let own = each l.chamber (All-head (λ (l : Lockage). l.chamber < m) l ls known) in
      All-cons Q l ls
      (All-head Q l (filter (λ k. nat_eq k.chamber l.chamber) ls) (subst (λ b. All Q (cond b (l ∷ filter (λ k. nat_eq k.chamber l.chamber) ls) (filter (λ k. nat_eq k.chamber l.chamber) ls))) (eq-eqb l.chamber l.chamber refl) own))
      (All-from_chambers m ls (All-tail (λ (l : Lockage). l.chamber < m) l ls known) (λ c less. without c (each c less)))
    where
      without : (c : ℕ) → All Q (filter (λ l. nat_eq l.chamber c) (l ∷ ls)) → All Q (filter (λ l. nat_eq l.chamber c) ls)
      without c h =
          elim (nat_eq l.chamber c) as (λ b. All Q (cond b (l ∷ filter (λ l. nat_eq l.chamber c) ls) (filter (λ l. nat_eq l.chamber c) ls)) → All Q (filter (λ l. nat_eq l.chamber c) ls)) [
            | true ↦ λ h. All-tail Q l (filter (λ l. nat_eq l.chamber c) ls) h
            | false ↦ λ h. h
          ] h

-- a legal plan is a legal part
pub legal-part : (I : Instance) (P : Plan) → IsLegal I P → IsLegalPart I P
legal-part I P legal = record { once = λ s known. omega (arith, legal.once s known); lockage = legal.lockage; timely = legal.timely }

module _ (I : Instance) (K : Plan) (legal : IsLegalPart I K) where
  pub part-chambers : All (λ l. l.chamber < length I.chambers) K.lockages
  part-chambers = All-weaker (IsLegalLockage I) (λ l. l.chamber < length I.chambers) (λ l h. h.chamber) K.lockages legal.lockage

  pub part-ships : All (λ l. All (λ s. s < length I.ships) l.ships) K.lockages
  part-ships = All-weaker (IsLegalLockage I) (λ l. All (λ s. s < length I.ships) l.ships) (λ l h. h.known) K.lockages legal.lockage

  -- no lockage starts before the arrival of one of its ships
  pub part-arrived : All (HasArrived I) K.lockages
  part-arrived =
      All-from_chambers (HasArrived I) (length I.chambers) K.lockages part-chambers
      (λ c less. All-before_sort (HasArrived I) (filter (λ l. nat_eq l.chamber c) K.lockages) (arrivals-line I c (chamber_at I c).stands (chamber_at I c).opens (line_of K c) (legal.timely c less).lawful))

module _ (I : Instance) (P : Plan) (legal : IsLegal I P) where
  pub legal-chambers : All (λ l. l.chamber < length I.chambers) P.lockages
  legal-chambers = part-chambers I P (legal-part I P legal)

  pub legal-ships : All (λ l. All (λ s. s < length I.ships) l.ships) P.lockages
  legal-ships = part-ships I P (legal-part I P legal)

  pub legal-arrived : All (HasArrived I) P.lockages
  legal-arrived = part-arrived I P (legal-part I P legal)

pub ruleset of_legal_plans = (legal-chambers, legal-ships, legal-arrived)
