-- Lockages that are read from a plan, and whether they start before a minute.
use Rattle.std.proofs.Common.{◌≡◌, ℕ, ◌<◌, ◌≤◌, List, length, get_or, true, false, sym, subst, ◌∙◌}
use Rattle.std.proofs.lemmas.Bool.{lt-ltb, le-ltb}
use Rattle.lock_model.specs.declared.plan.Lockage.{Lockage}
use Rattle.lock_model.specs.declared.plan.Plan.{Plan}
use Rattle.lock_rules.specs.Lines.{lockage_at}
use Rattle.lock_rules.proofs.LineLemmas.{lockage_at-read}
use Rattle.replan.specs.Kept.{starts_before}

module _ (P : Plan) (p : ℕ) (l : Lockage) (ls : List Lockage) (same : ls ≡ P.lockages) (within : p < length ls) (read : l ≡ get_or ls p l) where
  pub read_at : get_or ls p l ≡ lockage_at P p
  read_at = sym read ∙ lockage_at-read P p l ls same within read

  pub starts_hit : (M : ℕ) → (get_or ls p l).start < M → starts_before M (lockage_at P p) ≡ true
  starts_hit M h = lt-ltb (lockage_at P p).start M (subst (λ (m : Lockage). m.start < M) read_at h)

  pub starts_miss : (M : ℕ) → M ≤ (get_or ls p l).start → starts_before M (lockage_at P p) ≡ false
  starts_miss M h = le-ltb (lockage_at P p).start M (subst (λ (m : Lockage). M ≤ m.start) read_at h)
