-- Sets of ships by bits.
use Rattle.std.proofs.Common.{ℕ, zero, suc, ◌^◌, ◌<◌, ◌≤◌, arith}
use Rattle.lock_model.specs.declared.limits.TheConstants.{MOST}

pub few_sets : (k : ℕ) → k < MOST → 2 ^ k ≤ 128
few_sets zero h = omega arith
few_sets (suc zero) h = omega arith
few_sets (suc (suc zero)) h = omega arith
few_sets (suc (suc (suc zero))) h = omega arith
few_sets (suc (suc (suc (suc zero)))) h = omega arith
few_sets (suc (suc (suc (suc (suc zero))))) h = omega arith
few_sets (suc (suc (suc (suc (suc (suc zero)))))) h = omega arith
few_sets (suc (suc (suc (suc (suc (suc (suc zero))))))) h = omega arith
few_sets (suc (suc (suc (suc (suc (suc (suc (suc k)))))))) h = absurd (omega (arith, h))
