-- What was found of a deck before is so of its ships.
use Rattle.std.proofs.Common.{◌≡◌, ℕ, List, subst}
use Rattle.lock_model.specs.Deck.{Deck}
use Rattle.lock_model.specs.Fitting.{deck_of}
use Rattle.lock_model.specs.Cargo.{HasNoClash}
use Rattle.refute_rules.specs.Cases.{IsHard}
use Rattle.refute_rules.specs.Spots.{IsSpotHard}
use Rattle.deck_cuts.specs.Tried.{Tried}
use Rattle.lock_model.specs.declared.placement.Spot.{Spot}
use Rattle.lock_model.specs.declared.instance.Instance.{Instance}
use Rattle.node_work.specs.declared.settling.Settled.{Settled}
use Rattle.node_work.specs.declared.settling.Settled.TheVariants.{Fits, Refuted, Spent}
use Rattle.node_work.specs.Settling.{IsSettled, IsRecalled, IsTooHard, AreMooredAt}

recalled : (I : Instance) (c : ℕ) (S : List ℕ) (turns : ℕ) (settled : Settled) → IsRecalled (deck_of I c S) turns settled → IsSettled I c S turns settled
recalled I c S turns (Fits spots) is = is
recalled I c S turns (Refuted cut) is = absurd is
recalled I c S turns (Spent hard spots) is = is

pub recalled_settles : (I : Instance) (c : ℕ) (S : List ℕ) (d : Deck) (turns : ℕ) (settled : Settled) → d ≡ deck_of I c S → IsRecalled d turns settled → IsSettled I c S turns settled
recalled_settles I c S d turns settled is found = recalled I c S turns settled (subst (λ e. IsRecalled e turns settled) is found)

-- what was found of a deck that was too hard
pub too_hard : (d : Deck) (turns : ℕ) (hard spots : Tried) → HasNoClash d → hard ≡ record { deck = d; turns = turns } → IsHard d turns → spots ≡ record { deck = d; turns = turns } → IsSpotHard d turns → IsTooHard d turns hard spots
too_hard d turns hard spots clear told known also spot_known = record { hard_is = told; spots_are = also; spent = record { hard = known; spot_hard = spot_known }; clear = clear }

pub fits_at : (I : Instance) (c : ℕ) (S : List ℕ) (turns : ℕ) (p : Settled) (spots : List Spot) → p ≡ Fits spots → IsSettled I c S turns p → AreMooredAt (deck_of I c S) spots
fits_at I c S turns p spots is answer = subst (IsSettled I c S turns) is answer
