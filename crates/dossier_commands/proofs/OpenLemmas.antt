-- What `lower` answers to the bytes of an open dossier.
use Rattle.std.proofs.Common.{ℕ, ◌≡◌, ◌≢◌, ◌≤◌, List, sym, subst, inl, inr, arith}
use Rattle.std.proofs.lemmas.Bool.Decides.{leb_tells}
use Rattle.lock_model.specs.declared.instance.Instance.{Instance}
use Rattle.certificate_rules.specs.Certificates.{Certificate}
use Rattle.run_answers.specs.Sources.{IsFair}
use Rattle.run_answers.proofs.EndedLemmas.{refused_ended}
use Rattle.run_answers.specs.declared.status.Status.{Status}
use Rattle.dossier_commands.specs.DossierTexts.{lower_text}
use Rattle.checked_dossiers.specs.Standing.{IsStanding, HasLow, IsNoStanding}
use Rattle.dossier_commands.specs.Lowering.{PrintsEqual, PrintsGap, AnswersLower}

-- ---- what is answered to bytes that aren't an open dossier that stands

pub lowers_none : (bytes : List ℕ) (s : Status) (text : List ℕ) → IsNoStanding bytes s text → AnswersLower bytes s text
lowers_none bytes s text none = refused_ended (PrintsEqual bytes text) (PrintsGap bytes text) (λ t. IsNoStanding bytes t text) s (λ never. never) (λ never. never) none

-- ---- `lower`

-- its low is at most its cost
low_at_most : (I : Instance) (C : Certificate) (low : ℕ) → HasLow I C low → low ≤ C.cost
low_at_most I C low has = let lowest = has.lowest in lowest.most

pub equal_answers : (bytes : List ℕ) (I : Instance) (C : Certificate) (low cost : ℕ) (text : List ℕ) → IsStanding bytes I C → HasLow I C low → cost ≡ C.cost → low ≡ cost → text ≡ lower_text low cost → PrintsEqual bytes text
equal_answers bytes I C low cost text standing has is same shown =
    record {
      cost = cost;
      printed = record { instance = I; certificate = C; standing = standing; lowest = subst (HasLow I C) same has; cost_is = sym is; shown = subst (λ n. text ≡ lower_text n cost) same shown };
    }

pub gap_answers : (bytes : List ℕ) (I : Instance) (C : Certificate) (low cost : ℕ) (text : List ℕ) → IsStanding bytes I C → HasLow I C low → cost ≡ C.cost → low ≢ cost → text ≡ lower_text low cost → PrintsGap bytes text
gap_answers bytes I C low cost text standing has is other shown =
    let most = low_at_most I C low has in
    elim (leb_tells cost low) [
      | inl high ↦ absurd (other (let reached = high.1 in omega (arith, most, reached, is)))
      | inr less ↦ record { low = low; cost = cost; below = less.1; printed = record { instance = I; certificate = C; standing = standing; lowest = has; cost_is = sym is; shown = shown } }
    ]

-- `lower` says to bytes neither that words are bad nor that a fault was counted
pub lower_fair : IsFair AnswersLower
lower_fair = record {
  words = λ bytes text says. says;
  read_fault = λ bytes text says. says;
  write_fault = λ bytes text says. says;
  no_memory = λ bytes text says. says;
}
