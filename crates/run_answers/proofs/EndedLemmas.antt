-- Refusals as answers, and answers that are no refusals.
use Rattle.std.proofs.Common.{◌≡◌, ◌⊎◌, refl, inl, inr}
use Rattle.run_answers.specs.Ended.{IsEndedOr, IsGoodOr}
use Rattle.run_answers.specs.declared.status.Status.{Status}
use Rattle.run_answers.specs.declared.status.Status.TheVariants.{Good, Open, Words, Refused, ReadFault, WriteFault, NoMemory, BadDossier, Unfit, PlanRefused}

refusal_ends : (Whole Left : Type 0) (Refusal : Status → Type 0) (s : Status) → (Refusal Good → Whole) → (Refusal Open → Left) → Refusal s → IsEndedOr Whole Left Refusal s
refusal_ends Whole Left Refusal Good whole left refusal = whole refusal
refusal_ends Whole Left Refusal Open whole left refusal = left refusal
refusal_ends Whole Left Refusal Words whole left refusal = refusal
refusal_ends Whole Left Refusal Refused whole left refusal = refusal
refusal_ends Whole Left Refusal ReadFault whole left refusal = refusal
refusal_ends Whole Left Refusal WriteFault whole left refusal = refusal
refusal_ends Whole Left Refusal NoMemory whole left refusal = refusal
refusal_ends Whole Left Refusal BadDossier whole left refusal = refusal
refusal_ends Whole Left Refusal Unfit whole left refusal = refusal
refusal_ends Whole Left Refusal PlanRefused whole left refusal = refusal

-- a refusal that is neither `Good` nor `Open` is an answer
pub refused_ended : (Whole Left : Type 0) (Refusal : Status → Type 0) (s : Status) → (Refusal Good → ⊥) → (Refusal Open → ⊥) → Refusal s → IsEndedOr Whole Left Refusal s
refused_ended Whole Left Refusal s never_good never_open refusal = refusal_ends Whole Left Refusal s (λ r. absurd (never_good r)) (λ r. absurd (never_open r)) refusal

-- a refusal that is not `Good` is an answer
pub refused_good : (Whole : Type 0) (Refusal : Status → Type 0) (s : Status) → (Refusal Good → ⊥) → Refusal s → IsGoodOr Whole Refusal s
refused_good Whole Refusal s never refusal = refusal_ends Whole (Refusal Open) Refusal s (λ r. absurd (never r)) (λ r. r) refusal

-- where the only refusal is want of memory, all else is `Good`
pub good_or : (Whole : Type 0) (Refusal : Status → Type 0) (s : Status) → (Refusal s → s ≡ NoMemory) → IsGoodOr Whole Refusal s → (s ≡ Good) ⊎ (s ≡ NoMemory)
good_or Whole Refusal Good wants answer = inl refl
good_or Whole Refusal Open wants answer = inr (wants answer)
good_or Whole Refusal Words wants answer = inr (wants answer)
good_or Whole Refusal Refused wants answer = inr (wants answer)
good_or Whole Refusal ReadFault wants answer = inr (wants answer)
good_or Whole Refusal WriteFault wants answer = inr (wants answer)
good_or Whole Refusal NoMemory wants answer = inr (wants answer)
good_or Whole Refusal BadDossier wants answer = inr (wants answer)
good_or Whole Refusal Unfit wants answer = inr (wants answer)
good_or Whole Refusal PlanRefused wants answer = inr (wants answer)
