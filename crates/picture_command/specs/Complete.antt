-- What is drawn, want of memory aside.
use Rattle.std.specs.Prelude.{ℕ, ◌≡◌, ◌⊎◌, List}
use Rattle.lock_model.specs.declared.instance.Instance.{Instance}
use Rattle.certificate_rules.specs.Certificates.{Certificate}
use Rattle.picture_page.specs.declared.times.Dial.{Dial}
use Rattle.checked_dossiers.specs.Accepted.{IsAccepted}
use Rattle.checked_dossiers.specs.Standing.{IsStanding}
use Rattle.run_answers.specs.declared.status.Status.{Status}
use Rattle.run_answers.specs.declared.status.Status.TheVariants.{Good, NoMemory}
use Rattle.picture_command.specs.Pictures.{AnswersPicture}

-- what is answered to the bytes is a picture, or want of memory
abbrev pub IsDrawn : List ℕ → Type 0
IsDrawn bytes = (dial : Dial) (s : Status) (text : List ℕ) → AnswersPicture dial bytes s text → (s ≡ Good) ⊎ (s ≡ NoMemory)

-- Each dossier whose certificate is accepted is drawn.
abbrev pub AcceptedAreDrawn : Type 0
AcceptedAreDrawn = (bytes : List ℕ) (I : Instance) (C : Certificate) → IsAccepted bytes I C → IsDrawn bytes

-- Each open dossier that stands is drawn.
abbrev pub StandingAreDrawn : Type 0
StandingAreDrawn = (bytes : List ℕ) (I : Instance) (C : Certificate) → IsStanding bytes I C → IsDrawn bytes
