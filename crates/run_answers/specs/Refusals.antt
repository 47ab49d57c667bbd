-- Why an instance is refused: a defect of its text, or a ship that fits no chamber.
use Rattle.std.specs.Prelude.{ℕ, ◌≡◌, List}
use Rattle.lock_model.specs.declared.instance.Instance.{Instance}
use Rattle.lock_rules.specs.Unfit.{IsFirstUnfit}
use Rattle.instance_text.specs.Reading.{Defect}
use Rattle.instance_text.specs.declared.bad.Kind.{Kind}
use Rattle.run_answers.specs.Texts.{defect_text, unfit_text}

-- the first ship that fits no chamber
pub record IsUnfitShip (I : Instance) (text : List ℕ) : Type 0 where
  pub ship : ℕ
  pub first : IsFirstUnfit I ship
  pub shown : text ≡ unfit_text I ship

-- the first defect of the bytes
pub record IsDefect (bytes text : List ℕ) : Type 0 where
  pub line : ℕ
  pub kind : Kind
  pub defect : Defect bytes line kind
  pub shown : text ≡ defect_text line kind
