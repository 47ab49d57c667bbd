-- A text means one thing, or has one first fault.
use Rattle.std.proofs.Common.{◌≡◌, Result, Ok, Err, IfOk, IfErr, sym, ap, ◌∙◌}

-- what is read of the text, and what each value is read as
module _ {R X E : Type 0} (reading : Result R E) (of : X → R) where
  pub one_value : ((a b : X) → of a ≡ of b → a ≡ b) → (a b : X) → reading ≡ Ok (of a) → reading ≡ Ok (of b) → a ≡ b
  one_value injective a b first second = injective a b (let same : ◌≡◌ {A = Result R E} (Ok (of a)) (Ok (of b)) = sym first ∙ second in cc)

  pub no_fault : (a : X) (e : E) → reading ≡ Ok (of a) → reading ≡ Err e → ⊥
  no_fault a e first second = let same : ◌≡◌ {A = Result R E} (Ok (of a)) (Err e) = sym first ∙ second in cc

  pub one_fault : (e f : E) → reading ≡ Err e → reading ≡ Err f → e ≡ f
  one_fault e f first second = let same : ◌≡◌ {A = Result R E} (Err e) (Err f) = sym first ∙ second in cc

  -- a reader that is right where it answers answers all that is so
  pub reads_each : ((a b : X) → of a ≡ of b → a ≡ b) → (r : Result X E) → IfOk r (λ a. reading ≡ Ok (of a)) → IfErr r (λ e. reading ≡ Err e) → (x : X) → reading ≡ Ok (of x) → r ≡ Ok x
  reads_each injective (Ok a) ok err x means = ap Ok (one_value injective a x ok means)
  reads_each injective (Err e) ok err x means = absurd (no_fault x e means err)

  pub refuses_each : (r : Result X E) → IfOk r (λ a. reading ≡ Ok (of a)) → IfErr r (λ e. reading ≡ Err e) → (f : E) → reading ≡ Err f → r ≡ Err f
  refuses_each (Ok a) ok err f fault = absurd (no_fault a f ok fault)
  refuses_each (Err e) ok err f fault = ap Err (one_fault e f err fault)
