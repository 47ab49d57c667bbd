-- An `Option` or a `Result` is one variant, with one value.
use Rattle.std.proofs.Common.{◌≡◌, Option, None, Some, Result, Ok, Err}

pub some-not_none : {X : Type 0} (x : X) → Some x ≡ None → ⊥
some-not_none x e = cc

pub one-ok : {T E : Type 0} (r : Result T E) (a b : T) → r ≡ Ok a → r ≡ Ok b → a ≡ b
one-ok r a b e f = cc

pub not-ok_and_err : {T E : Type 0} (r : Result T E) (a : T) (fault : E) → r ≡ Ok a → r ≡ Err fault → ⊥
not-ok_and_err r a fault e f = cc
