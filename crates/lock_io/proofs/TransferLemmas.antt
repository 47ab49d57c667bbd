-- Bytes that are moved in pieces.
use Rattle.std.proofs.Common.{◌≡◌, ℕ, ◌+◌, ◌<◌, ◌≤◌, List, ◌++◌, length, take, drop, ap, ◌∙◌, refl, subst, take-append-drop, arith, length-append}
use Rattle.std.proofs.lemmas.List.{drop-take}
use Rattle.std.proofs.lemmas.Grind.{common_steps}
use Rattle.std.proofs.KnownBytes.{Appends-trans, Consumes-trans}
use Rattle.lock_io.specs.WholeReads.{LosesFront}
use Rattle.lock_io.specs.declared.read.ReadError.TheVariants.{TooLong, NoMemory}
use Rattle.std.specs.declared.option.Option.{Option}
use Rattle.std.specs.Io.KnownBytes.{Consumes, Appends}

-- the first n bytes, and then k bytes of what is behind them
pub take-add : (n k : ℕ) (bytes : List ℕ) → n ≤ length bytes → take n bytes ++ take k (drop n bytes) ≡ take (n + k) bytes
take-add n k bytes h =
    rw (← drop-take n k bytes) (subst (λ xs. xs ++ drop n (take (n + k) bytes) ≡ take (n + k) bytes) (grind (arith, common_steps)) (take-append-drop n (take (n + k) bytes)))

-- the first n bytes were appended, and then k bytes of the piece behind them
pub Appends-more : (a b c : Option (List ℕ)) (bytes piece : List ℕ) (n k : ℕ) → n ≤ length bytes → piece ≡ drop n bytes
    → Appends a b (take n bytes) → Appends b c (take k piece) → Appends a c (take (n + k) bytes)
Appends-more a b c bytes piece n k h is first second =
    subst (Appends a c) (ap (λ p. take n bytes ++ take k p) is ∙ take-add n k bytes h) (Appends-trans a b c _ _ first second)

-- a front and then a piece were handed out, which are more than the limit
pub LosesFront-too_long : (a b c : Option (List ℕ)) (front piece : List ℕ) (limit : ℕ) → Consumes a b front → Consumes b c piece
    → limit < length front + length piece → LosesFront (TooLong limit) limit a c
LosesFront-too_long a b c front piece limit first second more =
    record { front = front ++ piece; gone = Consumes-trans a b c front piece first second; cut = (refl, omega (arith, length-append front piece)) }

-- the same within the limit, for which there is no memory
pub LosesFront-no_memory : (a b c : Option (List ℕ)) (front piece : List ℕ) (limit : ℕ) → Consumes a b front → Consumes b c piece
    → length front + length piece ≤ limit → LosesFront NoMemory limit a c
LosesFront-no_memory a b c front piece limit first second fits =
    record { front = front ++ piece; gone = Consumes-trans a b c front piece first second; cut = omega (arith, length-append front piece) }
