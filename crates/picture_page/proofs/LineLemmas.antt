-- The passages of one chamber.
use Rattle.std.proofs.Common.{ℕ, nat_eq, List, [], ◌∷◌, All, Bool, true, false, cond}
use Rattle.std.proofs.lemmas.List.Elements.{All-nil, All-cons, All-head, All-tail}
use Rattle.picture_page.specs.declared.passage.Passage.{Passage}
use Rattle.picture_page.specs.Passages.{line_of}

-- what holds of all passages holds of those of a chamber
pub All-line : (Q : Passage → Type 0) (c : ℕ) (ps : List Passage) → All Q ps → All Q (line_of c ps)
All-line Q c [] kept = All-nil Q
All-line Q c (p ∷ ps) kept = step (nat_eq p.chamber c) (All-line Q c ps (All-tail Q p ps kept))
  where
    step : (own : Bool) → All Q (line_of c ps) → All Q (cond own (p ∷ line_of c ps) (line_of c ps))
    step true rest = All-cons Q p (line_of c ps) (All-head Q p ps kept) rest
    step false rest = rest
