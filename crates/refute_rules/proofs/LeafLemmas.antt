-- A leaf's kind tells how many numbers follow, so at most one rest is left.
use Rattle.std.proofs.Common.{◌≡◌, ◌≢◌, ℕ, ◌≤◌, List, ◌∷◌, ◌++◌, length, drop, get_or, sym, ap, ◌∙◌, arith}
use Rattle.std.proofs.lemmas.List.{drop_at, length-append}
use Rattle.refute_rules.specs.declared.choices.Choice.{Choice}
use Rattle.refute_rules.specs.Trees.{IsLeaf}

abbrev pub head : List ℕ → ℕ
head xs = get_or xs 0 0

-- the numbers of a fault are its kind and as many numbers as that tells
pub record HasKind {F : Type 0} (numbers_of : F → List ℕ) (size : ℕ → ℕ) (fault : F) : Type 0 where
  pub kind : ℕ
  pub tail : List ℕ
  pub told : numbers_of fault ≡ kind ∷ tail
  pub sized : length tail ≡ size kind
  pub some : kind ≢ 0

module _ {F : Type 0} (IsFault : List Choice → F → Type 0) (numbers_of : F → List ℕ) (size : ℕ → ℕ)
    (law : (case : List Choice) (fault : F) → IsFault case fault → HasKind numbers_of size fault) where
  pub leaf-split : (case : List Choice) (marks rest : List ℕ) (leaf : IsLeaf IsFault numbers_of case marks rest) → marks ≡ (law case leaf.0 leaf.1).kind ∷ ((law case leaf.0 leaf.1).tail ++ rest)
  leaf-split case marks rest leaf = leaf.2 ∙ ap (λ ns. ns ++ rest) (law case leaf.0 leaf.1).told

  pub kind-is : (case : List Choice) (marks rest : List ℕ) (leaf : IsLeaf IsFault numbers_of case marks rest) → head marks ≡ (law case leaf.0 leaf.1).kind
  kind-is case marks rest leaf = ap head (leaf-split case marks rest leaf)

  pub tail-is : (case : List Choice) (marks rest : List ℕ) (leaf : IsLeaf IsFault numbers_of case marks rest) → drop 1 marks ≡ (law case leaf.0 leaf.1).tail ++ rest
  tail-is case marks rest leaf = ap (drop 1) (leaf-split case marks rest leaf)

  pub sized-is : (case : List Choice) (marks rest : List ℕ) (leaf : IsLeaf IsFault numbers_of case marks rest) → length (law case leaf.0 leaf.1).tail ≡ size (head marks)
  sized-is case marks rest leaf = (law case leaf.0 leaf.1).sized ∙ ap size (sym (kind-is case marks rest leaf))

  pub leaf-rest : (case : List Choice) (marks rest : List ℕ) → IsLeaf IsFault numbers_of case marks rest → rest ≡ drop (size (head marks)) (drop 1 marks)
  leaf-rest case marks rest leaf =
      sym (ap (drop (size (head marks))) (tail-is case marks rest leaf) ∙ drop_at (law case leaf.0 leaf.1).tail rest (size (head marks)) (sized-is case marks rest leaf))

  pub leaf-same : (case : List Choice) (marks r s : List ℕ) → IsLeaf IsFault numbers_of case marks r → IsLeaf IsFault numbers_of case marks s → r ≡ s
  leaf-same case marks r s a b = leaf-rest case marks r a ∙ sym (leaf-rest case marks s b)

  pub leaf-kind : (case : List Choice) (marks rest : List ℕ) → IsLeaf IsFault numbers_of case marks rest → head marks ≢ 0
  leaf-kind case marks rest leaf e = (law case leaf.0 leaf.1).some (sym (kind-is case marks rest leaf) ∙ e)

  pub leaf-long : (case : List Choice) (marks rest : List ℕ) → IsLeaf IsFault numbers_of case marks rest → size (head marks) ≤ length (drop 1 marks)
  leaf-long case marks rest leaf =
      omega (arith, sized-is case marks rest leaf, ap length (tail-is case marks rest leaf), length-append (law case leaf.0 leaf.1).tail rest)
