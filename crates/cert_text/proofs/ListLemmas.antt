-- Reading the items of a list one after the other.
use Rattle.std.proofs.Common.{◌≡◌, ◌∙◌, ◌++◌, ◌+◌, ◌<◌, ◌≤◌, ℕ, suc, List, [], ◌∷◌, Option, Some, None, refl, sym, ap, arith, append_assoc, append-nil, drop, get_or, length, length-append, option_map, false, ◌≢◌, eq-eqb}
use Rattle.std.proofs.lemmas.List.{drop_all, drop_more}
use Rattle.std.specs.Prelude.{◌==◌}
use Rattle.std.proofs.lemmas.Bool.Decides.{nat_tests}
use Rattle.serde_json.specs.Data.{Data}
use Rattle.serde_json.specs.View.{view, items_view}
use Rattle.serde_json.specs.declared.value.Value.{Value}
use Rattle.cert_text.specs.Fields.{all_in}
use Rattle.cert_text.specs.Steps.{◌>>=◌, ◌>>◌, when}

-- what was found, and then what f reads of the rest
abbrev pub rest_in : {A : Type 0} → (Data → Option A) → List A → List Value → Option (List A)
rest_in f found more = option_map (λ xs. found ++ xs) (all_in f (items_view more))

-- as many are found as there are items
pub all_in-length : {A : Type 0} (f : Data → Option A) (vs : List Value) (xs : List A) → all_in f (items_view vs) ≡ Some xs → length xs ≡ length vs
all_in-length f [] [] e = refl
all_in-length f [] (x ∷ xs) e = absurd cc
all_in-length {A = A} f (v ∷ vs) xs e = first (f (view v)) (all_in f (items_view vs)) (all_in-length f vs) e
  where
    first : (a : Option A) (o : Option (List A)) → ((ys : List A) → o ≡ Some ys → length ys ≡ length vs) → (a >>= λ x. o >>= λ more. Some (x ∷ more)) ≡ Some xs → length xs ≡ suc (length vs)
    first None o more same = absurd cc
    first (Some x) None more same = absurd cc
    first (Some x) (Some ys) more same = grind (arith, more ys refl)

-- as many as were asked for
pub counted : {A : Type 0} (f : Data → Option A) (vs : List Value) (count : ℕ) → length vs ≡ count → (all_in f (items_view vs) >>= λ xs. when (length xs == count) >> Some xs) ≡ all_in f (items_view vs)
counted {A = A} f vs count is = go (all_in f (items_view vs)) (all_in-length f vs)
  where
    go : (o : Option (List A)) → ((xs : List A) → o ≡ Some xs → length xs ≡ length vs) → (o >>= λ xs. when (length xs == count) >> Some xs) ≡ o
    go None same = refl
    go (Some xs) same = ap (λ b. when b >> Some xs) (eq-eqb (length xs) count (same xs refl ∙ is))

pub miscounted : {A : Type 0} (f : Data → Option A) (vs : List Value) (count : ℕ) → length vs ≢ count → None ≡ (all_in f (items_view vs) >>= λ xs. when (length xs == count) >> Some xs)
miscounted {A = A} f vs count other = go (all_in f (items_view vs)) (all_in-length f vs)
  where
    go : (o : Option (List A)) → ((xs : List A) → o ≡ Some xs → length xs ≡ length vs) → None ≡ (o >>= λ xs. when (length xs == count) >> Some xs)
    go None same = refl
    go (Some xs) same =
        let size = same xs refl in
        let test : (length xs == count) ≡ false = grind (arith, nat_tests) in
        sym (ap (λ b. when b >> Some xs) test)

-- as many are found as items are read
pub count_more : {A : Type 0} (found new : List A) (x : A) (i : ℕ) → length found ≡ i → new ≡ found ++ x ∷ [] → length new ≡ i + 1
count_more found new x i count appended = ap length appended ∙ length-append found (x ∷ []) ∙ ap (λ n. n + 1) count

-- what was found stands before one more
joined : {A : Type 0} (found : List A) (x : A) (o : Option (List A)) → option_map (λ xs. found ++ xs) (o >>= λ ys. Some (x ∷ ys)) ≡ option_map (λ xs. (found ++ x ∷ []) ++ xs) o
joined found x None = refl
joined found x (Some ys) = ap Some (sym (append_assoc found (x ∷ []) ys))

-- of all items, what was found of the first i, and then what is read of the rest
module _ {A : Type 0} (f : Data → Option A) (vs : List Value) (found : List A) (i : ℕ) (whole : all_in f (items_view vs) ≡ rest_in f found (drop i vs)) where
  -- what the next item gives, and then the rest
  abbrev from_next : Option A → Option (List A)
  from_next o = option_map (λ xs. found ++ xs) (o >>= λ y. all_in f (items_view (drop (i + 1) vs)) >>= λ ys. Some (y ∷ ys))

  with_next : (v : Value) → i < length vs → v ≡ get_or vs i v → all_in f (items_view vs) ≡ from_next (f (view v))
  with_next v low is = whole ∙ ap (rest_in f found) (drop_more vs i v low) ∙ ap (λ w. from_next (f (view w))) (sym is)

  pub read_more : (v : Value) (x : A) (new : List A) → i < length vs → v ≡ get_or vs i v → Some x ≡ f (view v) → new ≡ found ++ x ∷ [] → all_in f (items_view vs) ≡ rest_in f new (drop (i + 1) vs)
  read_more v x new low is read appended =
      with_next v low is ∙ ap from_next (sym read) ∙ joined found x (all_in f (items_view (drop (i + 1) vs))) ∙ ap (λ xs. rest_in f xs (drop (i + 1) vs)) (sym appended)

  pub read_none : (v : Value) → i < length vs → v ≡ get_or vs i v → None ≡ f (view v) → None ≡ all_in f (items_view vs)
  read_none v low is none = ap from_next none ∙ sym (with_next v low is)

  pub read_all : length vs ≤ i → Some found ≡ all_in f (items_view vs)
  read_all over = sym (whole ∙ ap (rest_in f found) (drop_all i vs over) ∙ ap Some (append-nil found))
