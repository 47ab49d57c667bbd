-- How many times an argument is given, and that none is given twice.
use Rattle.std.proofs.Common.{◌≡◌, ◌∙◌, ◌+◌, ◌≤◌, ◌++◌, Bool, true, false, [], ◌∷◌, arith, refl, sym, ap}
use Rattle.std.specs.Prelude.{◌||◌, if◌then◌else◌}
use Rattle.std.specs.List.{list_any}
use Rattle.std.specs.Str.{bytes_eq}
use Rattle.std.proofs.lemmas.Slice.Eq.{bytes_eq-Decides}
use Rattle.command_words.specs.Names.{Text, name_of}
use Rattle.command_words.specs.Given.{Given, is_in, is_given, times}
use Rattle.command_words.specs.declared.arguments.Argument.{Argument}
use Rattle.command_words.proofs.Turns.{same_ids}

abbrev pub Once : Given → Type 0
Once given = (a : Argument) → times a given ≤ 1

pub times-append : (a : Argument) (xs ys : Given) → times a (xs ++ ys) ≡ times a xs + times a ys
times-append a [] ys = omega arith
times-append a (x ∷ xs) ys = let rest = times-append a xs ys in omega arith

none_given : (a : Argument) (given : Given) → is_given a given ≡ false → times a given ≡ 0
none_given a [] e = refl
none_given a (g ∷ gs) e = go (is_in a g) e (none_given a gs)
  where
    go : (b : Bool) → (b || is_given a gs) ≡ false → (is_given a gs ≡ false → times a gs ≡ 0) → (if b then 1 else 0) + times a gs ≡ 0
    go true e rest = cc
    go false e rest = let none = rest e in omega arith

no_times : (a : Argument) (given : Given) → times a given ≡ 0 → is_given a given ≡ false
no_times a [] e = refl
no_times a (g ∷ gs) e = go (is_in a g) e (no_times a gs)
  where
    go : (b : Bool) → (if b then 1 else 0) + times a gs ≡ 0 → (times a gs ≡ 0 → is_given a gs ≡ false) → (b || is_given a gs) ≡ false
    go true e rest = absurd (omega arith)
    go false e rest = rest (omega arith)

-- what is given next was not given before
pub free_before : (a : Argument) (t : Text) (given more : Given) → Once (given ++ (a, t) ∷ more) → is_given a given ≡ false
free_before a t given more once =
    let here : times a ((a, t) ∷ more) ≡ 1 + times a more = ap (λ b. (if b then 1 else 0) + times a more) (same_ids (name_of a)) in
    let all = times-append a given ((a, t) ∷ more) in
    let most = once a in
    no_times a given (omega (arith, here))

-- one more is given for the first time
pub once_more : (a : Argument) (t : Text) (given : Given) → is_given a given ≡ false → Once given → Once (given ++ (a, t) ∷ [])
once_more a t given fresh once b = go (bytes_eq (name_of a) (name_of b)) refl
  where
    go : (c : Bool) → bytes_eq (name_of a) (name_of b) ≡ c → times b (given ++ (a, t) ∷ []) ≤ 1
    go false e =
        let here : times b ((a, t) ∷ []) ≡ 0 = ap (λ c. (if c then 1 else 0) + 0) e in
        let all = times-append b given ((a, t) ∷ []) in
        let most = once b in
        omega (arith, here)
    go true e =
        let here : times b ((a, t) ∷ []) ≡ 1 = ap (λ c. (if c then 1 else 0) + 0) e in
        let same : name_of a ≡ name_of b = (bytes_eq-Decides (name_of a) (name_of b)).0 e in
        let free : is_given b given ≡ false = sym (ap (λ n. list_any (λ g. bytes_eq (name_of g.0) n) given) same) ∙ fresh in
        let all = times-append b given ((a, t) ∷ []) in
        let none = none_given b given free in
        omega (arith, here)
