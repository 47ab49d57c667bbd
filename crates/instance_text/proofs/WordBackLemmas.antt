-- Words that were printed read back.
use Rattle.std.proofs.Common.{◌≡◌, ◌≢◌, ℕ, ◌<◌, ◌≤◌, ◌^◌, Bool, true, false, ◌||◌, List, [], ◌∷◌, length, All, Some, Ok, decimal, sym, refl, arith}
use Rattle.std.specs.List.{list_any}
use Rattle.std.specs.Str.{bytes_eq}
use Rattle.std.proofs.lemmas.Bool.Decides.{nat_tests}
use Rattle.std.proofs.lemmas.List.Elements.{All-head, All-tail}
use Rattle.std.proofs.lemmas.Slice.Eq.{bytes_eq-Decides}
use Rattle.std.proofs.lemmas.List.Sums.{list_all-from_AllPass}
use Rattle.lock_model.specs.Limits.{IsName, is_between, is_name_byte}
use Rattle.lock_model.specs.declared.way.Way.{Way}
use Rattle.lock_model.specs.declared.way.Way.TheVariants.{Up, Down}
use Rattle.lock_model.specs.declared.way.Stand.{Stand}
use Rattle.lock_model.specs.declared.way.Stand.TheVariants.{Low, High}
use Rattle.line_text.proofs.NumberLemmas.{number_back as number_within_back}
use Rattle.instance_text.specs.declared.bad.Kind.TheVariants.{Number, Range}
use Rattle.instance_text.specs.Words.{number, name, new_name, way_of, way, stand}
use Rattle.instance_text.specs.Canonical.{way_word, stand_word}

pub number_back : (low high n : ℕ) → low ≤ n → n ≤ high → n < 2 ^ 64 → number low high (decimal n) ≡ Ok n
number_back low high n above below small = number_within_back Number Range low high n above below small

pub name_back : (word : List ℕ) → IsName word → name word ≡ Ok word
unfolding name
name_back word good =
    let count : is_between 1 12 (length word) ≡ true = let c = good.count in grind (arith, nat_tests) in
    rw (count, list_all-from_AllPass is_name_byte word good.allowed) refl

not_taken : (earlier : List (List ℕ)) (word : List ℕ) → All (λ e. e ≢ word) earlier → list_any (bytes_eq word) earlier ≡ false
not_taken [] word new = refl
not_taken (e ∷ es) word new = by_test (bytes_eq word e) (bytes_eq-Decides word e).0 (not_taken es word (All-tail (λ x. x ≢ word) e es new))
  where
    by_test : (b : Bool) → (b ≡ true → word ≡ e) → list_any (bytes_eq word) es ≡ false → (b || list_any (bytes_eq word) es) ≡ false
    by_test true same rest = absurd (All-head (λ x. x ≢ word) e es new (sym (same refl)))
    by_test false same rest = rest

pub new_name_back : (earlier : List (List ℕ)) (word : List ℕ) → IsName word → All (λ e. e ≢ word) earlier → new_name earlier word ≡ Ok word
unfolding new_name
new_name_back earlier word good new = rw (name_back word good, not_taken earlier word new) refl

pub way_of_back : (w : Way) → way_of (way_word w) ≡ Some w
unfolding way_of
way_of_back Up = refl
way_of_back Down = refl

pub way_back : (w : Way) → way (way_word w) ≡ Ok w
way_back w = rw (way_of_back w) refl

pub stand_back : (s : Stand) → stand (stand_word s) ≡ Ok s
unfolding stand
stand_back Low = refl
stand_back High = refl
