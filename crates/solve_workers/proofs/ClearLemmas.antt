-- Where no two ships clash, the test finds no clash.
use Rattle.std.proofs.Common.{◌≡◌, ℕ, zero, suc, ◌<◌, List, [], ◌∷◌, length, refl, subst, arith, Bool, true, false, ◌||◌, slice_index_or}
use Rattle.std.specs.List.{list_any}
use Rattle.std.proofs.lemmas.List.Folds.{list_any_none}
use Rattle.lock_model.specs.Deck.{Deck, no_size}
use Rattle.lock_model.specs.Cargo.{Clash, HasNoClash}
use Rattle.lock_model.specs.declared.deck.Size.{Size}
use Rattle.book_rules.specs.Tests.{is_clash, has_clash}
use Rattle.book_rules.proofs.TestLemmas.{is_clash-decides}

-- no size of the list clashes with a later one
record IsClear (xs : List Size) : Type 0 where
  peace : (i j : ℕ) → i < j → j < length xs → Clash (slice_index_or xs i no_size) (slice_index_or xs j no_size) → ⊥

same-at : (xs : List Size) (k : ℕ) (d : Size) → k < length xs → slice_index_or xs k d ≡ slice_index_or xs k no_size
same-at [] k d here = absurd (omega (arith, here))
same-at (x ∷ xs) zero d here = refl
same-at (x ∷ xs) (suc k) d here = same-at xs k d (omega (arith, here))

test-false : (a b : Size) → (t : Bool) → is_clash a b ≡ t → (Clash a b → ⊥) → t ≡ false
test-false a b true e never = absurd (never ((is_clash-decides a b).0 e))
test-false a b false e never = refl

clear-none : (xs : List Size) → IsClear xs → has_clash xs ≡ false
clear-none [] clear = refl
clear-none (x ∷ xs) clear =
    let first : list_any (is_clash x) xs ≡ false = list_any_none (is_clash x) xs (λ j d here.
    test-false x (slice_index_or xs j d) _ refl (λ c. clear.peace 0 (suc j) (omega arith) (omega (arith, here)) (subst (Clash x) (same-at xs j d here) c))) in
    let rest : has_clash xs ≡ false = clear-none xs (record { peace = λ i j less here. clear.peace (suc i) (suc j) (omega (arith, less)) (omega (arith, here)) }) in
    (λ k. first k || rest k)

pub no_clash-test : (d : Deck) → HasNoClash d → has_clash d.ships ≡ false
no_clash-test d none = clear-none d.ships (record { peace = λ i j less here. ((none.clear i (omega (arith, less, here))).later j less here).peace })
