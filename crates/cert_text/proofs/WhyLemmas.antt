-- Reading the numbers of refutations.
use Rattle.std.proofs.Common.{◌≡◌, ◌≢◌, ℕ, false, List, [], ◌∷◌, Option, Some, None, refl, sym, arith, length, map}
use Rattle.std.specs.Prelude.{◌==◌}
use Rattle.serde_json.specs.View.{items_of, items_view}
use Rattle.serde_json.specs.declared.value.Value.{Value}
use Rattle.refute_rules.specs.Why.{why_of}
use Rattle.refute_rules.specs.declared.refutation.Quick.TheVariants.{Row, Column}
use Rattle.refute_rules.specs.declared.refutation.Refutation.TheVariants as refutation
use Rattle.cert_text.specs.Steps.{◌>>=◌}
use Rattle.cert_text.specs.Fields.{number_data, numbers_data, all_in, byte_in}
use Rattle.cert_text.specs.Cuts.{clash_of, refutation_in, why_in}
use Rattle.cert_text.specs.Ships.{ships_of}
use Rattle.cert_text.proofs.ListLemmas.{all_in-length}

-- numbers after the kind of the area
pub filled : (vs : List Value) → (length vs == 0) ≡ false → None ≡ refutation_in 0 (items_view vs)
filled [] some = absurd cc
filled (v ∷ vs) some = refl

clash_none : (ns : List ℕ) → length ns ≢ 2 → clash_of ns ≡ None
clash_none [] other = refl
clash_none (a ∷ []) other = refl
clash_none (a ∷ b ∷ []) other = absurd (other refl)
clash_none (a ∷ b ∷ c ∷ ns) other = refl

-- numbers that are no pair
pub no_pair : (vs : List Value) → length vs ≢ 2 → None ≡ (all_in byte_in (items_view vs) >>= λ places. clash_of places)
no_pair vs other = go (all_in byte_in (items_view vs)) (all_in-length byte_in vs)
  where
    go : (o : Option (List ℕ)) → ((ns : List ℕ) → o ≡ Some ns → length ns ≡ length vs) → None ≡ (o >>= λ places. clash_of places)
    go None count = refl
    go (Some ns) count = let same = count ns refl in sym (clash_none ns (omega arith))

pub row_back : (ships : List ℕ) → ships_of (items_of (map number_data ships)) ≡ Some ships → why_in (numbers_data (why_of (refutation.Quick (Row ships)))) ≡ Some (refutation.Quick (Row ships))
row_back ships back = rw back refl

pub column_back : (ships : List ℕ) → ships_of (items_of (map number_data ships)) ≡ Some ships → why_in (numbers_data (why_of (refutation.Quick (Column ships)))) ≡ Some (refutation.Quick (Column ships))
column_back ships back = rw back refl
