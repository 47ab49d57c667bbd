-- Reading ships one after the other.
use Rattle.std.proofs.Common.{◌≡◌, ◌∙◌, ◌++◌, ◌+◌, ◌<◌, ◌≤◌, ℕ, suc, true, false, List, [], ◌∷◌, Option, Some, None, refl, sym, ap, subst, arith, append_assoc, length, map, All}
use Rattle.std.proofs.lemmas.List.Elements.{All-append, All-cons, All-nil}
use Rattle.std.proofs.Math.Bool.{and-false}
use Rattle.std.specs.Prelude.{◌&&◌, nat_le}
use Rattle.std.proofs.lemmas.Bool.Decides.{nat_tests}
use Rattle.std.specs.List.Sorted.{IsStrictlyIncreasing}
use Rattle.lock_model.specs.declared.limits.TheConstants.{MOST}
use Rattle.lock_model.specs.Limits.{is_between}
use Rattle.lock_model.specs.Ships.{RisesFrom}
use Rattle.lock_rules.proofs.SplitLemmas.{RisesFrom-increasing}
use Rattle.serde_json.specs.View.{items_of, items_view}
use Rattle.serde_json.specs.declared.value.Value.{Value}
use Rattle.cert_text.specs.Steps.{◌>>=◌, ◌>>◌, when}
use Rattle.cert_text.specs.Fields.{number_data, all_in, byte_in}
use Rattle.cert_text.specs.Ships.{rises_from, are_rising, ships_of}
use Rattle.cert_text.proofs.ListLemmas.{all_in-length}

-- whatever follows, the ships rise exactly where those that follow rise from low
pub record Rises (ships : List ℕ) (low : ℕ) : Type 0 where
  pub so_far : (more : List ℕ) → rises_from 0 (ships ++ more) ≡ rises_from low more

-- one ship more, at least low
module _ (ships new : List ℕ) (low s last : ℕ) (above : low ≤ s) (same : last ≡ s) (appended : new ≡ ships ++ s ∷ []) where
  pub rises_more : Rises ships low → Rises new (last + 1)
  rises_more rises =
      let test : nat_le low s ≡ true = grind (arith, nat_tests) in
      let up : suc s ≡ last + 1 = omega (arith, same) in
      record {
        so_far = λ more.
            ap (λ xs. rises_from 0 (xs ++ more)) appended ∙ ap (rises_from 0) (append_assoc ships (s ∷ []) more) ∙ rises.so_far (s ∷ more)
            ∙ ap (λ b. b && rises_from (suc s) more) test ∙ ap (λ n. rises_from n more) up;
      }

  pub below_more : All (λ x. x < low) ships → All (λ x. x < last + 1) new
  below_more below =
      let each : All (λ x. x < last + 1) ships = λ k d less. (let own = below k d less in omega (arith, own, above, same)) in
      let one : s < last + 1 = omega (arith, same) in
      subst (All (λ x. x < last + 1)) (sym appended) (All-append (λ x. x < last + 1) ships (s ∷ []) each (All-cons (λ x. x < last + 1) s [] one (All-nil (λ x. x < last + 1))))

abbrev if_rising : Option (List ℕ) → Option (List ℕ)
if_rising o = o >>= λ ships. when (are_rising ships) >> Some ships

-- items of another count
wrong_count : (vs : List Value) → is_between 1 MOST (length vs) ≡ false → ships_of (items_view vs) ≡ None
wrong_count vs out = go (all_in byte_in (items_view vs)) refl
  where
    go : (o : Option (List ℕ)) → all_in byte_in (items_view vs) ≡ o → ships_of (items_view vs) ≡ None
    go None is = ap if_rising is
    go (Some ships) is =
        let wrong : is_between 1 MOST (length ships) ≡ false = ap (is_between 1 MOST) (all_in-length byte_in vs ships is) ∙ out in
        ap if_rising is ∙ ap (λ b. when (b && rises_from 0 ships) >> Some ships) wrong

pub too_many : (vs : List Value) → MOST < length vs → None ≡ ships_of (items_view vs)
too_many vs many =
    let high : nat_le (length vs) MOST ≡ false = grind (arith, nat_tests) in
    sym (wrong_count vs (ap (λ b. nat_le 1 (length vs) && b) high ∙ and-false _))

rises_from-true : (low : ℕ) (ships : List ℕ) → RisesFrom low ships → rises_from low ships ≡ true
rises_from-true low [] rising = refl
rises_from-true low (s ∷ ships) rising =
    let above = rising.0 in
    let test : nat_le low s ≡ true = grind (arith, nat_tests) in
    rw (test, rises_from-true (suc s) ships rising.1) refl

-- ships that rise are read back
pub ships_back : (ships : List ℕ) → all_in byte_in (items_of (map number_data ships)) ≡ Some ships → IsStrictlyIncreasing ships → 1 ≤ length ships → length ships ≤ MOST → ships_of (items_of (map number_data ships)) ≡ Some ships
ships_back ships bytes rising some few =
    let between : is_between 1 MOST (length ships) ≡ true = grind (arith, nat_tests) in
    let are : are_rising ships ≡ true = rw (between, rises_from-true 0 ships (RisesFrom-increasing ships rising)) refl in
    ap if_rising bytes ∙ ap (λ b. when b >> Some ships) are
