-- Plans are read back.
use Rattle.std.proofs.Common.{◌≡◌, ◌∙◌, ◌<◌, ◌≤◌, ℕ, List, Option, Some, None, IfSome, IfNone, refl, sym, ap, length, map, arith, eq-eqb, true, false}
use Rattle.std.specs.Prelude.{nat_le}
use Rattle.std.proofs.lemmas.Bool.Decides.{nat_tests}
use Rattle.serde_json.proofs.OnLiterals.{serde_json_on_literals}
use Rattle.serde_json.specs.View.{items_of, items_view}
use Rattle.serde_json.specs.declared.value.Value.{Value}
use Rattle.lock_model.specs.declared.plan.Lockage.{Lockage}
use Rattle.lock_model.specs.declared.plan.Plan.{Plan}
use Rattle.cert_text.specs.Steps.{◌>>=◌, ◌>>◌, when}
use Rattle.cert_text.specs.Fields.{number_data, numbers_data, byte_in, word_in, all_in}
use Rattle.cert_text.specs.Ships.{ships_in}
use Rattle.cert_text.specs.Plans.{spot_data, spot_in, way_number, way_of, lockage_data, lockage_in, plan_items, IsPlanBack}
use Rattle.cert_text.proofs.ListLemmas.{all_in-length}

pub lockage_back : (l : Lockage) → byte_in (number_data l.chamber) ≡ Some l.chamber → ships_in (numbers_data l.ships) ≡ Some l.ships → all_in spot_in (items_of (map spot_data l.spots)) ≡ Some l.spots → length l.spots ≡ length l.ships → word_in (number_data l.start) ≡ Some l.start → way_of (way_number l.way) ≡ Some l.way → lockage_in (lockage_data l) ≡ Some l
unfolding lockage_in serde_json_on_literals
lockage_back l chamber ships spots as_many start way = rw (chamber, ships, spots, eq-eqb (length l.spots) (length l.ships) as_many, start, way) refl

abbrev few_of : ℕ → Option (List Lockage) → Option Plan
few_of most o = o >>= λ lockages. when (nat_le (length lockages) most) >> Some (record { lockages = lockages })

-- lockages that are no more than may be listed
few_enough : (most : ℕ) (o : Option (List Lockage)) (ls : List Lockage) → length ls ≤ most → o ≡ Some ls → few_of most o ≡ Some (record { lockages = ls })
few_enough most o ls few is =
    let test : nat_le (length ls) most ≡ true = grind (arith, nat_tests) in
    ap (few_of most) is ∙ ap (λ b. when b >> Some (record { lockages = ls })) test

pub plan_back : (p : Plan) → all_in lockage_in (items_of (map lockage_data p.lockages)) ≡ Some p.lockages → IsPlanBack p
plan_back p is most few = few_enough most (all_in lockage_in (items_of (map lockage_data p.lockages))) p.lockages few is

-- no more values than may be listed
pub plan_read : (most : ℕ) (vs : List Value) (ls : List Lockage) → length vs ≤ most → Some ls ≡ all_in lockage_in (items_view vs) → Some (record { lockages = ls }) ≡ plan_items most (items_view vs)
plan_read most vs ls few is =
    let size = all_in-length lockage_in vs ls (sym is) in
    sym (few_enough most (all_in lockage_in (items_view vs)) ls (omega (arith, size, few)) (sym is))

-- more values than lockages of a plan
pub too_long : (most : ℕ) (vs : List Value) → most < length vs → None ≡ plan_items most (items_view vs)
too_long most vs many = go (all_in lockage_in (items_view vs)) (all_in-length lockage_in vs)
  where
    go : (o : Option (List Lockage)) → ((ls : List Lockage) → o ≡ Some ls → length ls ≡ length vs) → None ≡ few_of most o
    go None count = refl
    go (Some ls) count =
        let size = count ls refl in
        let test : nat_le (length ls) most ≡ false = grind (arith, nat_tests) in
        rw test refl

-- the same where a reader appends the lockages, or ends at one that is none
pub items_read : {A : Type 0} (most : ℕ) (vs : List Value) (r : Option A) (ls : List Lockage) → length vs ≤ most → IfSome r (λ _. all_in lockage_in (items_view vs) ≡ Some ls) → IfSome r (λ _. plan_items most (items_view vs) ≡ Some (record { lockages = ls }))
items_read most vs None ls few is = tt
items_read most vs (Some u) ls few is = sym (plan_read most vs ls few (sym is))

pub items_none : {A : Type 0} (most : ℕ) (vs : List Value) (r : Option A) → IfNone r (all_in lockage_in (items_view vs) ≡ None) → IfNone r (plan_items most (items_view vs) ≡ None)
items_none most vs None is = ap (few_of most) is
items_none most vs (Some u) is = tt
