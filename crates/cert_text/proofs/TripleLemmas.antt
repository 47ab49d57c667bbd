-- Triples are read back, and are in order exactly where the test says so.
use Rattle.std.proofs.Common.{◌≡◌, ◌∙◌, ◌<◌, ◌≤◌, ◌≢◌, ◌↔◌, ℕ, zero, suc, true, false, List, [], ◌∷◌, Option, Some, None, IsSome, IfSome, refl, sym, ap, subst, arith, length, map, drop, append-nil, All, slice_index_or}
use Rattle.std.specs.Prelude.{◌&&◌, nat_le, nat_lt}
use Rattle.std.specs.List.{list_all}
use Rattle.std.proofs.lemmas.Bool.{and_parts, and_from, and_left, ltb-true, leb-true, lt-ltb, le-leb, false_from_ne_true, false≢true}
use Rattle.std.proofs.lemmas.Bool.Decides.{nat_tests}
use Rattle.std.proofs.lemmas.List.{drop_all}
use Rattle.std.proofs.lemmas.List.Elements.{All-nil, All-cons, All-head, All-tail}
use Rattle.lock_model.specs.Limits.{is_between}
use Rattle.price_rules.specs.declared.triple.TheConstants.{TRIPLES}
use Rattle.price_rules.specs.declared.triple.Triple.{Triple}
use Rattle.price_rules.specs.Triples.{IsFairTriple, triple_key, AreRisingTriples, AreTriples}
use Rattle.price_rules.specs.Prices.{PriceList}
use Rattle.serde_json.specs.View.{items_of, items_view}
use Rattle.serde_json.specs.declared.value.Value.{Value}
use Rattle.cert_text.specs.Steps.{◌>>=◌, ◌>>◌, when}
use Rattle.cert_text.specs.Fields.{all_in}
use Rattle.cert_text.specs.Ships.{rises_from}
use Rattle.cert_text.specs.Triples.{triple_data, triples_data, triple_items, triple_in, is_fair_triple, are_in_order, are_triples, items_triples, triples_in}
use Rattle.cert_text.proofs.ListLemmas.{rest_in, all_in-length}

-- a list of another length
pub no_triple : (vs : List Value) → length vs ≢ 4 → None ≡ triple_items (items_view vs)
no_triple [] other = refl
no_triple (a ∷ []) other = refl
no_triple (a ∷ b ∷ []) other = refl
no_triple (a ∷ b ∷ c ∷ []) other = refl
no_triple (a ∷ b ∷ c ∷ d ∷ []) other = absurd (other refl)
no_triple (a ∷ b ∷ c ∷ d ∷ e ∷ vs) other = refl

-- ---- the test of fair triples

fair-true : (t : Triple) → IsFairTriple t → is_fair_triple t ≡ true
fair-true t fair =
    let ships = and_from (nat_lt t.first t.second) (nat_lt t.second t.third) (lt-ltb t.first t.second fair.low) (lt-ltb t.second t.third fair.high) in
    let price = and_from (nat_le 1 t.price) (nat_le t.price 1000000) (le-leb 1 t.price fair.some) (le-leb t.price 1000000 fair.small) in
    and_from (nat_lt t.first t.second && nat_lt t.second t.third) (is_between 1 1000000 t.price) ships price

fair-from : (t : Triple) → is_fair_triple t ≡ true → IsFairTriple t
fair-from t test =
    let parts = and_parts (nat_lt t.first t.second && nat_lt t.second t.third) (is_between 1 1000000 t.price) test in
    let ships = and_parts (nat_lt t.first t.second) (nat_lt t.second t.third) parts.0 in
    let price = and_parts (nat_le 1 t.price) (nat_le t.price 1000000) parts.1 in
    record {
      low = ltb-true t.first t.second ships.0;
      high = ltb-true t.second t.third ships.1;
      some = leb-true 1 t.price price.0;
      small = leb-true t.price 1000000 price.1;
    }

all_fair-true : (ts : List Triple) → All IsFairTriple ts → list_all is_fair_triple ts ≡ true
all_fair-true [] fair = refl
all_fair-true (t ∷ ts) fair = and_from (is_fair_triple t) (list_all is_fair_triple ts) (fair-true t (All-head IsFairTriple t ts fair)) (all_fair-true ts (All-tail IsFairTriple t ts fair))

all_fair-from : (ts : List Triple) → list_all is_fair_triple ts ≡ true → All IsFairTriple ts
all_fair-from [] test = All-nil IsFairTriple
all_fair-from (t ∷ ts) test =
    let parts = and_parts (is_fair_triple t) (list_all is_fair_triple ts) test in
    All-cons IsFairTriple t ts (fair-from t parts.0) (all_fair-from ts parts.1)

-- ---- the test of their order

rising-tail : (t : Triple) (ts : List Triple) → AreRisingTriples (t ∷ ts) → AreRisingTriples ts
rising-tail t ts rising = record { rising = λ j d low. rising.rising (suc j) d (omega (arith, low)) }

rising-true : (low : ℕ) (t : Triple) (ts : List Triple) → low ≤ triple_key t → AreRisingTriples (t ∷ ts) → rises_from low (map triple_key (t ∷ ts)) ≡ true
rising-true low t [] above rising = and_from (nat_le low (triple_key t)) true (le-leb low (triple_key t) above) refl
rising-true low t (u ∷ ts) above rising =
    and_from (nat_le low (triple_key t)) (rises_from (suc (triple_key t)) (map triple_key (u ∷ ts))) (le-leb low (triple_key t) above)
    (rising-true (suc (triple_key t)) u ts (let next = rising.rising 0 t (omega arith) in omega (arith, next)) (rising-tail t (u ∷ ts) rising))

in_order-true : (ts : List Triple) → AreRisingTriples ts → are_in_order ts ≡ true
in_order-true [] rising = refl
in_order-true (t ∷ ts) rising = rising-true 0 t ts (omega arith) rising

rising-from : (low : ℕ) (ts : List Triple) → rises_from low (map triple_key ts) ≡ true → AreRisingTriples ts
rising-from low [] test = record { rising = λ j d high. absurd (omega (arith, high)) }
rising-from low (t ∷ []) test = record { rising = λ j d high. absurd (omega (arith, high)) }
rising-from low (t ∷ u ∷ ts) test =
    let parts = and_parts (nat_le low (triple_key t)) (rises_from (suc (triple_key t)) (map triple_key (u ∷ ts))) test in
    let next = and_parts (nat_le (suc (triple_key t)) (triple_key u)) (rises_from (suc (triple_key u)) (map triple_key ts)) parts.1 in
    let rest = rising-from (suc (triple_key t)) (u ∷ ts) parts.1 in
    record { rising = go (leb-true (suc (triple_key t)) (triple_key u) next.0) rest }
  where
    go : suc (triple_key t) ≤ triple_key u → AreRisingTriples (u ∷ ts) → (j : ℕ) (d : Triple) → suc j < length (t ∷ u ∷ ts)
        → triple_key (slice_index_or (t ∷ u ∷ ts) j d) < triple_key (slice_index_or (t ∷ u ∷ ts) (suc j) d)
    go first rest zero d high = omega (arith, first)
    go first rest (suc j) d high = rest.rising j d (omega (arith, high))

-- ---- 1 to 255 triples in order

are_triples-true : (ts : List Triple) → 1 ≤ length ts → AreTriples ts → are_triples ts ≡ true
are_triples-true ts some triples =
    let count = and_from (nat_le 1 (length ts)) (nat_le (length ts) TRIPLES) (le-leb 1 (length ts) some) (le-leb (length ts) TRIPLES triples.few) in
    let each = and_from (list_all is_fair_triple ts) (are_in_order ts) (all_fair-true ts triples.fair) (in_order-true ts triples.order) in
    and_from (is_between 1 TRIPLES (length ts)) (list_all is_fair_triple ts && are_in_order ts) count each

are_triples-from : (ts : List Triple) → are_triples ts ≡ true → AreTriples ts
are_triples-from ts test =
    let parts = and_parts (is_between 1 TRIPLES (length ts)) (list_all is_fair_triple ts && are_in_order ts) test in
    let count = and_parts (nat_le 1 (length ts)) (nat_le (length ts) TRIPLES) parts.0 in
    let each = and_parts (list_all is_fair_triple ts) (are_in_order ts) parts.1 in
    record { few = leb-true (length ts) TRIPLES count.1; fair = all_fair-from ts each.0; order = rising-from 0 ts each.1 }

abbrev if_triples : List ℕ → Option (List Triple) → Option PriceList
if_triples ships o = o >>= λ ts. when (are_triples ts) >> Some (record { ships = ships; triples = ts })

pub triples_back : (prices : PriceList) (ts : List Triple) → 1 ≤ length ts → AreTriples ts → all_in triple_in (items_of (map triple_data ts)) ≡ Some ts
    → triples_in prices (triples_data ts) ≡ Some (record { ships = prices.ships; triples = ts })
triples_back prices ts some triples back =
    ap (if_triples prices.ships) back ∙ ap (λ b. when b >> Some (record { ships = prices.ships; triples = ts })) (are_triples-true ts some triples)

-- triples that are kept where they may be are those that are read
pub kept : (ships : List ℕ) (ts : List Triple) (r : Option PriceList) → 1 ≤ length ts → (IsSome r ↔ AreTriples ts) → IfSome r (λ p. p ≡ record { ships = ships; triples = ts })
    → r ≡ (when (are_triples ts) >> Some (record { ships = ships; triples = ts }))
kept ships ts (Some p) some valid is = ap Some is ∙ sym (ap (λ b. when b >> Some (record { ships = ships; triples = ts })) (are_triples-true ts some (valid.0 refl)))
kept ships ts None some valid is =
    let out : are_triples ts ≡ false = false_from_ne_true (are_triples ts) (λ test. false≢true (valid.1 (are_triples-from ts test))) in
    sym (ap (λ b. when b >> Some (record { ships = ships; triples = ts })) out)

-- triples that were read to the last item
pub read_to_end : (prices : PriceList) (vs : List Value) (ts kept_ts : List Triple) (end : ℕ) (r : Option PriceList) → 1 ≤ length vs → length vs ≤ end
    → all_in triple_in (items_view vs) ≡ rest_in triple_in ts (drop end vs) → kept_ts ≡ ts → (IsSome r ↔ AreTriples kept_ts)
    → IfSome r (λ p. p ≡ record { ships = prices.ships; triples = kept_ts }) → r ≡ items_triples prices (items_view vs)
read_to_end prices vs ts kept_ts end r some over whole same valid value =
    let all : all_in triple_in (items_view vs) ≡ Some ts = whole ∙ ap (rest_in triple_in ts) (drop_all end vs over) ∙ ap Some (append-nil ts) in
    let count = all_in-length triple_in vs ts all in
    let own : IsSome r ↔ AreTriples ts = subst (λ us. IsSome r ↔ AreTriples us) same valid in
    let is : IfSome r (λ p. p ≡ record { ships = prices.ships; triples = ts }) = subst (λ us. IfSome r (λ p. p ≡ record { ships = prices.ships; triples = us })) same value in
    kept prices.ships ts r (omega (arith, count, some)) own is ∙ sym (ap (if_triples prices.ships) all)

-- more items than triples of a list
pub too_many : (prices : PriceList) (vs : List Value) → TRIPLES < length vs → None ≡ items_triples prices (items_view vs)
too_many prices vs many = go (all_in triple_in (items_view vs)) (all_in-length triple_in vs)
  where
    go : (o : Option (List Triple)) → ((ts : List Triple) → o ≡ Some ts → length ts ≡ length vs) → None ≡ if_triples prices.ships o
    go None count = refl
    go (Some ts) count =
        let size = count ts refl in
        let high : is_between 1 TRIPLES (length ts) ≡ false = grind (arith, nat_tests) in
        sym (ap (λ b. when b >> Some (record { ships = prices.ships; triples = ts })) (and_left (is_between 1 TRIPLES (length ts)) (list_all is_fair_triple ts && are_in_order ts) high))
