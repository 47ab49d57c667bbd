-- Lists of prices are read back, and read one after the other.
use Rattle.std.proofs.Common.{◌≡◌, ◌∙◌, ◌<◌, ◌≤◌, ℕ, Bool, true, false, cond, List, [], ◌∷◌, Option, Some, None, refl, sym, ap, subst, arith, length, map, All}
use Rattle.std.specs.Prelude.{not, ◌==◌}
use Rattle.std.proofs.Math.Bool.{and-false}
use Rattle.std.proofs.lemmas.Bool.{and_from, true≢false}
use Rattle.std.proofs.lemmas.Bool.Decides.{nat_tests}
use Rattle.list_laws.proofs.Lists.{none-passes}
use Rattle.lock_model.specs.Limits.{Within, is_between}
use Rattle.price_rules.specs.declared.triple.Triple.{Triple}
use Rattle.price_rules.specs.Triples.{AreTriples}
use Rattle.price_rules.specs.Prices.{PriceList}
use Rattle.closing_rules.specs.ListedPrices.{ship_prices}
use Rattle.serde_json.specs.View.{items_of, items_view}
use Rattle.serde_json.specs.declared.value.Value.{Value}
use Rattle.serde_json.proofs.OnLiterals.{serde_json_on_literals}
use Rattle.certificate_rules.specs.WellFormed.{AreFormedPrices}
use Rattle.cert_text.specs.declared.heading.Version.{Version}
use Rattle.cert_text.specs.Versions.{has_triples}
use Rattle.cert_text.specs.Steps.{◌>>=◌, ◌>>◌, when}
use Rattle.cert_text.specs.Fields.{number_data, numbers_data, all_in, has_members}
use Rattle.cert_text.specs.Triples.{triple_data, triple_in}
use Rattle.cert_text.specs.Prices.{keyed_data, prices_data, price_in, items_prices, ship_prices_in, keyed_prices, prices_in, AreListsBack}
use Rattle.cert_text.proofs.FieldLemmas.{ReadsBack, all_back, below_back}
use Rattle.cert_text.proofs.ListLemmas.{all_in-length}
use Rattle.cert_text.proofs.TripleLemmas.{triples_back}

abbrev if_few : ℕ → Option (List ℕ) → Option PriceList
if_few most o = o >>= λ prices. when (is_between 1 most (length prices)) >> Some (ship_prices prices)

ships_back : (most : ℕ) (prices : List ℕ) → Within 1 most (length prices) → All (λ u. u ≤ 1000000) prices → ship_prices_in most (numbers_data prices) ≡ Some (ship_prices prices)
ships_back most prices count small =
    let some = count.0 in
    let few = count.1 in
    let between : is_between 1 most (length prices) ≡ true = grind (arith, nat_tests) in
    let each : All (ReadsBack number_data price_in) prices = λ k d low. record { same = below_back 1000001 _ (let own = small k d low in omega (arith, own)) } in
    ap (if_few most) (all_back number_data price_in prices each) ∙ ap (λ b. when b >> Some (ship_prices prices)) between

pub is_keyed : (ships : List ℕ) (t : Triple) (ts : List Triple) → prices_data (record { ships = ships; triples = t ∷ ts }) ≡ keyed_data (record { ships = ships; triples = t ∷ ts })
is_keyed ships t ts =
    let some : (length (t ∷ ts) == 0) ≡ false = grind (arith, nat_tests) in
    ap (λ b. cond b (numbers_data ships) (keyed_data (record { ships = ships; triples = t ∷ ts }))) some

keyed_back : (most : ℕ) (ships : List ℕ) (t : Triple) (ts : List Triple) → ship_prices_in most (numbers_data ships) ≡ Some (ship_prices ships) → AreTriples (t ∷ ts)
    → all_in triple_in (items_of (map triple_data (t ∷ ts))) ≡ Some (t ∷ ts) → keyed_prices most (keyed_data (record { ships = ships; triples = t ∷ ts })) ≡ Some (record { ships = ships; triples = t ∷ ts })
unfolding serde_json_on_literals
keyed_back most ships t ts back triples each = rw back (triples_back (ship_prices ships) (t ∷ ts) (omega arith) triples each)

two_keys : (p : PriceList) → has_members 2 (keyed_data p) ≡ true
unfolding serde_json_on_literals
two_keys p = refl

-- What is written of the triples is read as them.
pub record HasTriplesBack (prices : PriceList) : Type 0 where
  pub back : all_in triple_in (items_of (map triple_data prices.triples)) ≡ Some prices.triples

-- prices that are seen in two parts
pub back_of : (p : PriceList) (triples : List Triple) → triples ≡ p.triples → all_in triple_in (items_of (map triple_data triples)) ≡ Some triples → HasTriplesBack p
back_of p triples same back = record { back = subst (λ ts. all_in triple_in (items_of (map triple_data ts)) ≡ Some ts) same back }

pub data_of : (p : PriceList) (ships : List ℕ) (triples : List Triple) → ships ≡ p.ships → triples ≡ p.triples → prices_data (record { ships = ships; triples = triples }) ≡ prices_data p
data_of p ships triples same_ships same_triples =
    ap (λ own. prices_data (record { ships = own; triples = triples })) same_ships ∙ ap (λ own. prices_data (record { ships = p.ships; triples = own })) same_triples

one_back : (most : ℕ) (version : Version) (p : PriceList) → (has_triples version ≡ false → not (length p.triples == 0) ≡ false) → AreFormedPrices most p → HasTriplesBack p → prices_in most version (prices_data p) ≡ Some p
one_back most version p suits formed triples = go (has_triples version) p.triples refl suits formed.1.triples triples.back
  where
    ships : ship_prices_in most (numbers_data p.ships) ≡ Some (ship_prices p.ships)
    ships = ships_back most p.ships formed.0 formed.1.small

    go : (has : Bool) (ts : List Triple) → has_triples version ≡ has → (has ≡ false → not (length ts == 0) ≡ false) → AreTriples ts → all_in triple_in (items_of (map triple_data ts)) ≡ Some ts
        → prices_in most version (prices_data (record { ships = p.ships; triples = ts })) ≡ Some (record { ships = p.ships; triples = ts })
    go has [] is suits formed back = ap (λ b. cond b (keyed_prices most (numbers_data p.ships)) (ship_prices_in most (numbers_data p.ships))) (and-false (has_triples version)) ∙ ships
    go false (t ∷ ts) is suits formed back =
        let some : (length (t ∷ ts) == 0) ≡ false = grind (arith, nat_tests) in
        absurd (true≢false (sym (ap not some) ∙ suits refl))
    go true (t ∷ ts) is suits formed back =
        let own : PriceList = record { ships = p.ships; triples = t ∷ ts } in
        let test = and_from (has_triples version) (has_members 2 (keyed_data own)) is (two_keys own) in
        ap (prices_in most version) (is_keyed p.ships t ts) ∙ (ap (λ b. cond b (keyed_prices most (keyed_data own)) (ship_prices_in most (keyed_data own))) test ∙ keyed_back most p.ships t ts ships formed back)

pub lists_back : (prices : List PriceList) → All HasTriplesBack prices → AreListsBack prices
lists_back prices triples most version suits formed =
    all_back prices_data (prices_in most version) prices
    (λ k d low. record { same = one_back most version _ (λ e. none-passes (λ p. not (length p.triples == 0)) prices (suits e) k d low) (formed k d low) (triples k d low) })

-- items of another count
wrong_count : (most : ℕ) (vs : List Value) → is_between 1 most (length vs) ≡ false → items_prices most (items_view vs) ≡ None
wrong_count most vs out = go (all_in price_in (items_view vs)) refl
  where
    go : (o : Option (List ℕ)) → all_in price_in (items_view vs) ≡ o → items_prices most (items_view vs) ≡ None
    go None is = ap (if_few most) is
    go (Some prices) is =
        let wrong : is_between 1 most (length prices) ≡ false = ap (is_between 1 most) (all_in-length price_in vs prices is) ∙ out in
        ap (if_few most) is ∙ ap (λ b. when b >> Some (ship_prices prices)) wrong

pub too_many : (most : ℕ) (vs : List Value) → most < length vs → None ≡ items_prices most (items_view vs)
too_many most vs many =
    let out : is_between 1 most (length vs) ≡ false = grind (arith, nat_tests) in
    sym (wrong_count most vs out)
