-- The value of a certificate has no floats and is shallow.
use Rattle.std.proofs.Common.{◌≡◌, ◌≤◌, ℕ, suc, false, List, [], ◌∷◌, map, refl, sym, ap, ◌∙◌, subst, arith}
use Rattle.std.specs.List.{flat_map}
use Rattle.lock_model.specs.declared.ship.Ship.{Ship}
use Rattle.lock_model.specs.declared.plan.Lockage.{Lockage}
use Rattle.lock_model.specs.declared.plan.Plan.{Plan}
use Rattle.refute_rules.specs.Why.{why_of}
use Rattle.price_rules.specs.declared.triple.Triple.{Triple}
use Rattle.price_rules.specs.Prices.{PriceList}
use Rattle.closing_rules.specs.ProvedCuts.{CertCut}
use Rattle.certificate_rules.specs.declared.certificate.Mark.{Mark}
use Rattle.certificate_rules.specs.declared.numbering.Numbering.{Numbering}
use Rattle.certificate_rules.specs.Certificates.{Certificate}
use Rattle.certificate_rules.specs.WellFormed.{numbering_of}
use Rattle.serde_json.specs.Data.{Data, depth}
use Rattle.serde_json.specs.Read.{max_depth}
use Rattle.serde_json.specs.View.{items_of}
use Rattle.serde_json.specs.Written.{has_float, items_have_float}
use Rattle.cert_text.specs.Fields.{number_data, numbers_data, list_data}
use Rattle.cert_text.specs.Cuts.{cut_data}
use Rattle.cert_text.specs.Plans.{spot_data, lockage_data}
use Rattle.cert_text.specs.Triples.{triple_data}
use Rattle.cert_text.specs.Prices.{keyed_data, prices_data}
use Rattle.cert_text.specs.declared.heading.Form.{Form}
use Rattle.cert_text.specs.declared.heading.Version.{Version}
use Rattle.cert_text.specs.declared.heading.Version.TheVariants.{First, Second, Third, Fourth}
use Rattle.cert_text.specs.Versions.{version_of}
use Rattle.cert_text.specs.Marks.{mark_numbers}
use Rattle.cert_text.specs.Trees.{tree_data}
use Rattle.cert_text.specs.Certificates.{parts_data, certificate_data}
use Rattle.cert_text.proofs.PriceLemmas.{is_keyed}

pub list_no_float : {A : Type 0} (f : A → Data) → ((x : A) → has_float (f x) ≡ false) → (xs : List A) → items_have_float (items_of (map f xs)) ≡ false
list_no_float f each [] = refl
list_no_float f each (x ∷ xs) = rw (each x, list_no_float f each xs) refl

pub list_depth : {A : Type 0} (f : A → Data) (k : ℕ) → ((x : A) → depth (f x) ≤ k) → (xs : List A) → depth (list_data f xs) ≤ suc k
list_depth f k each [] = omega arith
list_depth f k each (x ∷ xs) =
    let first = each x in
    let rest = list_depth f k each xs in
    omega arith

pub numbers_no_float : (ns : List ℕ) → has_float (numbers_data ns) ≡ false
numbers_no_float ns = list_no_float number_data (λ n. refl) ns

pub numbers_depth : (ns : List ℕ) → depth (numbers_data ns) ≤ 1
numbers_depth ns = list_depth number_data 0 (λ n. omega arith) ns

pub cut_no_float : (c : CertCut) → has_float (cut_data c) ≡ false
cut_no_float c = rw (numbers_no_float c.ships, numbers_no_float (why_of c.refutation)) refl

pub cut_depth : (c : CertCut) → depth (cut_data c) ≤ 2
cut_depth c =
    let ships = numbers_depth c.ships in
    let why = numbers_depth (why_of c.refutation) in
    omega arith

pub lockage_no_float : (l : Lockage) → has_float (lockage_data l) ≡ false
lockage_no_float l = rw (numbers_no_float l.ships, list_no_float spot_data (λ s. refl) l.spots) refl

pub lockage_depth : (l : Lockage) → depth (lockage_data l) ≤ 3
lockage_depth l =
    let ships = numbers_depth l.ships in
    let spots = list_depth spot_data 1 (λ s. omega arith) l.spots in
    omega arith

-- prices with triples nest two deeper than those without
keyed_no_float : (p : PriceList) → has_float (keyed_data p) ≡ false
keyed_no_float p = rw (numbers_no_float p.ships, list_no_float triple_data (λ t. refl) p.triples) refl

prices_no_float : (p : PriceList) → has_float (prices_data p) ≡ false
prices_no_float p = go p.triples
  where
    go : (ts : List Triple) → has_float (prices_data (record { ships = p.ships; triples = ts })) ≡ false
    go [] = numbers_no_float p.ships
    go (t ∷ ts) = ap has_float (is_keyed p.ships t ts) ∙ keyed_no_float (record { ships = p.ships; triples = t ∷ ts })

keyed_depth : (p : PriceList) → depth (keyed_data p) ≤ 3
keyed_depth p =
    let ships = numbers_depth p.ships in
    let triples = list_depth triple_data 1 (λ t. omega arith) p.triples in
    omega (arith, ships, triples)

prices_depth : (p : PriceList) → depth (prices_data p) ≤ 3
prices_depth p = go p.triples
  where
    go : (ts : List Triple) → depth (prices_data (record { ships = p.ships; triples = ts })) ≤ 3
    go [] = let ships = numbers_depth p.ships in omega (arith, ships)
    go (t ∷ ts) = subst (λ d. depth d ≤ 3) (sym (is_keyed p.ships t ts)) (keyed_depth (record { ships = p.ships; triples = t ∷ ts }))

-- the parts of a certificate
parts_no_float : (numbering : Numbering) (version : Version) (cost : ℕ) (cuts : List CertCut) (plan : Plan) (prices : List PriceList) (tree : List Mark) → has_float (parts_data version cost cuts plan prices (tree_data (mark_numbers numbering) tree)) ≡ false
parts_no_float numbering First cost cuts plan prices tree = rw (list_no_float cut_data cut_no_float cuts, list_no_float lockage_data lockage_no_float plan.lockages, numbers_no_float (flat_map (mark_numbers numbering) tree)) refl
parts_no_float numbering Second cost cuts plan prices tree = rw (list_no_float cut_data cut_no_float cuts, list_no_float lockage_data lockage_no_float plan.lockages, numbers_no_float (flat_map (mark_numbers numbering) tree)) refl
parts_no_float numbering Third cost cuts plan prices tree =
    rw (list_no_float cut_data cut_no_float cuts, list_no_float lockage_data lockage_no_float plan.lockages, list_no_float prices_data prices_no_float prices, numbers_no_float (flat_map (mark_numbers numbering) tree)) refl
parts_no_float numbering Fourth cost cuts plan prices tree =
    rw (list_no_float cut_data cut_no_float cuts, list_no_float lockage_data lockage_no_float plan.lockages, list_no_float prices_data prices_no_float prices, numbers_no_float (flat_map (mark_numbers numbering) tree)) refl

parts_shallow : (numbering : Numbering) (version : Version) (cost : ℕ) (cuts : List CertCut) (plan : Plan) (prices : List PriceList) (tree : List Mark) → depth (parts_data version cost cuts plan prices (tree_data (mark_numbers numbering) tree)) ≤ max_depth
parts_shallow numbering version cost cuts plan prices tree = go version
  where
    flat : depth (tree_data (mark_numbers numbering) tree) ≤ 1
    flat = numbers_depth (flat_map (mark_numbers numbering) tree)

    go : (v : Version) → depth (parts_data v cost cuts plan prices (tree_data (mark_numbers numbering) tree)) ≤ max_depth
    go First =
        let cuts_depth = list_depth cut_data 2 cut_depth cuts in
        let plan_depth = list_depth lockage_data 3 lockage_depth plan.lockages in
        omega (arith, cuts_depth, plan_depth, flat)
    go Second =
        let cuts_depth = list_depth cut_data 2 cut_depth cuts in
        let plan_depth = list_depth lockage_data 3 lockage_depth plan.lockages in
        omega (arith, cuts_depth, plan_depth, flat)
    go Third =
        let cuts_depth = list_depth cut_data 2 cut_depth cuts in
        let plan_depth = list_depth lockage_data 3 lockage_depth plan.lockages in
        let lists_depth = list_depth prices_data 3 prices_depth prices in
        omega (arith, cuts_depth, plan_depth, lists_depth, flat)
    go Fourth =
        let cuts_depth = list_depth cut_data 2 cut_depth cuts in
        let plan_depth = list_depth lockage_data 3 lockage_depth plan.lockages in
        let lists_depth = list_depth prices_data 3 prices_depth prices in
        omega (arith, cuts_depth, plan_depth, lists_depth, flat)

pub no_float : (form : Form) (ships : List Ship) (C : Certificate) → has_float (certificate_data form ships C) ≡ false
no_float form ships C = parts_no_float (numbering_of ships) (version_of form C) C.cost C.cuts C.plan C.prices C.tree

pub shallow : (form : Form) (ships : List Ship) (C : Certificate) → depth (certificate_data form ships C) ≤ max_depth
shallow form ships C = parts_shallow (numbering_of ships) (version_of form C) C.cost C.cuts C.plan C.prices C.tree
