-- What the version of a certificate says of it.
use Rattle.std.proofs.Common.{◌≡◌, ◌∙◌, Bool, true, false, cond, List, [], ◌∷◌, refl, sym, ap, length, arith}
use Rattle.std.specs.Prelude.{◌||◌, not, ◌==◌}
use Rattle.std.proofs.lemmas.Bool.{or_parts}
use Rattle.std.proofs.lemmas.Bool.Decides.{nat_tests}
use Rattle.closing_rules.specs.declared.grounds.Ground.TheVariants.{Bound, Throughput, Probe, Cut, Price, Swept}
use Rattle.price_rules.specs.Prices.{PriceList}
use Rattle.closing_rules.specs.ProvedCuts.{CertCut}
use Rattle.certificate_rules.specs.declared.certificate.Mark.{Mark}
use Rattle.certificate_rules.specs.declared.certificate.Mark.TheVariants.{Split, Leaf, Open, OpenPriced}
use Rattle.certificate_rules.specs.Certificates.{Certificate}
use Rattle.cert_text.specs.declared.heading.Form.{Form}
use Rattle.cert_text.specs.declared.heading.Form.TheVariants as form
use Rattle.cert_text.specs.declared.heading.Version.{Version}
use Rattle.cert_text.specs.declared.heading.Version.TheVariants.{First, Second, Third, Fourth}
use Rattle.cert_text.specs.Versions.{has_prices, has_outside, has_later, name_triples, needs_fourth, needs_third, needs_second, version_of}
use Rattle.cert_text.specs.Marks.{is_later}
use Rattle.cert_text.specs.Prices.{SuitTriples}

-- A version has all parts: no cut is refuted as a later version does, no mark is one of a later version, before the third there are no
-- prices, and before the fourth none of triples.
pub record Suits (version : Version) (cuts : List CertCut) (prices : List PriceList) (tree : List Mark) : Type 0 where
  pub inside : has_outside version cuts ≡ false
  pub unpriced : has_prices version ≡ false → prices ≡ []
  pub untripled : SuitTriples version prices
  pub own : has_later version tree ≡ false

-- the third version and the fourth have all refutations, and the fourth all marks
none_outside : (version : Version) → has_prices version ≡ true → (cuts : List CertCut) → has_outside version cuts ≡ false
none_outside First priced cuts = absurd cc
none_outside Second priced cuts = absurd cc
none_outside Third priced [] = refl
none_outside Third priced (c ∷ cuts) = none_outside Third priced cuts
none_outside Fourth priced [] = refl
none_outside Fourth priced (c ∷ cuts) = none_outside Fourth priced cuts

never_later : (m : Mark) → is_later Fourth m ≡ false
unfolding is_later
never_later Split = refl
never_later (Leaf Bound) = refl
never_later (Leaf Throughput) = refl
never_later (Leaf (Probe s)) = refl
never_later (Leaf (Cut number)) = refl
never_later (Leaf (Price number)) = refl
never_later (Leaf (Swept number)) = refl
never_later Open = refl
never_later (OpenPriced number) = refl

none_later : (tree : List Mark) → has_later Fourth tree ≡ false
none_later [] = refl
none_later (m ∷ tree) = rw (never_later m) (none_later tree)

-- the first version has the marks of the second
same_later : (m : Mark) → is_later First m ≡ is_later Second m
unfolding is_later
same_later Split = refl
same_later (Leaf Bound) = refl
same_later (Leaf Throughput) = refl
same_later (Leaf (Probe s)) = refl
same_later (Leaf (Cut number)) = refl
same_later (Leaf (Price number)) = refl
same_later (Leaf (Swept number)) = refl
same_later Open = refl
same_later (OpenPriced number) = refl

first_later : (tree : List Mark) → has_later First tree ≡ has_later Second tree
first_later [] = refl
first_later (m ∷ tree) = rw (same_later m, first_later tree) refl

no_prices : (prices : List PriceList) → not (length prices == 0) ≡ false → prices ≡ []
no_prices [] none = refl
no_prices (p ∷ prices) none =
    let some : (length (p ∷ prices) == 0) ≡ false = grind (arith, nat_tests) in
    let bad : true ≡ false = sym (ap not some) ∙ none in
    absurd cc

-- what isn't needed
unneeded : (cuts : List CertCut) (prices : List PriceList) (marked : Bool) → needs_third cuts prices marked ≡ false → (has_outside Second cuts ≡ false) × (prices ≡ []) × (marked ≡ false)
unneeded cuts prices marked none = go (not (length prices == 0)) marked refl refl none
  where
    go : (some named : Bool) → not (length prices == 0) ≡ some → marked ≡ named → (some || (named || has_outside Second cuts)) ≡ false → (has_outside Second cuts ≡ false) × (prices ≡ []) × (marked ≡ false)
    go true named is same none = absurd cc
    go false true is same none = absurd cc
    go false false is same none = (none, no_prices prices is, same)

suits_fourth : (cuts : List CertCut) (prices : List PriceList) (tree : List Mark) → Suits Fourth cuts prices tree
suits_fourth cuts prices tree = record { inside = none_outside Fourth refl cuts; unpriced = λ e. absurd cc; untripled = λ e. absurd cc; own = none_later tree }

suits_third : (cuts : List CertCut) (prices : List PriceList) (tree : List Mark) → needs_fourth prices tree ≡ false → Suits Third cuts prices tree
suits_third cuts prices tree plain =
    let facts = or_parts (has_later Third tree) (name_triples prices) plain in
    record { inside = none_outside Third refl cuts; unpriced = λ e. absurd cc; untripled = λ e. facts.1; own = facts.0 }

suits_second : (cuts : List CertCut) (prices : List PriceList) (tree : List Mark) → needs_third cuts prices (has_later Second tree) ≡ false → Suits Second cuts prices tree
suits_second cuts prices tree none =
    let facts = unneeded cuts prices (has_later Second tree) none in
    record { inside = facts.0; unpriced = λ e. facts.1; untripled = λ e. ap name_triples facts.1; own = facts.2 }

suits_first : (cuts : List CertCut) (prices : List PriceList) (tree : List Mark) → needs_third cuts prices (has_later Second tree) ≡ false → has_outside First cuts ≡ false → Suits First cuts prices tree
suits_first cuts prices tree none quick =
    let facts = unneeded cuts prices (has_later Second tree) none in
    record { inside = quick; unpriced = λ e. facts.1; untripled = λ e. ap name_triples facts.1; own = first_later tree ∙ facts.2 }

-- a certificate that isn't of the second version by its form or its cuts has no later refutation
not_second : (own : Form) (cuts : List CertCut) → needs_second own cuts ≡ false → has_outside First cuts ≡ false
not_second form.Whole cuts none = none
not_second form.Open cuts none = absurd cc

pub suited : (own : Form) (C : Certificate) → Suits (version_of own C) C.cuts C.prices C.tree
unfolding version_of
suited own C = go (needs_fourth C.prices C.tree) (needs_third C.cuts C.prices (has_later Second C.tree)) (needs_second own C.cuts) refl refl refl
  where
    go : (fourth third second : Bool) → needs_fourth C.prices C.tree ≡ fourth → needs_third C.cuts C.prices (has_later Second C.tree) ≡ third → needs_second own C.cuts ≡ second
        → Suits (cond fourth Fourth (cond third Third (cond second Second First))) C.cuts C.prices C.tree
    go true third second plain is same = suits_fourth C.cuts C.prices C.tree
    go false true second plain is same = suits_third C.cuts C.prices C.tree plain
    go false false true plain is same = suits_second C.cuts C.prices C.tree is
    go false false false plain is same = suits_first C.cuts C.prices C.tree is (not_second own C.cuts same)

-- an open certificate is never of the first version
pub open_later : (C : Certificate) → version_of form.Open C ≡ First → ⊥
unfolding version_of
open_later C = go (needs_fourth C.prices C.tree) (needs_third C.cuts C.prices (has_later Second C.tree))
  where
    go : (fourth third : Bool) → cond fourth Fourth (cond third Third Second) ≡ First → ⊥
    go true third is = cc
    go false true is = cc
    go false false is = cc
