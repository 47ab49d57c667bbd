-- Certificates are read back.
use Rattle.std.proofs.Common.{◌≡◌, ◌∙◌, ℕ, true, false, List, Some, refl, sym, ap, subst, All}
use Rattle.std.specs.Prelude.{not, Ok}
use Rattle.serde_json.specs.Data.{Data}
use Rattle.serde_json.proofs.OnLiterals.{serde_json_on_literals}
use Rattle.lock_model.specs.declared.ship.Ship.{Ship}
use Rattle.lock_model.specs.declared.instance.Instance.{Instance}
use Rattle.lock_model.specs.declared.plan.Plan.{Plan}
use Rattle.price_rules.specs.Prices.{PriceList}
use Rattle.closing_rules.specs.ProvedCuts.{CertCut}
use Rattle.certificate_rules.specs.declared.certificate.Mark.{Mark}
use Rattle.certificate_rules.specs.Certificates.{Certificate}
use Rattle.certificate_rules.specs.WellFormed.{numbering_of, AreFormedPrices, IsFormedMark, IsWellFormed}
use Rattle.lock_model.specs.Fleet.{most_lockages}
use Rattle.cert_text.specs.declared.heading.Form.{Form}
use Rattle.cert_text.specs.declared.heading.Version.{Version}
use Rattle.cert_text.specs.declared.heading.Version.TheVariants.{First, Second, Third, Fourth}
use Rattle.cert_text.specs.Answers.{IsFault}
use Rattle.cert_text.specs.Steps.{◌>>=◌, ◌>>◌, when, fault_under}
use Rattle.cert_text.specs.declared.bad.BadDossier.TheVariants.{Shape}
use Rattle.cert_text.specs.declared.bad.DossierError.{DossierError}
use Rattle.cert_text.specs.Versions.{has_prices, has_outside, version_of}
use Rattle.cert_text.specs.Cuts.{cuts_data, cuts_in, cuts_under}
use Rattle.cert_text.specs.Plans.{plan_data, plan_in, IsPlanBack}
use Rattle.cert_text.specs.Prices.{AreListsBack}
use Rattle.cert_text.specs.Trees.{tree_data, tree_in}
use Rattle.cert_text.specs.Certificates.{parts_data, certificate_data, front_in, certificate_in, IsReadBack}
use Rattle.cert_text.specs.Marks.{mark_numbers, AreOf, mark_in}
use Rattle.cert_text.proofs.MarkLemmas.{marks_back, formed_of}
use Rattle.cert_text.proofs.TreeLemmas.{tree_back}
use Rattle.cert_text.proofs.PairLemmas.{shape_before}
use Rattle.cert_text.proofs.VersionLemmas.{Suits, suited}

-- a fault before the tree is that of the certificate
pub front_fault : (form : Form) (ships : List Ship) (version : Version) (d : Data) (e : DossierError) → IsFault (fault_under Shape (front_in ships version d)) e → IsFault (fault_under Shape (certificate_in form ships version d)) e
unfolding certificate_in
front_fault form ships version d e bad = shape_before (front_in ships version d) _ e bad

-- cuts of the version
cuts_suit : (version : Version) (cuts : List CertCut) → cuts_in (cuts_data cuts) ≡ Some cuts → has_outside version cuts ≡ false → cuts_under version (cuts_data cuts) ≡ Some cuts
cuts_suit version cuts back inside = ap (λ o. o >>= λ cs. when (not (has_outside version cs)) >> Some cs) back ∙ ap (λ b. when (not b) >> Some cuts) inside

module _ (form : Form) (ships : List Ship) where
  abbrev marks_data : List Mark → Data
  marks_data tree = tree_data (mark_numbers (numbering_of ships)) tree

  -- the object of parts of this form that suit a version is read as the certificate
  parts_back : (version : Version) (C : Certificate) → Suits version C.cuts C.prices C.tree → All (IsFormedMark (numbering_of ships)) C.tree → AreOf form C.tree
      → All (AreFormedPrices (most_lockages ships)) C.prices → (has_prices version ≡ true → AreListsBack C.prices) → cuts_in (cuts_data C.cuts) ≡ Some C.cuts → plan_in (most_lockages ships) (plan_data C.plan) ≡ Some C.plan
      → certificate_in form ships version (parts_data version C.cost C.cuts C.plan C.prices (marks_data C.tree)) ≡ Ok C
  unfolding certificate_in front_in serde_json_on_literals
  parts_back version C suits marks own formed prices cuts plan =
      go version suits prices (cuts_suit version C.cuts cuts suits.inside) (tree_back (marks_back (numbering_of ships) form) version C.tree (formed_of (numbering_of ships) form C.tree marks own) suits.own)
    where
      go : (v : Version) → Suits v C.cuts C.prices C.tree → (has_prices v ≡ true → AreListsBack C.prices) → cuts_under v (cuts_data C.cuts) ≡ Some C.cuts → tree_in (mark_in form (numbering_of ships) v) (marks_data C.tree) ≡ Some C.tree
          → certificate_in form ships v (parts_data v C.cost C.cuts C.plan C.prices (marks_data C.tree)) ≡ Ok C
      go First suits prices own back = rw (own, plan, back) (ap (λ ps. Ok (record { cost = C.cost; cuts = C.cuts; plan = C.plan; prices = ps; tree = C.tree })) (sym (suits.unpriced refl)))
      go Second suits prices own back = rw (own, plan, back) (ap (λ ps. Ok (record { cost = C.cost; cuts = C.cuts; plan = C.plan; prices = ps; tree = C.tree })) (sym (suits.unpriced refl)))
      go Third suits prices own back = rw (own, plan, back, prices refl (most_lockages ships) Third suits.untripled formed) refl
      go Fourth suits prices own back = rw (own, plan, back, prices refl (most_lockages ships) Fourth suits.untripled formed) refl

pub certificate_back : (form : Form) (I : Instance) (C : Certificate) (version : Version) (cost : ℕ) (cuts : List CertCut) (plan : Plan) (prices : List PriceList) (tree : List Mark)
    → (let made : Certificate = record { cost = cost; cuts = cuts; plan = plan; prices = prices; tree = tree } in made ≡ C) → version ≡ version_of form C → IsWellFormed I C → AreOf form C.tree
    → cuts_in (cuts_data cuts) ≡ Some cuts → IsPlanBack plan → (has_prices version ≡ true → AreListsBack prices) → IsReadBack form I.ships version C
certificate_back form I C version cost cuts plan prices tree made is formed own cuts_back plan_back prices_back =
    let own_cuts : cuts_in (cuts_data C.cuts) ≡ Some C.cuts = subst (λ (k : Certificate). cuts_in (cuts_data k.cuts) ≡ Some k.cuts) made cuts_back in
    let own_plan : IsPlanBack C.plan = subst (λ (k : Certificate). IsPlanBack k.plan) made plan_back in
    let own_prices : has_prices (version_of form C) ≡ true → AreListsBack C.prices = λ e. subst (λ (k : Certificate). AreListsBack k.prices) made (prices_back (ap has_prices is ∙ e)) in
    ap (λ v. certificate_in form I.ships v (certificate_data form I.ships C)) is
    ∙ parts_back form I.ships (version_of form C) C (suited form C) formed.marks own formed.prices own_prices own_cuts (own_plan (most_lockages I.ships) formed.few)
