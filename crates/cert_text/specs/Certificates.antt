-- A certificate as a JSON value, and the certificate that a value is, or the first part at fault.
use Rattle.std.specs.Prelude.{ℕ, ◌≡◌, ◌&&◌, Bool, List, [], ◌∷◌, Result, Ok, codes, if◌then◌else◌}
use Rattle.serde_json.specs.Data.{Data}
use Rattle.lock_model.specs.declared.ship.Ship.{Ship}
use Rattle.lock_model.specs.declared.plan.Plan.{Plan}
use Rattle.price_rules.specs.Prices.{PriceList}
use Rattle.closing_rules.specs.ProvedCuts.{CertCut}
use Rattle.certificate_rules.specs.Certificates.{Certificate}
use Rattle.certificate_rules.specs.WellFormed.{numbering_of}
use Rattle.lock_model.specs.Fleet.{most_lockages}
use Rattle.line_text.specs.Steps.{◌>>=◌, ◌>>◌}
use Rattle.cert_text.specs.declared.heading.Form.{Form}
use Rattle.cert_text.specs.declared.heading.Version.{Version}
use Rattle.cert_text.specs.Versions.{has_prices, version_of}
use Rattle.cert_text.specs.Steps.{when, or_fault}
use Rattle.cert_text.specs.Fields.{object_data, value_at, has_members, has_key}
use Rattle.cert_text.specs.Cost.{cost_data, cost_in}
use Rattle.cert_text.specs.Cuts.{cuts_data, cuts_under}
use Rattle.cert_text.specs.Plans.{plan_data, plan_in}
use Rattle.cert_text.specs.Prices.{price_lists_data, prices_under}
use Rattle.cert_text.specs.Marks.{mark_numbers, mark_in}
use Rattle.cert_text.specs.Trees.{tree_data, tree_in}

-- the keys behind the plan, with prices in a version that has them
abbrev pub end_members : Version → List PriceList → Data → List (List ℕ × Data)
end_members version prices tree =
    if has_prices version then (codes "prices", price_lists_data prices) ∷ (codes "tree", tree) ∷ [] else (codes "tree", tree) ∷ []

-- the keys before it
abbrev pub claim_members : ℕ → List CertCut → List (List ℕ × Data) → List (List ℕ × Data)
claim_members cost cuts more = (codes "cost", cost_data cost) ∷ (codes "cuts", cuts_data cuts) ∷ more

-- the object of a version with these parts
abbrev pub parts_data : Version → ℕ → List CertCut → Plan → List PriceList → Data → Data
parts_data version cost cuts plan prices tree =
    object_data (claim_members cost cuts ((codes "plan", plan_data plan) ∷ end_members version prices tree))

-- a certificate of an instance with these ships, written in the first version of its form that has all its parts
abbrev pub certificate_data : Form → List Ship → Certificate → Data
certificate_data form ships C = parts_data (version_of form C) C.cost C.cuts C.plan C.prices (tree_data (mark_numbers (numbering_of ships)) C.tree)

-- an object of the four keys, or of the five of a version that has prices
abbrev pub has_keys : Data → Bool
has_keys d = has_key d (codes "cost") && has_key d (codes "cuts") && has_key d (codes "plan") && has_key d (codes "tree")

abbrev pub is_frame : Version → Data → Bool
is_frame version d =
    if has_prices version then has_members 5 d && (has_keys d && has_key d (codes "prices")) else has_members 4 d && has_keys d

-- the parts of a certificate that come before its tree
pub record Front : Type 0 where
  pub cost : ℕ
  pub cuts : List CertCut
  pub plan : Plan

-- The parts before the tree, where the instance has these ships, or the number of the first one at fault: 1 the keys, 2 the cost, 3 the
-- cuts, 4 the plan.
unfoldable pub front_in : List Ship → Version → Data → Result Front ℕ
front_in ships version d = do
  or_fault 1 (when (is_frame version d))
  cost ← or_fault 2 (value_at (codes "cost") cost_in d)
  cuts ← or_fault 3 (value_at (codes "cuts") (cuts_under version) d)
  plan ← or_fault 4 (value_at (codes "plan") (plan_in (most_lockages ships)) d)
  Ok (record { cost = cost; cuts = cuts; plan = plan })

-- The certificate of this form and version that a value is, where the instance has these ships, or the number of the first part at
-- fault, which is 5 for the tree and 6 for the prices.
unfoldable pub certificate_in : Form → List Ship → Version → Data → Result Certificate ℕ
certificate_in form ships version d = do
  front ← front_in ships version d
  tree ← or_fault 5 (value_at (codes "tree") (tree_in (mark_in form (numbering_of ships) version)) d)
  prices ← or_fault 6 (prices_under (most_lockages ships) version d)
  Ok (record { cost = front.cost; cuts = front.cuts; plan = front.plan; prices = prices; tree = tree })

-- what is written of the certificate is read as it in this version
abbrev pub IsReadBack : Form → List Ship → Version → Certificate → Type 0
IsReadBack form ships version C = certificate_in form ships version (certificate_data form ships C) ≡ Ok C
