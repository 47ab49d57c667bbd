-- Cuts as JSON values.
use Rattle.std.specs.Prelude.{not, ℕ, zero, suc, List, [], ◌∷◌, nat_lt, Option, None, Some, codes}
use Rattle.serde_json.specs.Data.{Data, Items, no_items, item}
use Rattle.serde_json.specs.Find.{as_array}
use Rattle.refute_rules.specs.Why.{why_of}
use Rattle.refute_rules.specs.declared.refutation.Quick.TheVariants.{Area, Row, Column}
use Rattle.refute_rules.specs.declared.refutation.Refutation.{Refutation}
use Rattle.refute_rules.specs.declared.refutation.Refutation.TheVariants as refutation
use Rattle.closing_rules.specs.ProvedCuts.{CertCut}
use Rattle.cert_text.specs.declared.heading.Version.{Version}
use Rattle.cert_text.specs.Versions.{has_outside}
use Rattle.cert_text.specs.Steps.{◌>>=◌, ◌>>◌, when}
use Rattle.cert_text.specs.Fields.{number_data, list_data, numbers_data, object_data, number_in, byte_in, word_in, all_in, list_in, value_at, has_members}
use Rattle.cert_text.specs.Ships.{ships_of, ships_in}

abbrev pub cut_data : CertCut → Data
cut_data c =
    object_data ((codes "chamber", number_data c.chamber) ∷ (codes "ships", numbers_data c.ships) ∷ (codes "why", numbers_data (why_of c.refutation)) ∷ [])

abbrev pub cuts_data : List CertCut → Data
cuts_data = list_data cut_data

-- the clash of two places in the deck, the lower one first
abbrev pub clash_of : List ℕ → Option Refutation
clash_of (i ∷ j ∷ []) = do
  when (nat_lt i j)
  Some (refutation.Clash i j)
clash_of _ = None

-- the refutation of this first number, with the numbers after it
abbrev pub refutation_in : ℕ → Items → Option Refutation
refutation_in zero no_items = Some (refutation.Quick Area)
refutation_in zero (item d more) = None
refutation_in (suc zero) rest = do
  ships ← ships_of rest
  Some (refutation.Quick (Row ships))
refutation_in (suc (suc zero)) rest = do
  ships ← ships_of rest
  Some (refutation.Quick (Column ships))
refutation_in (suc (suc (suc zero))) rest = do
  marks ← all_in word_in rest
  Some (refutation.Cases marks)
refutation_in (suc (suc (suc (suc zero)))) rest = do
  marks ← all_in word_in rest
  Some (refutation.Spots marks)
refutation_in (suc (suc (suc (suc (suc zero))))) rest = do
  places ← all_in byte_in rest
  clash_of places
refutation_in (suc (suc (suc (suc (suc (suc zero)))))) rest = do
  marks ← all_in word_in rest
  Some (refutation.Berths marks)
refutation_in _ rest = None

-- the refutation by a tree of this kind
abbrev pub tree_refutation : ℕ → List ℕ → Option Refutation
tree_refutation (suc (suc (suc zero))) marks = Some (refutation.Cases marks)
tree_refutation (suc (suc (suc (suc zero)))) marks = Some (refutation.Spots marks)
tree_refutation (suc (suc (suc (suc (suc (suc zero)))))) marks = Some (refutation.Berths marks)
tree_refutation _ marks = None

abbrev pub tree_refutation_in : ℕ → Items → Option Refutation
tree_refutation_in kind rest = do
  marks ← all_in word_in rest
  tree_refutation kind marks

-- a list of numbers, the first of which tells the kind of refutation
abbrev pub why_items : Items → Option Refutation
why_items no_items = None
why_items (item first rest) = do
  kind ← number_in first
  refutation_in kind rest

abbrev pub why_in : Data → Option Refutation
why_in d = do
  items ← as_array d
  why_items items

unfoldable pub cut_in : Data → Option CertCut
cut_in d = do
  when (has_members 3 d)
  chamber ← value_at (codes "chamber") byte_in d
  ships ← value_at (codes "ships") ships_in d
  refutation ← value_at (codes "why") why_in d
  Some (record { chamber = chamber; ships = ships; refutation = refutation })

abbrev pub cuts_in : Data → Option (List CertCut)
cuts_in = list_in cut_in

-- the cuts, none of them with a refutation of a later version
abbrev pub cuts_under : Version → Data → Option (List CertCut)
cuts_under version d = do
  cuts ← cuts_in d
  when (not (has_outside version cuts))
  Some cuts
