-- A dossier that is read as a whole one has no open leaf.
use Rattle.std.proofs.Common.{◌≡◌, ℕ, List, Option, Some, None, Result, Ok, Err, option_and_then, refl, ap, subst}
use Rattle.std.specs.Prelude.{codes}
use Rattle.std.proofs.lemmas.Option.{none-some}
use Rattle.list_laws.proofs.Variants.{one-ok}
use Rattle.lock_model.specs.declared.ship.Ship.{Ship}
use Rattle.lock_model.specs.declared.instance.Instance.{Instance}
use Rattle.line_text.specs.Steps.{◌>>=◌}
use Rattle.cert_text.specs.Steps.{or_fault, fault_under}
use Rattle.instance_text.specs.Draft.{draft_of}
use Rattle.instance_text.specs.Reading.{reading, instance_part, after_instance}
use Rattle.serde_json.specs.Data.{Data}
use Rattle.serde_json.specs.Find.{get}
use Rattle.certificate_rules.specs.Certificates.{Certificate, HasNoOpenLeaf}
use Rattle.certificate_rules.specs.WellFormed.{numbering_of}
use Rattle.lock_model.specs.Fleet.{most_lockages}
use Rattle.cert_text.specs.declared.heading.Form.TheVariants as form
use Rattle.cert_text.specs.declared.heading.Version.{Version}
use Rattle.cert_text.specs.declared.bad.BadDossier.TheVariants as fault
use Rattle.cert_text.specs.Fields.{value_at}
use Rattle.cert_text.specs.Marks.{mark_in}
use Rattle.cert_text.specs.Trees.{tree_in}
use Rattle.cert_text.specs.Prices.{prices_under}
use Rattle.cert_text.specs.Dossier.{value_in, rest_in, dossier_in, Reads}
use Rattle.cert_text.specs.Certificates.{front_in, certificate_in}
use Rattle.cert_text.proofs.MarkLemmas.{tree_whole}

-- the first of two steps went well where both did, and so did the second
step : {A B E : Type 0} (r : Result A E) (next : A → Result B E) (y : B) → (r >>= next) ≡ Ok y → (x : A) × (r ≡ Ok x) × (next x ≡ Ok y)
step (Ok x) next y e = (x, refl, e)
step (Err f) next y e = absurd cc

found : {A E : Type 0} (f : E) (o : Option A) (x : A) → or_fault f o ≡ Ok x → o ≡ Some x
found f (Some y) x e = cc
found f None x e = absurd cc

sound : {A E F : Type 0} (under : E → F) (r : Result A E) (x : A) → fault_under under r ≡ Ok x → r ≡ Ok x
sound under (Ok y) x e = cc
sound under (Err f) x e = absurd cc

at_key : {A : Type 0} (f : Data → Option A) (o : Option Data) (x : A) → option_and_then f o ≡ Some x → (v : Data) × (f v ≡ Some x)
at_key f (Some v) x e = (v, e)
at_key f None x e = absurd (none-some x e)

certificate_whole : (ships : List Ship) (version : Version) (d : Data) (C : Certificate) → certificate_in form.Whole ships version d ≡ Ok C → HasNoOpenLeaf C.tree
unfolding certificate_in
certificate_whole ships version d C e =
    let read = tree_in (mark_in form.Whole (numbering_of ships) version) in
    let front = step (front_in ships version d) _ C e in
    let tree = step (or_fault 5 (value_at (codes "tree") read d)) _ C front.2 in
    let prices = step (or_fault 6 (prices_under (most_lockages ships) version d)) _ C tree.2 in
    let own = at_key read (get (codes "tree") d) tree.0 (found 5 (value_at (codes "tree") read d) tree.0 tree.1) in
    let same = ap (λ (c : Certificate). c.tree) (one-ok (Ok (record { cost = front.0.cost; cuts = front.0.cuts; plan = front.0.plan; prices = prices.0; tree = tree.0 })) _ C refl prices.2) in
    subst HasNoOpenLeaf same (tree_whole (numbering_of ships) version own.0 tree.0 own.1)

rest_whole : (ships : List Ship) (bytes : List ℕ) (C : Certificate) → rest_in form.Whole ships bytes ≡ Ok C → HasNoOpenLeaf C.tree
unfolding rest_in
rest_whole ships bytes C e =
    let value = step (value_in form.Whole bytes) _ C e in
    certificate_whole ships value.0.0 value.0.1 C (sound fault.Shape (certificate_in form.Whole ships value.0.0 value.0.1) C value.2)

pub reads_whole : (text : List ℕ) (I : Instance) (C : Certificate) → Reads form.Whole text I C → HasNoOpenLeaf C.tree
unfolding Reads dossier_in
reads_whole text I C e =
    let draft = step (fault_under fault.Instance (reading (instance_part text))) _ (draft_of I, C) e in
    let rest = step (rest_in form.Whole draft.0.ships (after_instance text)) _ (draft_of I, C) draft.2 in
    let same = ap (λ p. p.1) (one-ok (Ok (draft.0, rest.0)) _ (draft_of I, C) refl rest.2) in
    subst (λ (c : Certificate). HasNoOpenLeaf c.tree) same (rest_whole draft.0.ships (after_instance text) rest.0 rest.1)
