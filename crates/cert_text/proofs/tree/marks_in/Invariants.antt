use Rattle.std.proofs.Common.{◌≡◌, None, drop}
use Rattle.serde_json.specs.View.{items_view}
use Rattle.cert_text.specs.Marks.{mark_in}
use Rattle.cert_text.specs.Trees.{marks_in}
use Rattle.cert_text.proofs.TreeLemmas.{rest_told}
use Rattle.cert_text.proofs.tree.marks_in.Given as goal

abbrev pub invariant-loop-value : goal.invariant-loop-value
invariant-loop-value l = marks_in (mark_in l.form l.numbering l.version) None (items_view l.list) ≡ rest_told (mark_in l.form l.numbering l.version) l.tree l.begun (drop l.value-index l.list)
