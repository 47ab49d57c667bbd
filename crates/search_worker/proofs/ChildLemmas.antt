-- A node has as many children as bounds.
use Rattle.std.proofs.Common.{◌≡◌, ℕ, ◌+◌, ◌<◌, List, length, ap, arith}
use Rattle.std.proofs.lemmas.List.{length-map}
use Rattle.lock_model.specs.declared.instance.Instance.{Instance}
use Rattle.lock_rules.specs.Bound.{bound_of}
use Rattle.master_branch.specs.Node.{children}
use Rattle.lock_rules.specs.Node.{Node}
use Rattle.book_core.specs.Hands.{bounds_below}

pub number_within : (I : Instance) (node : Node) (bounds : List ℕ) (number : ℕ) → bounds ≡ bounds_below I node → number < length bounds → number < length (children I node)
number_within I node bounds number is here = omega (arith, here, ap length is, length-map (children I node) (bound_of I (node.depth + 1)))
