-- A group that is spent is spot-hard.
use Rattle.std.proofs.Common.{ℕ, List}
use Rattle.lock_model.specs.declared.instance.Instance.{Instance}
use Rattle.lock_rules.specs.Node.{Node}
use Rattle.node_work.specs.declared.fate.Fate.{Fate}
use Rattle.node_work.specs.declared.fate.Fate.TheVariants as fate
use Rattle.node_work.specs.Fates.{IsAnyway, IsFate}
use Rattle.search_worker.specs.Ending.{MayEnd}

pub may_end : (tells : ℕ → List ℕ → ℕ → Type 0) (I : Instance) (turns best : ℕ) (node : Node) (f : Fate) → IsFate tells I turns best node f → MayEnd f
may_end tells I turns best node (fate.Closed why) is = tt
may_end tells I turns best node fate.Split is = tt
may_end tells I turns best node (fate.Plan plan) is = tt
may_end tells I turns best node (fate.Refuted cut) is = tt
may_end tells I turns best node (fate.Spent c p hard) is = is.spent.spot_hard

pub may_end_anyway : (tells : ℕ → List ℕ → ℕ → Type 0) (I : Instance) (turns : ℕ) (node : Node) (f : Fate) → IsAnyway tells I turns node f → MayEnd f
may_end_anyway tells I turns node f is = may_end tells I turns 0 node f (is.fate_is 0)
