use Rattle.std.proofs.lemmas.Result.{IfOk-weaker}
use Rattle.price_groups.proofs.masks.completable_by_missing.Goals as goal

pub returns-then-lacks : goal.returns-then-lacks
returns-then-lacks c = IfOk-weaker c.completable_by.result _ _ (λ completable are sets marks _. are sets marks) c.completable_by.ensures
