-- A label of the code that dominates another serves for it.
use Rattle.std.proofs.Common.{◌≤◌, List, length, arith}
use Rattle.lock_model.specs.declared.limits.TheConstants.{CHAMBERS}
use Rattle.lock_model.specs.declared.instance.Instance.{Instance}
use Rattle.lock_model.specs.declared.way.Way.{Way}
use Rattle.lock_model.specs.declared.way.Way.TheVariants.{Up, Down}
use Rattle.price_rules.specs.Prices.{PlainCut}
use Rattle.sweep_rules.specs.Dominance.{ServesFor}
use Rattle.sweep_labels.specs.declared.ready_times.ReadyTimes.{ReadyTimes}
use Rattle.sweep_labels.specs.declared.label.Label.{Label as CodeLabel}
use Rattle.sweep_labels.specs.Ships.{is_in}
use Rattle.sweep_labels.specs.Labels.{ready_by, times_at, label_of, AreNoLater, Dominates}

pub no_later-by : (a b : ReadyTimes) → AreNoLater a b → (way : Way) → ready_by a way ≤ ready_by b way
no_later-by a b are Up = are.up
no_later-by a b are Down = are.down

pub dominates-serves : (I : Instance) (cuts : List PlainCut) → length I.chambers ≤ CHAMBERS → (a b : CodeLabel) → Dominates a b → ServesFor I cuts (label_of a) (label_of b)
dominates-serves I cuts few a b dominates = record {
  served = λ s known. λ i. is_in (dominates.served i).bits s;
  ready = λ c known way s wanted. no_later-by (times_at a.ready c) (times_at b.ready c) (dominates.no_worse.ready.each c (omega (arith, known, few))) way;
  flow = dominates.no_worse.flow;
}
