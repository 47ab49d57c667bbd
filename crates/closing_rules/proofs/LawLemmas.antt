-- The laws of the tree hold, given heredity and normal placements.
use Rattle.std.proofs.Common.{arith}
use Rattle.lock_model.specs.Deck.{Deck, IsDeck}
use Rattle.lock_model.specs.Fitting.{deck_of}
use Rattle.lock_model.proofs.FleetLemmas.{IsDeck-deck_of}
use Rattle.lock_model.specs.declared.instance.Instance.{Instance}
use Rattle.lock_rules.specs.Children.{children_of}
use Rattle.lock_rules.specs.Arrival.{missing_ships}
use Rattle.lock_rules.specs.Heredity.{IsHereditary}
use Rattle.lock_rules.proofs.TreeLemmas.{contains-among}
use Rattle.lock_rules.proofs.AmongLemmas.{contains-times}
use Rattle.lock_rules.proofs.SplitLemmas.{bound-holds, probe-holds, children-split}
use Rattle.lock_rules.proofs.ThroughputLemmas.{throughput-holds}
use Rattle.lock_rules.proofs.NodeLemmas.{children-nodes, root-node, root-under}
use Rattle.lock_rules.proofs.CutLemmas.{cut-holds}
use Rattle.lock_model.specs.Normal.{HasNormal}
use Rattle.refute_rules.proofs.RefuteLemmas.{refuted-unfit}
use Rattle.price_rules.specs.Prices.{CutHolds}
use Rattle.price_rules.proofs.ReachLemmas.{reached-holds}
use Rattle.sweep_rules.proofs.SweptLemmas.{swept-holds}
use Rattle.closing_rules.specs.ProvedCuts.{CertCut, IsProved}
use Rattle.closing_rules.specs.ListedPrices.{cut_in}
use Rattle.closing_rules.specs.Laws.{TreeLaws}

-- a proved cut holds
pub proved-holds : ((d : Deck) → IsDeck d → HasNormal d) → (I : Instance) (c : CertCut) → IsProved I c → CutHolds (cut_in I c.chamber c.ships)
proved-holds normal I c proved =
    let deck = deck_of I c.chamber c.ships in
    let good = IsDeck-deck_of I c.chamber c.ships proved.shaped.chamber proved.shaped.known (proved.shaped.some, proved.shaped.kept.few) in
    record {
      limits = good;
      some = proved.shaped.some;
      rising = proved.shaped.kept.rising;
      unfit = refuted-unfit deck c.refutation good (normal deck good) proved.refuted;
    }

pub tree-laws : IsHereditary → ((d : Deck) → IsDeck d → HasNormal d) → (I : Instance) → TreeLaws I
tree-laws law normal I = record {
  root = root-node I;
  all = λ P legal. root-under I P;
  child = λ k lines node lacks. children-nodes I k lines node lacks;
  split = λ k lines P node lacks legal under.
      let way = children-split I k lines P legal under (omega (arith, node.four, I.limits.chamber_count.1)) lacks in
      record { child = way.0; among = contains-among (children_of I k lines) way.0 way.1; under = way.2 };
  bound = λ k lines node. bound-holds I k lines;
  throughput = λ P legal. throughput-holds I P legal;
  probe = λ k lines s node missing. probe-holds I k lines s (omega (arith, node.four, I.limits.chamber_count.1)) (contains-times (missing_ships I k) s missing);
  cut = λ c k lines P proved node hits legal under.
      let holds = proved-holds normal I c proved in
      cut-holds law I c.ships (deck_of I c.chamber c.ships) k lines P holds.limits holds.unfit holds.rising holds.some node hits legal under;
  holds = proved-holds normal I;
  price = λ cuts k lines prices cost hold reached. reached-holds law I cuts hold k lines prices cost reached;
  swept = λ cuts cost hold swept P legal. swept-holds law I cuts hold cost swept P legal;
}
