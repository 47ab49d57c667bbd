use Rattle.std.proofs.Common.{length}
use Rattle.deck_laws.specs.Reach.{IsBehind, IsFlushOf}
use Rattle.deck_laws.proofs.ReachLemmas.{reaches_then}
use Rattle.deck_laws.proofs.reach.reach_by.Goals as goal

pub returns : goal.returns
returns c = reaches_then _ _ _ c.args.round (IsBehind c.args.deck.now c.args.v c.args.j) (IsFlushOf c.args.deck.now c.args.v c.args.j (length c.args.deck.now.ships)) c.reach_behind.ensures c.reach_all_flush.ensures
