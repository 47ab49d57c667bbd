use Rattle.cert_text.proofs.PlanLemmas.{lockage_back}
use Rattle.cert_text.proofs.plan.put_lockage.Goals as goal

pub returns-clause-reads_back : goal.returns-clause-reads_back
returns-clause-reads_back c =
    lockage_back c.args.lockage.now c.in_ok-map.ensures.chamber_back c.in_ok-map.ensures.ships_back c.in_ok-spots.ensures.reads_back
    c.requires.1 c.put_word-start.ensures.reads_back c.way_number.ensures.reads_back
