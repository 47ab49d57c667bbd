use Rattle.std.proofs.Common.{◌∙◌, ap, sym}
use Rattle.cert_text.specs.Ships.{ships_in}
use Rattle.cert_text.proofs.group.put_group.Goals as goal

pub returns-clause-ships_back : goal.returns-clause-ships_back
returns-clause-ships_back c = ap ships_in (sym c.in_ok-ships.ensures.value) ∙ c.in_ok-ships.ensures.reads_back
