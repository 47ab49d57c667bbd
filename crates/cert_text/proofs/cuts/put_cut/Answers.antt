use Rattle.std.proofs.Common.{◌∙◌, ap, sym}
use Rattle.cert_text.specs.Cuts.{why_in}
use Rattle.cert_text.proofs.CutLemmas.{cut_back}
use Rattle.cert_text.proofs.cuts.put_cut.Goals as goal

pub returns-clause-reads_back : goal.returns-clause-reads_back
returns-clause-reads_back c =
    cut_back c.args.cut.now _ _ _ c.cut.view_is c.in_ok-map.ensures.chamber_back c.in_ok-map.ensures.ships_back
    (ap why_in (sym c.in_ok-why.ensures.value) ∙ c.in_ok-why.ensures.reads_back)
