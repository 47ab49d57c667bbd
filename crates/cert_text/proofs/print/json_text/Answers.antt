use Rattle.serde_json.specs.View.{view}
use Rattle.cert_text.proofs.WrittenLemmas.{written, written_back}
use Rattle.cert_text.proofs.print.json_text.Goals as goal

pub returns-clause-text : goal.returns-clause-text
returns-clause-text c = written (view c.args.value) c.in_ok-text.text.items c.requires.flat c.in_ok-text.ensures.text

pub returns-clause-reads_back : goal.returns-clause-reads_back
returns-clause-reads_back c =
    written_back (view c.args.value) c.in_ok-text.text.items c.requires.flat c.requires.shallow (written (view c.args.value) c.in_ok-text.text.items c.requires.flat c.in_ok-text.ensures.text) c.in_ok-text.ensures.compact c.in_ok-text.ensures.utf8 c.in_ok-text.ensures.order c.in_ok-text.ensures.reads_back
