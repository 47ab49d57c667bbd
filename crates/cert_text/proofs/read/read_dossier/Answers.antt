use Rattle.cert_text.proofs.DossierLemmas.{reads_each, faults_each}
use Rattle.cert_text.proofs.read.read_dossier.Goals as goal

pub returns-clause-each : goal.returns-clause-each
returns-clause-each c i d reads = reads_each (λ r. (r.0.value, r.1.value)) c.args.form c.args.bytes.now c.read_text.result c.read_text.ensures.read c.read_text.ensures.fault i d reads

pub returns-clause-each_fault : goal.returns-clause-each_fault
returns-clause-each_fault c f fault = faults_each (λ r. (r.0.value, r.1.value)) c.args.form c.args.bytes.now c.read_text.result c.read_text.ensures.read c.read_text.ensures.fault f fault
