use Rattle.run_answers.specs.Written.{bytes_in}
use Rattle.checked_dossiers.proofs.RefusalLemmas.{rejected_refused}
use Rattle.checked_dossiers.proofs.sound.low_of.Goals as goal

pub returns-in-Ok-Stands-clause-sound : goal.returns-in-Ok-Stands-clause-sound
returns-in-Ok-Stands-clause-sound c =
    let told = c.in-Ok-Stands in
    record { reads = c.requires.reads; fit = c.requires.fit; stands = ((told.ensures.stands told.low told.field-0-1).0 told.field-0-is).0 }

pub returns-in-Ok-Stands-clause-low : goal.returns-in-Ok-Stands-clause-low
returns-in-Ok-Stands-clause-low c =
    let told = c.in-Ok-Stands in
    record {
      lowest = ((told.ensures.stands told.low told.field-0-1).0 told.field-0-is).1;
      least = λ Q legal. (told.ensures.proves told.low told.field-0-1 told.field-0-is).least Q legal;
    }

pub returns-in-Ok-Rejected-clause-refused : goal.returns-in-Ok-Rejected-clause-refused
returns-in-Ok-Rejected-clause-refused c =
    let told = c.in-Ok-Rejected in
    let answer = c.rejected_answer.result in
    let fails = (told.ensures.rejected told.place told.reason).0 told.field-0-is in
    rejected_refused c.args.form c.args.bytes.now c.args.instance.now c.args.certificate.now told.place told.reason answer.status (bytes_in answer.text) c.requires.reads c.requires.fit fails c.rejected_answer.ensures
