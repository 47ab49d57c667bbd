use Rattle.std.proofs.Common.{subst}
use Rattle.book_core.specs.Case.{IsCase}
use Rattle.book_core.proofs.SoundLemmas.{opening-sound, all-sound, all-run, legal-judgeable}
use Rattle.book_rules.specs.Book.{opening_book}
use Rattle.book_core.proofs.laws.every_list_keeps.Goals as goal

pub returns : goal.returns
returns c =
    let case = c.args.case.now in
    let plan = c.args.plan.now in
    let good = subst IsCase c.case.view_is c.case.invariant in
    record {
      keeps = λ events end owed runs. all-sound (opening_book case plan) events end (opening-sound case plan good c.requires) owed runs;
      runs = λ events told. all-run (opening_book case plan) events told;
      judgeable = λ P legal. legal-judgeable case.instance P legal;
    }
