use Rattle.std.proofs.Common.{subst, arith}
use Rattle.book_rules.specs.Book.{slot_at}
use Rattle.book_core.specs.Stored.{IsStoredAs}
use Rattle.book_core.proofs.KeptLemmas.{is-stored}
use Rattle.book_core.proofs.SettleLemmas.{slots-known}
use Rattle.book_core.proofs.book.Book.stored.Goals as goal

pub index-requires : goal.index-requires
index-requires c = let known = slots-known c.self.inside c.args.self.now c.self.view_is c.args.id c.requires in omega (arith, known, c.self.inside.slots.ok.0)

pub returns-clause-is : goal.returns-clause-is
returns-clause-is c =
    let a = c.self.inside in
    subst (λ b. IsStoredAs c.index.result.now (slot_at b c.args.id)) c.self.view_is
    (is-stored a.case.instance a.slots.items c.args.id c.index.result.now (slots-known a c.args.self.now c.self.view_is c.args.id c.requires) c.index.ensures)
