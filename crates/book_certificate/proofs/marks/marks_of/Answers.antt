use Rattle.book_certificate.proofs.WritingLemmas.{all-written}
use Rattle.book_certificate.proofs.marks.marks_of.Goals as goal

pub returns : goal.returns
returns c = all-written c.args.book.now c.new-marks.result c.write_slot.new.marks c.keeps.ensures.parts.family.root_is c.new-marks.ensures c.in_ok-write_slot.ensures
