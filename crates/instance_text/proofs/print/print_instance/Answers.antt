use Rattle.std.proofs.Common.{subst, sym}
use Rattle.instance_text.specs.Reading.{Means}
use Rattle.instance_text.proofs.PrintLemmas.{printed}
use Rattle.instance_text.proofs.TextBackLemmas.{canonical_means}
use Rattle.instance_text.proofs.print.print_instance.Goals as goal

pub returns-clause-text : goal.returns-clause-text
returns-clause-text c =
    printed c.args.instance.now c.as_slice-chambers.result.now c.as_slice.result.now c.canonical_format.result c.new-out.result.items c.put_header.new.out.items c.put_chambers.new.out.items c.put_closings.new.out.items c.put_ships.new.out.items c.put.new.out.items
    c.as_slice-chambers.ensures.value c.as_slice.ensures.value c.canonical_format.ensures c.new-out.ensures.items c.in_ok-put_header.ensures c.in_ok-put_chambers.ensures c.in_ok-put_closings.ensures c.in_ok-put_ships.ensures c.in_ok-put.ensures

pub returns-clause-reads_back : goal.returns-clause-reads_back
returns-clause-reads_back c =
    subst (λ text. Means text c.args.instance.now) (sym (printed c.args.instance.now c.as_slice-chambers.result.now c.as_slice.result.now c.canonical_format.result c.new-out.result.items c.put_header.new.out.items c.put_chambers.new.out.items c.put_closings.new.out.items c.put_ships.new.out.items c.put.new.out.items
    c.as_slice-chambers.ensures.value c.as_slice.ensures.value c.canonical_format.ensures c.new-out.ensures.items c.in_ok-put_header.ensures c.in_ok-put_chambers.ensures c.in_ok-put_closings.ensures c.in_ok-put_ships.ensures c.in_ok-put.ensures)) (canonical_means c.args.instance.now)
