use Rattle.std.proofs.Common.{Bool, List, sym, subst}
use Rattle.sweep_labels.specs.declared.label.KeptLabel.{KeptLabel}
use Rattle.sweep_labels.specs.Putting.{IsPut}
use Rattle.sweep_labels.specs.Made.{IsKept}
use Rattle.sweep_labels.proofs.MadeLemmas.{kept_in, kept_whole}
use Rattle.sweep_labels.proofs.made.Made.keep.Goals as goal

pub returns-then-whole : goal.returns-then-whole
returns-then-whole c =
    let old = c.args.self.now in
    let put = c.put.new.self in
    let new = c.find.new.self in
    let was = subst (IsPut c.args.kept old.labels.items.items old.labels.are_open.items put.items.items put.are_open.items) c.in-Some.is c.in_ok-number.ensures in
    subst (λ (longer : List KeptLabel). IsKept c.args.kept old.labels.items.items old.labels.are_open.items old.goal longer new.labels.are_open.items new.goal) (sym c.find.ensures.items)
    (subst (λ (flags : List Bool). IsKept c.args.kept old.labels.items.items old.labels.are_open.items old.goal put.items.items flags new.goal) (sym c.find.ensures.closed)
    (kept_whole c.args.kept old.labels.items.items put.items.items old.labels.are_open.items put.are_open.items c.requires old.goal c.in-Some.number new.goal was c.find.ensures.low c.find.ensures.costly))

pub returns : goal.returns
returns c =
    let old = c.args.self.now in
    let put = c.put.new.self in
    let was = subst (IsPut c.args.kept old.labels.items.items old.labels.are_open.items put.items.items put.are_open.items) c.in-Some.is c.in_ok-number.ensures in
    kept_in c.args.kept old.labels.items.items put.items.items old.labels.are_open.items put.are_open.items c.requires old.goal c.in-Some.number was
