use Rattle.std.proofs.Common.{rules, arith, refl}
use borrow.Author.Count.{below_more}
use Rattle.lock_model.specs.Limits.{HasNewName}
use Rattle.lock_model.proofs.within.have_own_names.Goals as goal

pub loop-i-preserved : goal.loop-i-preserved
loop-i-preserved g c =
    let here : HasNewName g.T.Named.name_of c.args.items.now c.loop-i.i = search rules in
    below_more (HasNewName g.T.Named.name_of c.args.items.now) c.loop-i.i c.loop-i.invariant here

pub returns : goal.returns
returns g c = ((λ t i j d less known. (c.loop-i.invariant j (omega arith)).differ i d less), (λ pairs. refl))
