use Rattle.std.proofs.Common.{length, All, ap, ◌∙◌, sym, subst, arith, []}
use Rattle.std.proofs.lemmas.List.{length-append}
use Rattle.std.proofs.lemmas.List.Elements.{All-append, All-cons, All-nil}
use Rattle.flow_bounds.specs.declared.places.Places.{Places}
use Rattle.flow_bounds.specs.Places.{all_minutes, IsEnough}
use Rattle.flow_bounds.proofs.PlacesLemmas.{places-more}
use Rattle.flow_bounds.proofs.capacity.all_places.Goals as goal

pub loop-chamber-preserved : goal.loop-chamber-preserved
loop-chamber-preserved c =
    let I = c.args.instance.now in
    let n = length I.ships in
    let old = c.loop-chamber.all.items in
    let new = c.places_on.result in
    record {
      value = ap all_minutes c.push.ensures.items ∙ places-more I old new c.loop-chamber.chamber c.loop-chamber.invariant.value c.places_on.ensures.value;
      each = omega (arith, ap length c.push.ensures.items, length-append {A = Places}, c.loop-chamber.invariant.each);
      enough = subst (All (IsEnough n)) (sym c.push.ensures.items) (All-append (IsEnough n) old _ c.loop-chamber.invariant.enough (All-cons (IsEnough n) new [] c.places_on.ensures.enough (All-nil (IsEnough n))));
    }
