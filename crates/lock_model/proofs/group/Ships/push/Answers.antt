use Rattle.std.proofs.Common.{◌<◌, ap, arith, length, subst, sym, All}
use Rattle.std.proofs.lemmas.List.{length-take}
use Rattle.lock_model.specs.declared.limits.TheConstants.{MOST}
use Rattle.lock_model.proofs.ShipsLemmas.{rises_more, zeros_more}
use Rattle.lock_model.proofs.group.Ships.push.Goals as goal

pub invariant_of-self : goal.invariant_of-self
invariant_of-self c =
    let few : c.self.inside.count < MOST = omega (arith, c.requires.room, ap length c.self.view_is, length-take c.self.inside.count c.self.inside.bytes, c.self.told, c.self.invariant.0) in
    let within : c.self.inside.count < length c.self.inside.bytes = omega (arith, few, c.self.told) in (
      omega (arith, few),
      rises_more c.self.inside.bytes c.self.inside.count c.args.ship within c.self.invariant.1 (subst (All (λ s. s < c.args.ship)) (sym c.self.view_is) c.requires.rising),
      zeros_more c.self.inside.bytes c.self.inside.count c.args.ship few c.self.invariant.2,
    )
