use Rattle.std.proofs.Common.{All, sym, subst}
use Rattle.price_groups.specs.Sparing.{LacksSome}
use Rattle.price_groups.proofs.forbidden.is_spared.Goals as goal

pub returns : goal.returns
returns c =
    let same = c.as_slice.ensures.value in
    let sets = c.args.sets.now in (
      λ h. record { missed = subst (λ ships. All (LacksSome ships) sets) same (c.misses_all.ensures.0 h) },
      λ h. c.misses_all.ensures.1 (subst (λ ships. All (LacksSome ships) sets) (sym same) h.missed),
    )
