-- What a cut hits, from lines to whole nodes.
use Rattle.std.proofs.Common.{◌≡◌, ℕ, ◌<◌, List, [], sym, ◌∙◌, subst, length}
use Rattle.std.proofs.lemmas.List.{get_or_default}
use Rattle.lock_model.specs.declared.way.Way.TheVariants.{Up}
use Rattle.lock_model.specs.declared.group.Group.{Group}
use Rattle.master_branch.specs.Steps.{group_in}
use Rattle.cert_check.specs.Hitting.{AreTogether, HitsLine}

-- a line is hit where one of its groups has the ships
pub no-line : (ships : List ℕ) (line : List Group) → ((k : ℕ) → k < length line → ¬ AreTogether ships (group_in line k)) → HitsLine ships line → ⊥
no-line ships line apart h =
    let here : group_in line h.held.0 ≡ h.group = get_or_default line h.held.0 (record { way = Up; ships = [] }) h.group h.held.1 ∙ h.held.2 in
    apart h.held.0 h.held.1 (subst (AreTogether ships) (sym here) h.together)
