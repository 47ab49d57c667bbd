use Rattle.std.proofs.Common.{ℕ, ◌≡◌, ◌≤◌, ◌-◌, List, [], ◌∷◌, ◌++◌, length, take, drop, get_or, ap, ◌∙◌, arith, append_assoc}
use Rattle.std.specs.List.{flat_map}
use Rattle.std.proofs.lemmas.List.{take_all}
use Rattle.std.proofs.lemmas.Result.{IfOk-equal}
use Rattle.lock_model.specs.Fleet.{ship_at}
use Rattle.lock_model.specs.declared.instance.Instance.{Instance}
use Rattle.picture_page.specs.Lanes.{names, next_name}
use Rattle.picture_page.proofs.lanes.put_names.Goals as goal

-- the first name, and the names after it
names-more : (I : Instance) (ships : List ℕ) → 1 ≤ length ships
    → (ship_at I (get_or ships 0 0)).name ++ flat_map (next_name I) (take (length ships - 1) (drop 1 ships)) ≡ names I ships
names-more I [] some = absurd (omega arith)
names-more I (s ∷ ss) some = ap (λ (rest : List ℕ). (ship_at I s).name ++ flat_map (next_name I) rest) (take_all (length (s ∷ ss) - 1) ss (omega arith))

pub returns-in_ok-put-in-len1-up : goal.returns-in_ok-put-in-len1-up
returns-in_ok-put-in-len1-up c =
    let I = c.args.instance.now in
    let ships = c.args.ships.now in
    let first = (ship_at I (get_or ships 0 0)).name in
    let rest = flat_map (next_name I) (take (length ships - 1) (drop 1 ships)) in
    IfOk-equal c.put_next_names.result _ _ _ c.put_next_names.ensures
    (ap (λ t. t ++ rest) (c.in_ok-put-in-len1-up.ensures ∙ ap (λ t. c.args.out.now.items ++ t) c.name_of.ensures)
    ∙ append_assoc c.args.out.now.items first rest
    ∙ ap (λ t. c.args.out.now.items ++ t) (names-more I ships c.in-len1-up.len_at_least))
