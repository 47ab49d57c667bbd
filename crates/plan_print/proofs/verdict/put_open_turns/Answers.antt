use Rattle.std.proofs.Common.{◌≡◌, ℕ, List, ◌++◌, ◌∷◌, codes, decimal, append_assoc}
use Rattle.std.specs.List.{flat_map}
use Rattle.std.proofs.lemmas.Result.{IfOk-equal}
use Rattle.lock_model.specs.Fleet.{chamber_at, ship_at}
use Rattle.plan_print.proofs.verdict.put_open_turns.Goals as goal

joined : (o a t b m s f l w : List ℕ) → o ++ (a ++ t ++ b ++ m) ++ s ++ f ++ (l ++ w) ≡ o ++ (a ++ t ++ b ++ m ++ s ++ f ++ l ++ w)
joined o a t b m s f l w = simp append_assoc

pub returns : goal.returns
returns c =
    let I = c.args.instance.now in
    IfOk-equal c.put_named.result _ _ _ c.put_named.ensures
    (rw (c.in_ok-put_names.ensures, c.in_ok-put.ensures, c.in_ok-put_turns.ensures)
    (joined c.args.out.now.items (codes "open turns ") (decimal c.args.turns) (codes " chamber ") (chamber_at I c.args.chamber).name (codes " ships")
    (flat_map (λ s. 32 ∷ (ship_at I s).name) c.args.ships.now) (codes " low ") (decimal c.args.low)))
