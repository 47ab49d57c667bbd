-- The next lockage of a chamber, and the turn that has begun for it.
use Rattle.std.proofs.Common.{◌≡◌, ℕ, ◌+◌, ◌<◌, ◌≤◌, List, length, drop, find, get_or, Bool, true, Option, Some, None, sym, ap, ◌∙◌, subst}
use Rattle.std.specs.Prelude.{if◌then◌else◌}
use Rattle.lock_model.specs.declared.chamber.Chamber.{Chamber}
use Rattle.lock_model.specs.declared.instance.Instance.{Instance}
use Rattle.lock_model.specs.declared.plan.Plan.{Plan}
use Rattle.day_play.proofs.BeatLemmas.{drop_next}
use Rattle.replan.specs.Begun.{next_place, turn_for, begun_turn, turned_where}
use Rattle.replan.specs.Kept.{kept_of, CanBeKept}
use Rattle.replan.specs.Lived.{IsOverInTime}
use Rattle.replan.specs.Rest.{chamber_after}
use Rattle.replan.proofs.LeftLemmas.{chamber-limits}

-- the first of a list that passes, where none before it did
pub found_next : (f : ℕ → Bool) (ps qs : List ℕ) (i : ℕ) → qs ≡ ps → i < length qs → f (get_or qs i 0) ≡ true → find f qs ≡ find f (drop i qs) → Some (get_or qs i 0) ≡ find f ps
found_next f ps qs i same within passes before =
    let x = get_or qs i 0 in
    let rest = drop (i + 1) qs in
    sym (ap (find f) (sym same) ∙ before ∙ ap (find f) (drop_next qs i within) ∙ ap (λ b. if b then Some x else find f rest) passes)

-- the begun lockages leave a chamber when it may still open
pub opens_small : (I : Instance) (K : Plan) (c : ℕ) (k : Chamber) → CanBeKept I K → c < length I.chambers → k ≡ chamber_after I K c → k.opens ≤ 1000000
opens_small I K c k can known is = subst (λ (k : Chamber). k.opens ≤ 1000000) (sym is) (chamber-limits I K can c known).opens

-- where no turn has begun, what has begun is over in time
pub over_none : (I : Instance) (P K : Plan) (M c : ℕ) (k : Chamber) (o : Option ℕ) → K ≡ kept_of P M → CanBeKept I K → c < length I.chambers → k ≡ chamber_after I K c
    → o ≡ turn_for P M k (next_place P M c) → o ≡ None → IsOverInTime I P M c
over_none I P K M c k o kept can known is turn none =
    let here : chamber_after I K c ≡ chamber_after I (kept_of P M) c = ap (λ K. chamber_after I K c) kept in
    let small : (chamber_after I (kept_of P M) c).opens ≤ 1000000 = subst (λ (k : Chamber). k.opens ≤ 1000000) here (chamber-limits I K can c known).opens in
    let no_turn : begun_turn I P M c ≡ None = ap (λ k. turn_for P M k (next_place P M c)) (sym (is ∙ here)) ∙ sym turn ∙ none in
    record { opens = subst (λ o. (turned_where o (chamber_after I (kept_of P M) c)).opens ≤ 1000000) (sym no_turn) small }
