use Rattle.std.proofs.Common.{◌∷◌, ◌++◌, ◌<◌, List, [], length, take, drop, sym, ap, subst, ◌∙◌}
use Rattle.std.proofs.lemmas.List.{take_rest}
use Rattle.std.specs.List.{list_any}
use Rattle.lock_model.specs.declared.limits.TheConstants.{CLOSURES}
use Rattle.lock_model.specs.Closures.{AreClosures}
use Rattle.instance_text.specs.Closing.{share_a_minute}
use Rattle.lock_model.specs.declared.closure.Closure.{Closure}
use Rattle.instance_text.proofs.ClosureLemmas.{put_closure-kept, put_front, put_middle, put_back}
use Rattle.instance_text.proofs.closing_line.put_closure.Goals as goal

pub append-requires : goal.append-requires
append-requires c =
    let others = c.as_slice-others.result.now in
    let kept = subst (λ n. AreClosures (take n others ++ c.args.closure ∷ drop n others)) (sym c.place_at-place.ensures.value)
    (put_closure-kept c.args.closure others c.as_slice-others.ensures.kept (subst (λ (xs : List Closure). length xs < CLOSURES) (sym c.as_slice-others.ensures.value) c.requires.room) c.requires.good
    (ap (list_any (share_a_minute c.args.closure)) c.as_slice-others.ensures.value ∙ c.requires.apart)) in
    put_front c.args.closure others c.new-all.result c.place_at-place.result kept c.new-all.ensures

pub push-requires : goal.push-requires
push-requires c =
    let others = c.as_slice-others.result.now in
    let kept = subst (λ n. AreClosures (take n others ++ c.args.closure ∷ drop n others)) (sym c.place_at-place.ensures.value)
    (put_closure-kept c.args.closure others c.as_slice-others.ensures.kept (subst (λ (xs : List Closure). length xs < CLOSURES) (sym c.as_slice-others.ensures.value) c.requires.room) c.requires.good
    (ap (list_any (share_a_minute c.args.closure)) c.as_slice-others.ensures.value ∙ c.requires.apart)) in
    let step = put_middle c.args.closure others c.append.new.closures c.place_at-place.result kept (c.append.ensures ∙ ap (λ xs. xs ++ take c.place_at-place.result others) c.new-all.ensures) in
    record { room = step.0; good = step.1; later = step.2 }

pub append-requires-2 : goal.append-requires-2
append-requires-2 c =
    let others = c.as_slice-others.result.now in
    let kept = subst (λ n. AreClosures (take n others ++ c.args.closure ∷ drop n others)) (sym c.place_at-place.ensures.value)
    (put_closure-kept c.args.closure others c.as_slice-others.ensures.kept (subst (λ (xs : List Closure). length xs < CLOSURES) (sym c.as_slice-others.ensures.value) c.requires.room) c.requires.good
    (ap (list_any (share_a_minute c.args.closure)) c.as_slice-others.ensures.value ∙ c.requires.apart)) in
    put_back c.args.closure others c.push.new.self _ c.place_at-place.result kept
    (c.push.ensures ∙ ap (λ xs. xs ++ c.args.closure ∷ []) (c.append.ensures ∙ ap (λ xs. xs ++ take c.place_at-place.result others) c.new-all.ensures))
    (take_rest others c.place_at-place.result)
