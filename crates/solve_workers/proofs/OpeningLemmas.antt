-- A book that was just opened.
use Rattle.std.proofs.Common.{◌≡◌, ℕ, suc, zero, ◌<◌, ◌≤◌, List, [], ◌∷◌, ◌++◌, length, map, take, slice_index_or, refl, sym, ap, ◌∙◌, subst, arith, Bool, true, false, not, cond, nat_le, IfOk, Ok, Err, Some}
use Rattle.std.proofs.lemmas.Option.{none-some}
use Rattle.std.specs.declared.result.Result.{Result}
use Rattle.std.specs.Prelude.{Box}
use Rattle.std.proofs.lemmas.List.{append-nil, append_assoc, map-append, take_all}
use Rattle.std.proofs.Math.Seq.{take-suc}
use Rattle.lock_model.specs.declared.instance.Instance.{Instance}
use Rattle.lock_model.specs.declared.plan.Plan.{Plan}
use Rattle.lock_rules.specs.Plan.{cost_of}
use Rattle.lock_rules.specs.Unfit.{HasNoUnfit, IsFirstUnfit}
use Rattle.refute_rules.specs.Cuts.{Cut}
use Rattle.first_plan.specs.Merging.{IsRefusal}
use Rattle.first_plan.specs.declared.opening.FirstError.{FirstError}
use Rattle.first_plan.specs.declared.opening.FirstError.TheVariants.{Unfit}
use Rattle.book_rules.specs.declared.book.Entry.TheVariants as entry
use Rattle.book_rules.specs.Book.{Book, Case, opening_book, slot_at, is_held, bound_at}
use Rattle.lock_rules.specs.Node.{root}
use Rattle.book_rules.specs.Cover.{IsOwnCut}
use Rattle.book_rules.specs.Ends.{HoldsNothing, EndsWell}
use Rattle.book_rules.specs.Events as machine
use Rattle.book_rules.specs.Events.{post}
use Rattle.book_rules.specs.Step
use Rattle.book_rules.specs.Tests.{is_own_cut}
use Rattle.book_rules.proofs.WorkerLemmas.{new-free}
use Rattle.book_core.specs.declared.reply.Reply.{Reply}
use Rattle.book_core.specs.Replies.{Does, Steps, Stays}
use Rattle.solve_workers.specs.declared.solving.Solved.{Solved}
use Rattle.solve_workers.specs.Told.{number_in}
use Rattle.solve_workers.specs.Opening.{IsReady, with_cuts, opened_with}
use Rattle.solve_workers.proofs.ToldLemmas.{Answer, number_of, told-number}

free : (case : Case) (plan : Plan) → HoldsNothing (opening_book case plan)
free case plan = record { none = by_number }
  where
    by_number : (id : ℕ) → id < 1 → is_held (slot_at (opening_book case plan) id).state ≡ false
    by_number zero here = new-free (nat_le (cost_of case.instance plan) (bound_at case.instance root))
    by_number (suc id) here = absurd (omega (arith, here))

-- ---- the given cuts

post-just : (b : Book) (cut : Cut) (number : ℕ) (t : Bool) (out : Book × Answer) → cond t (b, machine.OtherDeck) (Step.posted b cut) ≡ out → number_of out.1 ≡ Some number → out.0 ≡ with_cuts b (cut ∷ [])
post-just b cut number true out e said = absurd (none-some number (ap (λ (o : Book × Answer). number_of o.1) e ∙ said))
post-just b cut number false out e said = ap (λ (o : Book × Answer). o.0) (sym e)

-- a posted cut is the one change
pub posted_just : (b : Book) (cut : Cut) (r : Reply) (new : Book) (number : ℕ) → Does b (post cut) r new → number_in r ≡ Some number → new ≡ with_cuts b (cut ∷ [])
posted_just b cut r new number (Stays wants) e = absurd (none-some number (sym (ap number_in wants.want) ∙ e))
posted_just b cut r new number (Steps answers) e = post-just b cut number (not (is_own_cut b.case.instance cut)) (new, answers.answer) answers.same (told-number r answers.answer answers.said ∙ e)

pub with_none : (b : Book) → with_cuts b [] ≡ b
with_none b = (λ j. record b { cuts = append-nil b.cuts j; history = append-nil b.history j })

-- one cut after others
pub with_more : (b : Book) (cs : List Cut) (c : Cut) → with_cuts (with_cuts b cs) (c ∷ []) ≡ with_cuts b (cs ++ c ∷ [])
with_more b cs c =
    let cuts : (b.cuts ++ cs) ++ c ∷ [] ≡ b.cuts ++ (cs ++ c ∷ []) = append_assoc b.cuts cs (c ∷ []) in
    let entries : (b.history ++ map (λ _. entry.Post) cs) ++ entry.Post ∷ [] ≡ b.history ++ map (λ _. entry.Post) (cs ++ c ∷ []) =
    append_assoc b.history (map (λ _. entry.Post) cs) (entry.Post ∷ []) ∙ ap (λ es. b.history ++ es) (sym (map-append (λ _. entry.Post) cs (c ∷ []))) in
    (λ j. record b { cuts = cuts j; history = entries j })

-- the next cut of a list is posted
pub posted_next : (old b new : Book) (cuts : List Cut) (k : ℕ) (d c : Cut) → k < length cuts → slice_index_or cuts k d ≡ c → b ≡ with_cuts old (take k cuts) → new ≡ with_cuts b (c ∷ []) → new ≡ with_cuts old (take (suc k) cuts)
posted_next old b new cuts k d c here at so_far next =
    let grown : take (suc k) cuts ≡ take k cuts ++ c ∷ [] = take-suc cuts k d here ∙ ap (λ x. take k cuts ++ x ∷ []) at in
    next ∙ ap (λ x. with_cuts x (c ∷ [])) so_far ∙ with_more old (take k cuts) c ∙ ap (with_cuts old) (sym grown)

pub posted_whole : (old b : Book) (cuts : List Cut) (k : ℕ) → length cuts ≤ k → b ≡ with_cuts old (take k cuts) → b ≡ with_cuts old cuts
posted_whole old b cuts k past so_far = so_far ∙ ap (with_cuts old) (take_all k cuts past)

-- the book is of the same case, so the next cut is of it too
pub own_still : (old b : Book) (cs : List Cut) (c : Cut) → b ≡ with_cuts old cs → IsOwnCut old.case.instance c → IsOwnCut b.case.instance c
own_still old b cs c is own = subst (λ (x : Book). IsOwnCut x.case.instance c) (sym is) own

-- the driver may take on a book that was just opened
pub opened_ready : (case : Case) (plan : Plan) (cuts : List Cut) (cost : ℕ) (b : Book) → cost_of case.instance plan ≤ cost → b ≡ opened_with case plan cuts → IsReady case cost b
opened_ready case plan cuts cost b costs is = subst (IsReady case cost) (sym is) (record { case_is = refl; opening = costs; free = record { none = (free case plan).none }; running = record { running = refl } })

pub opened_ready_ok : {E Z : Type 0} (case : Case) (plan : Plan) (cuts : List Cut) (cost : ℕ) (r : Result (Box Book Z) E) → cost_of case.instance plan ≤ cost → IfOk r (λ b. b.value ≡ opened_with case plan cuts) → IfOk r (λ b. IsReady case cost b.value)
opened_ready_ok case plan cuts cost (Ok b) costs is = opened_ready case plan cuts cost b.value costs is
opened_ready_ok case plan cuts cost (Err e) costs is = tt

-- the end is as good with a higher limit
pub ends_within : (low high : ℕ) (b : Book) → low ≤ high → EndsWell low b → EndsWell high b
ends_within low high b less ends = record { free = ends.free; opening = let most = ends.opening in omega (arith, most, less); parked = ends.parked; left = ends.left }

pub ends_within_ok : {E : Type 0} (low high : ℕ) (r : Result Solved E) → low ≤ high → IfOk r (λ solved. EndsWell low solved.book.value) → IfOk r (λ solved. EndsWell high solved.book.value)
ends_within_ok low high (Ok solved) less ends = ends_within low high solved.book.value less ends
ends_within_ok low high (Err e) less ends = tt

-- where each ship fits some chamber, none is refused
never-unfit : (I : Instance) (s : ℕ) → HasNoUnfit I → IsFirstUnfit I s → ⊥
never-unfit I s fit first = let some = fit.fit s first.known in first.unfit some.chamber some.known some.fits

pub never_refused : (I : Instance) (e : FirstError) (s : ℕ) → HasNoUnfit I → IsRefusal I e → e ≡ Unfit s → ⊥
never_refused I e s fit refusal is = never-unfit I s fit (subst (IsRefusal I) is refusal)
