-- What take and release answer.
use Rattle.std.proofs.Common.{◌≡◌, ◌≢◌, ℕ, suc, ◌≤◌, refl, sym, ap, ◌∙◌, subst, Bool, true, false, cond, nat_eq, slice_index_or, Some, None, ne_eqb, eq-eqb}
use Rattle.lock_model.specs.declared.limits.TheConstants.{WORKERS}
use Rattle.book_rules.specs.Book.{Book, Case, slot_at, first_slot, has_slot, is_back, is_held, is_held_by}
use Rattle.book_rules.specs.Events as machine
use Rattle.book_rules.specs.Events.{take, release}
use Rattle.book_rules.specs.NextSlot.{next_fresh}
use Rattle.book_rules.specs.Step.{step, given, take_free, take_slot, take_fresh, release_slot}
use Rattle.book_rules.proofs.SlotLemmas.{next_fresh-at}
use Rattle.book_rules.proofs.StepLemmas.{IsStep, Refused, Accepted, each-step}
use Rattle.book_core.specs.declared.reply.Grant.{Grant}
use Rattle.book_core.specs.declared.reply.Grant.TheVariants as grant
use Rattle.book_core.specs.declared.reply.Reply.{Reply}
use Rattle.book_core.specs.declared.reply.Reply.TheVariants as reply
use Rattle.book_core.specs.declared.reply.Refusal.TheVariants as refusing
use Rattle.book_core.specs.Changes.{IsNextFree, IsNew, handed, returned, finished}
use Rattle.book_core.specs.Keeps.{IsSound}
use Rattle.book_core.specs.Replies.{Answers, Grants, HasNode, grant_told, told}
use Rattle.book_core.proofs.CloseLemmas.{Out, none, pick-true, pick-false}
use Rattle.book_core.proofs.SoundLemmas.{step-sound}

module _ (b : Book) (w : ℕ) where
  abbrev has_ended : Bool
  has_ended = slice_index_or b.ended w false

  -- ---- take

  pub take-ended : has_ended ≡ true → Grants b w (grant.Ended w) b
  take-ended e = record { found = None; same = pick-true has_ended (b, machine.Ended w) (take_free b w (first_slot b (is_held_by w))) e }

  way-free : has_ended ≡ false → step (λ _ _. none) b (take w) ≡ take_free b w (first_slot b (is_held_by w))
  way-free e = pick-false has_ended (b, machine.Ended w) (take_free b w (first_slot b (is_held_by w))) e

  pub take-holds : (id : ℕ) → has_ended ≡ false → first_slot b (is_held_by w) ≡ Some id → Grants b w (grant.Holds id) b
  take-holds id e held = record { found = None; same = way-free e ∙ ap (take_free b w) held }

  way-slot : has_ended ≡ false → first_slot b (is_held_by w) ≡ None → step (λ _ _. none) b (take w) ≡ take_slot b w (first_slot b is_back)
  way-slot e empty = way-free e ∙ ap (take_free b w) empty

  way-fresh : has_ended ≡ false → first_slot b (is_held_by w) ≡ None → first_slot b is_back ≡ None → step (λ _ _. none) b (take w) ≡ take_fresh b w (next_fresh b)
  way-fresh e empty back = way-slot e empty ∙ ap (take_slot b w) back

  -- nothing is open
  pub take-idle : has_ended ≡ false → first_slot b (is_held_by w) ≡ None → first_slot b is_back ≡ None → next_fresh b ≡ None → has_slot b is_held ≡ true → Grants b w grant.Idle b
  take-idle e empty back next held = record {
    found = None;
    same = way-fresh e empty back ∙ ap (take_fresh b w) next ∙ ap (λ t. (b, cond t machine.Idle machine.Done)) held;
  }

  pub take-done : has_ended ≡ false → first_slot b (is_held_by w) ≡ None → first_slot b is_back ≡ None → next_fresh b ≡ None → has_slot b is_held ≡ false → Grants b w grant.Done b
  take-done e empty back next held = record {
    found = None;
    same = way-fresh e empty back ∙ ap (take_fresh b w) next ∙ ap (λ t. (b, cond t machine.Idle machine.Done)) held;
  }

  -- a returned slot
  pub back-given : (id : ℕ) → has_ended ≡ false → first_slot b (is_held_by w) ≡ None → first_slot b is_back ≡ Some id → step (λ _ _. none) b (take w) ≡ given b w id b.used
  back-given id e empty back = way-slot e empty ∙ ap (take_slot b w) back

  -- a fresh one, if the budget isn't spent
  pub take-spent : (id used : ℕ) → used ≡ b.used → has_ended ≡ false → first_slot b (is_held_by w) ≡ None → first_slot b is_back ≡ None → next_fresh b ≡ Some id → used ≡ b.case.nodes → Grants b w (grant.NodesSpent used) b
  take-spent id used is e empty back next spent = record {
    found = None;
    same =
        way-fresh e empty back ∙ ap (take_fresh b w) next
        ∙ pick-true (nat_eq b.used b.case.nodes) (b, machine.NodesSpent b.used) (given b w id (suc b.used)) (eq-eqb b.used b.case.nodes (sym is ∙ spent))
        ∙ ap (λ n. (b, machine.NodesSpent n)) (sym is);
  }

  pub fresh-given : (id used : ℕ) → used ≡ b.used → has_ended ≡ false → first_slot b (is_held_by w) ≡ None → first_slot b is_back ≡ None → next_fresh b ≡ Some id → used ≢ b.case.nodes → (n : ℕ) → n ≡ suc used → step (λ _ _. none) b (take w) ≡ given b w id n
  fresh-given id used is e empty back next left n more =
      way-fresh e empty back ∙ ap (take_fresh b w) next
      ∙ pick-false (nat_eq b.used b.case.nodes) (b, machine.NodesSpent b.used) (given b w id (suc b.used)) (ne_eqb b.used b.case.nodes (λ h. left (is ∙ h)))
      ∙ ap (given b w id) (ap suc (sym is) ∙ sym more)

  pub is-new : (id : ℕ) → first_slot b is_back ≡ None → next_fresh b ≡ Some id → IsNextFree b id
  is-new id back next = IsNew back (next_fresh-at b id next).is

  module _ (sound : IsSound b) (known : w ≤ WORKERS) (id used : ℕ) (same : step (λ _ _. none) b (take w) ≡ given b w id used) where
    pub given-sound : IsSound (handed b id w used)
    given-sound = subst IsSound (ap (λ (o : Out). o.0) same) (step-sound b (take w) None sound known tt)

    pub given-grants : (new : Book) → (slot_at new id).node ≡ (slot_at b id).node → new ≡ handed b id w used → Grants b w (grant.Slot id) new
    given-grants new node_is new_is = record { found = None; same = same ∙ (λ i. (sym new_is i, machine.Node id (sym node_is i))) }

  -- ---- release

  pub release-ended : has_ended ≡ true → Answers b (release w) (reply.Refused (refusing.Ended w)) b
  release-ended e = record { found = None; judged = tt; answer = machine.Ended w; said = refl; same = pick-true has_ended (b, machine.Ended w) (release_slot b w (first_slot b (is_held_by w))) e }

  way-release : has_ended ≡ false → step (λ _ _. none) b (release w) ≡ release_slot b w (first_slot b (is_held_by w))
  way-release e = pick-false has_ended (b, machine.Ended w) (release_slot b w (first_slot b (is_held_by w))) e

  module _ (sound : IsSound b) (known : w ≤ WORKERS) (running : has_ended ≡ false) where
    pub returned-sound : (id : ℕ) → first_slot b (is_held_by w) ≡ Some id → IsSound (returned b id w)
    returned-sound id held = subst IsSound (ap (λ (o : Out). o.0) (way-release running ∙ ap (release_slot b w) held)) (step-sound b (release w) None sound known tt)

    pub returned-answers : (id : ℕ) (new : Book) → first_slot b (is_held_by w) ≡ Some id → new ≡ returned b id w → Answers b (release w) (reply.Released 1) new
    returned-answers id new held is = record {
      found = None;
      judged = tt;
      answer = machine.Released 1;
      said = refl;
      same = way-release running ∙ ap (release_slot b w) held ∙ ap (λ u. (u, machine.Released 1)) (sym is);
    }

    pub finished-sound : first_slot b (is_held_by w) ≡ None → IsSound (finished b w)
    finished-sound empty = subst IsSound (ap (λ (o : Out). o.0) (way-release running ∙ ap (release_slot b w) empty)) (step-sound b (release w) None sound known tt)

    pub finished-answers : (new : Book) → first_slot b (is_held_by w) ≡ None → new ≡ finished b w → Answers b (release w) (reply.Released 0) new
    finished-answers new empty is = record {
      found = None;
      judged = tt;
      answer = machine.Released 0;
      said = refl;
      same = way-release running ∙ ap (release_slot b w) empty ∙ ap (λ u. (u, machine.Released 0)) (sym is);
    }

-- ---- what came of a taking

-- the case stays
pub grants-case : (old : Book) (w : ℕ) (g : Grant) (new : Book) → Grants old w g new → new.case ≡ old.case
grants-case old w g new grants = elim (subst (IsStep old (take w)) grants.same (each-step (λ _ _. grants.found) old (take w))) [
  | Refused said same ↦ ap (λ (u : Book). u.case) same
  | Accepted done ↦ done.case
]

-- what tells of a grant is the reply to its taking
pub grants-answers : (old : Book) (w : ℕ) (g : Grant) (new : Book) → Grants old w g new → (r : Reply) → told r ≡ Some (grant_told new g) → Answers old (take w) r new
grants-answers old w g new grants r said = record { found = grants.found; judged = tt; answer = grant_told new g; said = said; same = grants.same }

pub grants-node : (old : Book) (w : ℕ) (g : Grant) (new : Book) → Grants old w g new → (r : Reply) → HasNode new.case.instance r → HasNode old.case.instance r
grants-node old w g new grants r node = subst (λ (c : Case). HasNode c.instance r) (grants-case old w g new grants) node
