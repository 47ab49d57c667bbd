-- A grant is a reply to a taking, and what it gives is held.
use Rattle.std.proofs.Common.{◌≡◌, ℕ, suc, ◌≤◌, refl, sym, ap, ◌∙◌, arith, Some, None, IfSome, IfNone}
use Rattle.std.specs.declared.option.Option.{Option}
use Rattle.lock_model.specs.declared.limits.TheConstants.{WORKERS}
use Rattle.book_rules.specs.Book.{Book}
use Rattle.book_rules.specs.Ends.{HoldsNothing}
use Rattle.book_rules.specs.Events.{take}
use Rattle.book_rules.specs.Room.{room_of}
use Rattle.book_core.specs.declared.reply.Grant.{Grant}
use Rattle.book_core.specs.declared.reply.Grant.TheVariants as grant
use Rattle.book_core.specs.declared.reply.Reply.{Reply}
use Rattle.book_core.specs.declared.reply.Reply.TheVariants as reply
use Rattle.book_core.specs.declared.reply.Refusal.TheVariants as refusing
use Rattle.book_core.specs.Keeps.{IsSound}
use Rattle.book_core.specs.Replies.{Answers, Grants, grant_told, told}
use Rattle.lock_rules.specs.Node.{Node}
use Rattle.solve_workers.specs.Driving.{IsDriven}
use Rattle.solve_workers.specs.Holding.{IsRunning, IsDone}
use Rattle.solve_workers.specs.Holds.{HoldsSlot, node_at}
use Rattle.solve_workers.specs.Told.{slot_in, node_in}
use Rattle.solve_workers.proofs.DrivenLemmas.{driven_by}
use Rattle.solve_workers.proofs.TakeLemmas.{taken_holds, taken_falls, refused_done, refused_free}

-- the reply that the grant stands for
abbrev reply_of : Book → Grant → Reply
reply_of b (grant.Slot id) = reply.Node id (node_at b id)
reply_of b (grant.Ended worker) = reply.Refused (refusing.Ended worker)
reply_of b (grant.Holds id) = reply.Refused (refusing.Holds id)
reply_of b (grant.NodesSpent used) = reply.Refused (refusing.NodesSpent used)
reply_of b grant.Idle = reply.Refused refusing.Idle
reply_of b grant.Done = reply.Refused refusing.Done

told-reply : (b : Book) (g : Grant) → told (reply_of b g) ≡ Some (grant_told b g)
told-reply b (grant.Slot id) = refl
told-reply b (grant.Ended worker) = refl
told-reply b (grant.Holds id) = refl
told-reply b (grant.NodesSpent used) = refl
told-reply b grant.Idle = refl
told-reply b grant.Done = refl

abbrev with-node : Book → Option ℕ → Option (ℕ × Node)
with-node b None = None
with-node b (Some id) = Some (id, node_at b id)

node-in : (b : Book) (g : Grant) → node_in (reply_of b g) ≡ with-node b (slot_in g)
node-in b (grant.Slot id) = refl
node-in b (grant.Ended worker) = refl
node-in b (grant.Holds id) = refl
node-in b (grant.NodesSpent used) = refl
node-in b grant.Idle = refl
node-in b grant.Done = refl

if-some : (P : ℕ → Type 0) (o : Option ℕ) → ((id : ℕ) → o ≡ Some id → P id) → IfSome o P
if-some P None f = tt
if-some P (Some id) f = f id refl

if-none : (P : Type 0) (o : Option ℕ) → (o ≡ None → P) → IfNone o P
if-none P None f = f refl
if-none P (Some id) f = tt

module _ (b : Book) (g : Grant) (new : Book) (sound : IsSound b) (grants : Grants b WORKERS g new) (o : Option ℕ) (is : o ≡ slot_in g) where
  answers : Answers b (take WORKERS) (reply_of new g) new
  answers = record { found = grants.found; judged = tt; answer = grant_told new g; said = told-reply new g; same = grants.same }

  given : (id : ℕ) → o ≡ Some id → node_in (reply_of new g) ≡ Some (id, node_at new id)
  given id e = node-in new g ∙ ap (with-node new) (sym is ∙ e)

  refused : o ≡ None → node_in (reply_of new g) ≡ None
  refused e = node-in new g ∙ ap (with-node new) (sym is ∙ e)

  pub grant_driven : IsDriven b new
  grant_driven = driven_by b (take WORKERS) (reply_of new g) new sound (omega arith) refl answers

  module _ (free : HoldsNothing b) (running : IsRunning b) where
    pub grant_holds : IfSome o (HoldsSlot new)
    grant_holds = if-some (HoldsSlot new) o (λ id e. taken_holds b sound free running (reply_of new g) new answers id (node_at new id) (given id e))

    pub grant_falls : IfSome o (λ _. suc (room_of new) ≤ room_of b)
    grant_falls = if-some (λ _. suc (room_of new) ≤ room_of b) o (λ id e. taken_falls b sound free running (reply_of new g) new answers id (node_at new id) (given id e))

    pub grant_done : IfNone o (IsDone new)
    grant_done = if-none (IsDone new) o (λ e. refused_done b sound free running (reply_of new g) new answers (refused e))

    pub grant_free : IfNone o (HoldsNothing new)
    grant_free = if-none (HoldsNothing new) o (λ e. refused_free b sound free running (reply_of new g) new answers (refused e))
