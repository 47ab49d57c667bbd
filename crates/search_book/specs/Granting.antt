-- The slot that a taking gives, beside the node that is next ahead.
use Rattle.std.specs.Prelude.{ℕ, ◌≡◌, true, List, [], ◌∷◌, Ok, Err}
use Rattle.std.specs.declared.result.Result.{Result}
use Rattle.master_branch.specs.Node.{IsNodeOf}
use Rattle.lock_rules.specs.Node.{Node}
use Rattle.book_rules.specs.Book.{Book, slot_at, is_held}
use Rattle.book_core.specs.declared.reply.Grant.{Grant}
use Rattle.book_core.specs.declared.reply.Grant.TheVariants as grant
use Rattle.search_book.specs.declared.ahead.Ahead.{Ahead}
use Rattle.search_book.specs.declared.next.Next.{Next}
use Rattle.search_book.specs.Following.{counted}

-- how many events a taking accepts
abbrev pub granted : Grant → ℕ
granted (grant.Slot id) = 1
granted _ = 0

-- a worker holds slot id, which has this node
pub record IsHeldAt (b : Book) (id : ℕ) (node : Node) : Type 0 where
  pub held : is_held (slot_at b id).state ≡ true
  pub same : node ≡ (slot_at b id).node
  pub of : IsNodeOf b.case.instance node

-- the same of the first of these
abbrev pub IsFirstAt : Book → ℕ → List Ahead → Type 0
IsFirstAt b id [] = ⊥
IsFirstAt b id (a ∷ rest) = IsHeldAt b id a.foreseen.node

-- no slot was given that has the first of these
pub record IsAstray (b : Book) (g : Grant) (rest : List Ahead) : Type 0 where
  pub off : (id : ℕ) → g ≡ grant.Slot id → IsFirstAt b id rest → ⊥

-- how many events were accepted before the next node was taken, or in all
abbrev pub passed : Result ℕ Next → ℕ
passed (Ok taken) = 2
passed (Err next) = counted next
