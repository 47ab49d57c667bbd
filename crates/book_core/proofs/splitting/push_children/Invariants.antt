use Rattle.std.proofs.Common.{◌≡◌, ◌+◌, ◌++◌, take, vec_len, vec_capacity}
use Rattle.book_core.specs.Growing.{stored_children}
use Rattle.book_core.proofs.splitting.push_children.Given as goal

abbrev pub invariant-loop-number : goal.invariant-loop-number
invariant-loop-number l = record {
  items : l.slots.items ≡ l.initial.slots.items ++ stored_children l.cost l.parent 0 (take l.number l.bounds);
  len : vec_len l.slots ≡ vec_len l.initial.slots + l.number;
  capacity : vec_capacity l.slots ≡ vec_capacity l.initial.slots;
}
