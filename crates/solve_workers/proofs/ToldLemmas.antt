-- What a reply of the book tells is what the machine's reply tells.
use Rattle.std.proofs.Common.{◌≡◌, ℕ, refl, sym, ap, ◌∙◌, Bool, true, false, Some, None}
use Rattle.std.specs.declared.option.Option.{Option}
use Rattle.mooring_rules.specs.declared.breaks.BrokenPlan.{BrokenPlan}
use Rattle.lock_rules.specs.Node.{Node}
use Rattle.book_rules.specs.Events as machine
use Rattle.book_core.specs.declared.reply.Refusal.{Refusal}
use Rattle.book_core.specs.declared.reply.Refusal.TheVariants as refusing
use Rattle.book_core.specs.declared.reply.Reply.{Reply}
use Rattle.book_core.specs.declared.reply.Reply.TheVariants as reply
use Rattle.book_core.specs.Replies.{refusal_told, told}
use Rattle.solve_workers.specs.Told.{node_in, number_in, is_closed, is_made}

abbrev pub Answer : Type 0
Answer = machine.Reply BrokenPlan

abbrev pub closes : Answer → Bool
closes machine.Closed = true
closes _ = false

abbrev pub makes : Answer → Bool
makes (machine.Made count) = true
makes _ = false

-- of an answer that may be missing
abbrev among : (Answer → Bool) → Option Answer → Bool
among test None = false
among test (Some a) = test a

abbrev pub given_in : Answer → Option (ℕ × Node)
given_in (machine.Node id node) = Some (id, node)
given_in _ = None

abbrev given : Option Answer → Option (ℕ × Node)
given None = None
given (Some a) = given_in a

abbrev pub number_of : Answer → Option ℕ
number_of (machine.Posted number) = Some number
number_of _ = None

abbrev numbered : Option Answer → Option ℕ
numbered None = None
numbered (Some a) = number_of a

-- a refusal tells none of these
refused-closes : (why : Refusal) → among closes (refusal_told why) ≡ false
refused-closes refusing.NoMemory = refl
refused-closes _ = refl

refused-makes : (why : Refusal) → among makes (refusal_told why) ≡ false
refused-makes refusing.NoMemory = refl
refused-makes _ = refl

refused-gives : (why : Refusal) → given (refusal_told why) ≡ None
refused-gives refusing.NoMemory = refl
refused-gives _ = refl

refused-numbers : (why : Refusal) → numbered (refusal_told why) ≡ None
refused-numbers refusing.NoMemory = refl
refused-numbers _ = refl

closed-by : (r : Reply) → among closes (told r) ≡ is_closed r
closed-by reply.Closed = refl
closed-by (reply.Refused why) = refused-closes why
closed-by _ = refl

made-by : (r : Reply) → among makes (told r) ≡ is_made r
made-by (reply.Made count) = refl
made-by (reply.Refused why) = refused-makes why
made-by _ = refl

node-by : (r : Reply) → given (told r) ≡ node_in r
node-by (reply.Node id node) = refl
node-by (reply.Refused why) = refused-gives why
node-by _ = refl

number-by : (r : Reply) → numbered (told r) ≡ number_in r
number-by (reply.Posted number) = refl
number-by (reply.Refused why) = refused-numbers why
number-by _ = refl

module _ (r : Reply) (a : Answer) (said : told r ≡ Some a) where
  pub told-closed : closes a ≡ is_closed r
  told-closed = sym (ap (among closes) said) ∙ closed-by r

  pub told-made : makes a ≡ is_made r
  told-made = sym (ap (among makes) said) ∙ made-by r

  pub told-node : given_in a ≡ node_in r
  told-node = sym (ap given said) ∙ node-by r

  pub told-number : number_of a ≡ number_in r
  told-number = sym (ap numbered said) ∙ number-by r
