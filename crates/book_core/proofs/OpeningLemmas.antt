-- The tables of a book that is opened.
use Rattle.std.proofs.Common.{◌≡◌, ◌≢◌, ℕ, zero, suc, ◌<◌, [], ◌∷◌, refl, sym, ◌∙◌, subst, arith, Bool, true, false, cond, replicate, None}
use Rattle.book_rules.specs.declared.book.SlotState.{SlotState}
use Rattle.book_rules.specs.declared.book.SlotState.TheVariants as slot
use Rattle.book_rules.specs.Book.{Slot}
use Rattle.book_core.specs.Tables.{state_in, hand_at}
use Rattle.std.proofs.lemmas.Option.{none-some}
use Rattle.std.specs.Prelude.{IfSome}
use Rattle.std.proofs.Common.{List}
use Rattle.lock_model.specs.declared.limits.TheConstants.{WORKERS_AND_DRIVER}
use Rattle.lock_model.specs.declared.instance.Instance.{Instance}
use Rattle.book_core.specs.Hands.{held_at, IsHand, AreNodes}
use Rattle.book_core.specs.Keeps.{AreTables}
use Rattle.closing_rules.specs.declared.grounds.Ground.TheVariants as by

no-hand : (n w : ℕ) → hand_at (replicate n None) w ≡ None
no-hand zero w = refl
no-hand (suc n) zero = refl
no-hand (suc n) (suc w) = no-hand n w

pub opening-nodes : (I : Instance) (slots : List Slot) → AreNodes I slots (replicate WORKERS_AND_DRIVER None)
opening-nodes I slots = record { each = empty WORKERS_AND_DRIVER }
  where
    empty : (n w : ℕ) → IfSome (held_at (replicate n None) w) (IsHand I slots)
    empty zero w = tt
    empty (suc n) zero = tt
    empty (suc n) (suc w) = empty n w

module _ (s : Slot) (t : Bool) (is : s.state ≡ cond t (slot.Closed by.Bound) slot.Fresh) where
  -- the one slot is closed or Fresh, and behind it there is none
  at : (P : SlotState → Type 0) → P (slot.Closed by.Bound) → P slot.Fresh → (id : ℕ) → P (state_in (s ∷ []) id)
  at P closed fresh zero = by_test t is
    where
      by_test : (u : Bool) → s.state ≡ cond u (slot.Closed by.Bound) slot.Fresh → P s.state
      by_test true e = subst P (sym e) closed
      by_test false e = subst P (sym e) fresh
  at P closed fresh (suc id) = closed

  pub opening-tables : AreTables (s ∷ []) (replicate WORKERS_AND_DRIVER false) (replicate WORKERS_AND_DRIVER None) [] []
  opening-tables = record {
    hands_are = record {
      nine = refl;
      held = λ w id e. absurd (none-some id (sym (no-hand WORKERS_AND_DRIVER w) ∙ e));
      hand = λ w id e. absurd (at (λ state. state ≢ slot.Held w) (closed-held w) (fresh-held w) id e);
    };
    back_are = record { rising = tt; each = λ id among. absurd among; all = λ id e. absurd (at (λ state. state ≢ slot.Back) closed-back fresh-back id e) };
    few = omega arith;
    waiting_are = record {
      each = λ k known. absurd (omega (arith, known));
      rising = λ k l less known. absurd (omega (arith, known));
      all = λ id some e. absurd (behind id some e);
    };
  }
    where
      closed-held : (w : ℕ) → (slot.Closed by.Bound) ≢ slot.Held w
      closed-held w e = cc

      fresh-held : (w : ℕ) → slot.Fresh ≢ slot.Held w
      fresh-held w e = cc

      closed-back : (slot.Closed by.Bound) ≢ slot.Back
      closed-back e = cc

      fresh-back : slot.Fresh ≢ slot.Back
      fresh-back e = cc

      closed-fresh : (slot.Closed by.Bound) ≢ slot.Fresh
      closed-fresh e = cc

      behind : (id : ℕ) → 0 < id → state_in (s ∷ []) id ≡ slot.Fresh → ⊥
      behind zero some e = absurd (omega (arith, some))
      behind (suc id) some e = closed-fresh e
