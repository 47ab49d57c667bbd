-- An accepted event makes the history longer by one; a refused one leaves the book.
use Rattle.std.proofs.Common.{◌≡◌, ◌+◌, [], ◌∷◌, length, length-append, sym, ap, ◌∙◌, subst, arith, false, cond, true≢false}
use Rattle.std.proofs.lemmas.Bool.{OnFalse_from}
use Rattle.std.specs.Option.{option_map_or}
use Rattle.std.specs.Bool.{OnFalse}
use Rattle.book_rules.specs.Book.{Book}
use Rattle.book_rules.specs.Events as machine
use Rattle.book_rules.proofs.StepLemmas.{entry_of, IsStep, Refused, Accepted, each-step}
use Rattle.book_core.specs.declared.reply.Reply.{Reply}
use Rattle.book_core.specs.Replies.{Answers, Does, Steps, Stays}
use Rattle.search_book.specs.declared.event.Event.{Event}
use Rattle.search_book.specs.declared.event.Event.TheVariants as event
use Rattle.search_book.specs.Replies.{is_accepting, accepted}
use Rattle.search_book.specs.Applied.{Applies}

pub record Counts (old : Book) (r : Reply) (new : Book) : Type 0 where
  pub count : length new.history ≡ length old.history + accepted r
  pub case : new.case ≡ old.case
  pub refused : is_accepting r ≡ false → new ≡ old

leaves : (old : Book) (r : Reply) (new : Book) → is_accepting r ≡ false → new ≡ old → Counts old r new
leaves old r new said same =
    let none : accepted r ≡ 0 = ap (λ t. cond t 1 0) said in
    let long = ap (λ (b : Book). length b.history) same in
    record { count = omega (arith, none, long); case = ap (λ (b : Book). b.case) same; refused = λ _. same }

pub answers-count : (old : Book) (e : machine.Event) (r : Reply) (new : Book) → Answers old e r new → Counts old r new
answers-count old e r new answers =
    let same_test : is_accepting r ≡ machine.is_acceptance answers.answer = ap (λ a. option_map_or machine.is_acceptance a false) answers.said in
    elim (subst (IsStep old e) answers.same (each-step (λ _ _. answers.found) old e)) [
      | Refused said same ↦ leaves old r new (same_test ∙ said) same
      | Accepted done ↦
          let one_more : accepted r ≡ 1 = ap (λ t. cond t 1 0) (same_test ∙ done.accepted) in
          let long = ap length done.history ∙ length-append old.history (entry_of e ∷ []) in
          record { count = omega (arith, one_more, long); case = done.case; refused = λ said. absurd (true≢false (sym done.accepted ∙ sym same_test ∙ said)) }
    ]

does-count : (old : Book) (e : machine.Event) (r : Reply) (new : Book) → Does old e r new → Counts old r new
does-count old e r new (Steps answers) = answers-count old e r new answers
does-count old e r new (Stays wants) = leaves old r new (ap is_accepting wants.want) wants.same

pub applies-count : (old : Book) (e : Event) (r : Reply) (new : Book) → Applies old e r new → Counts old r new
applies-count old (event.Take w) r new h = answers-count old (machine.take w) r new h.step
applies-count old (event.Split id) r new h = does-count old (machine.split id) r new h
applies-count old (event.Close id why) r new h = answers-count old (machine.close id why) r new h
applies-count old (event.Post cut) r new h = does-count old (machine.post cut.value) r new h
applies-count old (event.Park id chamber place hard) r new h = answers-count old (machine.park id chamber place hard.value.deck hard.value.turns) r new h
applies-count old (event.Replace plan) r new h = does-count old (machine.replace plan.value) r new h
applies-count old (event.PostPrices prices) r new h = does-count old (machine.post_prices prices.value) r new h
applies-count old (event.Release w) r new h = answers-count old (machine.release w) r new h

pub on-refused : (old : Book) (e : Event) (r : Reply) (new : Book) → Applies old e r new → OnFalse (is_accepting r) (new ≡ old)
on-refused old e r new h = OnFalse_from (is_accepting r) (new ≡ old) (applies-count old e r new h).refused
