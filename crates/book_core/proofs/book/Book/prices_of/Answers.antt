use Rattle.std.proofs.Common.{◌≡◌, ℕ, List, length, Some, None, sym, ap, ◌∙◌, subst, slice_index_or}
use Rattle.std.specs.Borrow.{Bor}
use Rattle.std.specs.Prelude.{IfSome, IfNone, is_some, slice_get}
use Rattle.std.specs.declared.option.Option.{Option}
use Rattle.std.proofs.Math.Dec.{ltb}
use Rattle.std.proofs.lemmas.Bool.{ltb-true, ltb-false}
use Rattle.std.proofs.lemmas.Option.{slice_get-get_or, slice_get_past}
use Rattle.kept_prices.specs.declared.kept.KeptPrices.{KeptPrices}
use Rattle.book_rules.specs.Book.{Book}
use Rattle.book_core.proofs.book.Book.prices_of.Goals as goal

-- what a look at a place tells of a list
there : {X : Type 0} (xs : List X) (k : ℕ) (r : Option (Bor X)) → is_some r ≡ ltb k (length xs) → IfSome r (λ x. x.now ≡ slice_index_or xs k x.now) → IfSome r (λ x. slice_get xs k ≡ Some x.now)
there xs k (Some x) is at = slice_get-get_or xs k x.now (ltb-true k (length xs) (sym is)) ∙ ap Some (sym at)
there xs k None is at = tt

nowhere : {X : Type 0} (xs : List X) (k : ℕ) (r : Option (Bor X)) → is_some r ≡ ltb k (length xs) → IfNone r (slice_get xs k ≡ None)
nowhere xs k (Some x) is = tt
nowhere xs k None is = slice_get_past xs k (ltb-false k (length xs) (sym is))

pub returns-clause-some : goal.returns-clause-some
returns-clause-some c =
    let look = c.get.ensures.lookup in
    let same : c.deref.result.now ≡ c.args.self.now.prices = c.deref.ensures.value ∙ ap (λ (b : Book). b.prices) c.self.view_is in
    subst (λ (xs : List KeptPrices). IfSome c.get.result (λ x. slice_get xs c.args.number ≡ Some x.now)) same (there c.deref.result.now c.args.number c.get.result look.0 look.1)

pub returns-clause-none : goal.returns-clause-none
returns-clause-none c =
    let same : c.deref.result.now ≡ c.args.self.now.prices = c.deref.ensures.value ∙ ap (λ (b : Book). b.prices) c.self.view_is in
    subst (λ (xs : List KeptPrices). IfNone c.get.result (slice_get xs c.args.number ≡ None)) same (nowhere c.deref.result.now c.args.number c.get.result c.get.ensures.lookup.0)
