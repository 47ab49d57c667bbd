use Rattle.std.proofs.Common.{◌≡◌, false, true, sym, ap, ◌∙◌}
use Rattle.lock_model.specs.declared.instance.Instance.{Instance}
use Rattle.book_rules.specs.Tests.{has_shape}
use Rattle.book_core.proofs.PostLemmas.{prices-other, prices-sound, prices-done}
use Rattle.book_core.proofs.book.Book.post_prices.Goals as goal

pub returns-then-not-are_shaped : goal.returns-then-not-are_shaped
returns-then-not-are_shaped c =
    let I = c.args.self.now.case.instance in
    let other : has_shape I c.args.prices.now ≡ false = ap (λ (J : Instance). has_shape J c.args.prices.now) (sym c.instance.ensures) ∙ sym c.are_shaped.ensures ∙ c.if-not-are_shaped.true in
    prices-other c.args.self.now c.args.prices.now other

pub keep_prices-requires : goal.keep_prices-requires
keep_prices-requires c =
    let I = c.args.self.now.case.instance in
    let shaped : has_shape I c.args.prices.now ≡ true = ap (λ (J : Instance). has_shape J c.args.prices.now) (sym c.instance.ensures) ∙ sym c.are_shaped.ensures ∙ c.if-not-are_shaped.false in
    prices-sound c.args.self.now c.args.prices.now c.prices_len-number.ensures.sound c.keep_to_limits.ensures shaped

pub returns-in-Ok : goal.returns-in-Ok
returns-in-Ok c =
    let I = c.args.self.now.case.instance in
    let shaped : has_shape I c.args.prices.now ≡ true = ap (λ (J : Instance). has_shape J c.args.prices.now) (sym c.instance.ensures) ∙ sym c.are_shaped.ensures ∙ c.if-not-are_shaped.false in
    prices-done c.args.self.now c.args.prices.now c.prices_len-number.result c.keep_prices.new.self shaped c.prices_len-number.ensures.value c.in-Ok.ensures.some
