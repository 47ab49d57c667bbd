use Rattle.std.proofs.Common.{◌≡◌, ◌&&◌, nat_eq, Bool, ap, sym, subst}
use Rattle.std.specs.Bool.{Decides}
use Rattle.std.specs.Cmp.Lexicographic.{pointwise, pointwise_decides, bytes_decides}
use Rattle.std.proofs.lemmas.Bool.Decides.{Decides-and, Decides-eqb, Decides-like}
use Rattle.price_rules.specs.declared.triple.Triple.{Triple}
use Rattle.price_rules.specs.Prices.{PriceList}
use Rattle.price_bound.proofs.terms.Terms.have_prices.Goals as goal

-- what `==` compares of triples, and that it decides whether they are the same; then the same of prices
abbrev same_triple : Triple → Triple → Bool
same_triple t u = nat_eq t.first u.first && (nat_eq t.second u.second && (nat_eq t.third u.third && nat_eq t.price u.price))

triples-decide : (t u : Triple) → Decides (same_triple t u) (t ≡ u)
triples-decide t u =
    Decides-like (same_triple t u) (λ h i. record { first = h.0 i; second = h.1.0 i; third = h.1.1.0 i; price = h.1.1.1 i })
    (λ e. (ap (λ (t : Triple). t.first) e, (ap (λ (t : Triple). t.second) e, (ap (λ (t : Triple). t.third) e, ap (λ (t : Triple). t.price) e))))
    (Decides-and (nat_eq t.first u.first) (nat_eq t.second u.second && (nat_eq t.third u.third && nat_eq t.price u.price))
    (Decides-eqb t.first u.first)
    (Decides-and (nat_eq t.second u.second) (nat_eq t.third u.third && nat_eq t.price u.price)
    (Decides-eqb t.second u.second)
    (Decides-and (nat_eq t.third u.third) (nat_eq t.price u.price) (Decides-eqb t.third u.third) (Decides-eqb t.price u.price))))

prices-decide : (some others : PriceList) → Decides (pointwise nat_eq some.ships others.ships && pointwise same_triple some.triples others.triples) (some ≡ others)
prices-decide some others =
    Decides-like (pointwise nat_eq some.ships others.ships && pointwise same_triple some.triples others.triples) (λ h i. record { ships = h.0 i; triples = h.1 i })
    (λ e. (ap (λ (p : PriceList). p.ships) e, ap (λ (p : PriceList). p.triples) e))
    (Decides-and (pointwise nat_eq some.ships others.ships) (pointwise same_triple some.triples others.triples) (bytes_decides some.ships others.ships) (pointwise_decides triples-decide some.triples others.triples))

pub returns : goal.returns
returns c = subst (λ b. Decides b (c.args.self.now.prices ≡ c.args.prices.now)) (sym c.eq.ensures) (prices-decide c.args.self.now.prices c.args.prices.now)
