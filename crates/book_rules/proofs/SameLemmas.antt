-- The tests of sameness decide what they are for.
use Rattle.std.proofs.Common.{◌≡◌, ◌&&◌, refl, sym, ap, nat_eq}
use Rattle.std.proofs.lemmas.Bool.{false≢true}
use Rattle.std.specs.Bool.{Decides}
use Rattle.std.specs.Cmp.Lexicographic.{pointwise, pointwise_decides, bytes_decides}
use Rattle.std.proofs.lemmas.Bool.Decides.{Decides-eqb, Decides-and, Decides-like}
use Rattle.lock_model.specs.declared.way.Way.{Way}
use Rattle.lock_model.specs.declared.way.Way.TheVariants.{Up, Down}
use Rattle.lock_model.specs.declared.group.Group.{Group}
use Rattle.lock_rules.specs.Node.{Node}
use Rattle.lock_rules.specs.Children.{same_way}
use Rattle.price_rules.specs.declared.triple.Triple.{Triple}
use Rattle.price_rules.specs.Prices.{PriceList}
use Rattle.closing_rules.specs.ListedPrices.{same_triple, same_prices}
use Rattle.book_rules.specs.Same.{same_group, same_node}

same_way-decides : (a b : Way) → Decides (same_way a b) (a ≡ b)
same_way-decides Up Up = (λ e. refl, λ e. refl)
same_way-decides Up Down = (λ e. absurd (false≢true e), λ e. absurd (false≢true (ap (same_way Up) (sym e))))
same_way-decides Down Up = (λ e. absurd (false≢true e), λ e. absurd (false≢true (ap (same_way Down) (sym e))))
same_way-decides Down Down = (λ e. refl, λ e. refl)

-- ---- nodes

same_group-decides : (a b : Group) → Decides (same_group a b) (a ≡ b)
same_group-decides a b =
    Decides-like (same_group a b) (λ h i. record { way = h.0 i; ships = h.1 i }) (λ e. (ap (λ (g : Group). g.way) e, ap (λ (g : Group). g.ships) e))
    (Decides-and (same_way a.way b.way) (pointwise nat_eq a.ships b.ships) (same_way-decides a.way b.way) (bytes_decides a.ships b.ships))

pub same_node-decides : (a b : Node) → Decides (same_node a b) (a ≡ b)
same_node-decides a b =
    Decides-like (same_node a b) (λ h i. record { depth = h.0 i; lines = h.1 i }) (λ e. (ap (λ (n : Node). n.depth) e, ap (λ (n : Node). n.lines) e))
    (Decides-and (nat_eq a.depth b.depth) (pointwise (pointwise same_group) a.lines b.lines) (Decides-eqb a.depth b.depth) (pointwise_decides (pointwise_decides same_group-decides) a.lines b.lines))

-- ---- prices

same_triple-decides : (t u : Triple) → Decides (same_triple t u) (t ≡ u)
same_triple-decides t u =
    Decides-like (same_triple t u) (λ h i. record { first = h.0.0.0 i; second = h.0.0.1 i; third = h.0.1 i; price = h.1 i })
    (λ e. (((ap (λ (t : Triple). t.first) e, ap (λ (t : Triple). t.second) e), ap (λ (t : Triple). t.third) e), ap (λ (t : Triple). t.price) e))
    (Decides-and (nat_eq t.first u.first && nat_eq t.second u.second && nat_eq t.third u.third) (nat_eq t.price u.price)
    (Decides-and (nat_eq t.first u.first && nat_eq t.second u.second) (nat_eq t.third u.third)
    (Decides-and (nat_eq t.first u.first) (nat_eq t.second u.second) (Decides-eqb t.first u.first) (Decides-eqb t.second u.second))
    (Decides-eqb t.third u.third))
    (Decides-eqb t.price u.price))

pub same_prices-decides : (some others : PriceList) → Decides (same_prices some others) (some ≡ others)
same_prices-decides some others =
    Decides-like (same_prices some others) (λ h i. record { ships = h.0 i; triples = h.1 i }) (λ e. (ap (λ (p : PriceList). p.ships) e, ap (λ (p : PriceList). p.triples) e))
    (Decides-and (pointwise nat_eq some.ships others.ships) (pointwise same_triple some.triples others.triples) (bytes_decides some.ships others.ships) (pointwise_decides same_triple-decides some.triples others.triples))
