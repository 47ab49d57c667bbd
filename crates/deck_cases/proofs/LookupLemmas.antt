-- Looking up what options have decided.
use Rattle.std.proofs.Common.{◌≡◌, ◌≢◌, ℕ, ◌+◌, ◌<◌, ◌≤◌, cond, List, [], ◌∷◌, length, drop, get_or, sym, ap, ◌∙◌, Some, None, ne_eqb, eq-eqb}
use Rattle.std.proofs.lemmas.List.{drop_more, drop_all}
use Rattle.refute_rules.specs.declared.choices.Berth.{Berth}
use Rattle.refute_rules.specs.declared.choices.Choice.{Choice}
use Rattle.refute_rules.specs.declared.choices.Choice.TheVariants.{Lies, LiesAt}
use Rattle.refute_rules.specs.Decided.{berth_in, x_in}
use Rattle.deck_cases.specs.Lookups.{PassesBerth, GivesBerth, PassesX, GivesX}

pub berth_hit : (j i : ℕ) (b : Berth) → j ≡ i → GivesBerth (Lies j b) i b
berth_hit j i b e = record { give = λ rest. ap (λ t. cond t (Some b) (berth_in rest i)) (eq-eqb j i e) }

pub berth_miss : (j i : ℕ) (b : Berth) → j ≢ i → PassesBerth (Lies j b) i
berth_miss j i b n = record { pass = λ rest. ap (λ t. cond t (Some b) (berth_in rest i)) (ne_eqb j i n) }

pub x_hit : (j i x : ℕ) → j ≡ i → GivesX (LiesAt j x) i x
x_hit j i x e = record { give = λ rest. ap (λ t. cond t (Some x) (x_in rest i)) (eq-eqb j i e) }

pub x_miss : (j i x : ℕ) → j ≢ i → PassesX (LiesAt j x) i
x_miss j i x n = record { pass = λ rest. ap (λ t. cond t (Some x) (x_in rest i)) (ne_eqb j i n) }

-- the options that are left
left-more : (cs : List Choice) (k : ℕ) (c : Choice) → k < length cs → c ≡ get_or cs k c → drop k cs ≡ c ∷ drop (k + 1) cs
left-more cs k c here e = drop_more cs k c here ∙ ap (λ q. q ∷ drop (k + 1) cs) (sym e)

pub berth_passed : (cs : List Choice) (k i : ℕ) (c : Choice) → k < length cs → c ≡ get_or cs k c → PassesBerth c i → berth_in (drop k cs) i ≡ berth_in (drop (k + 1) cs) i
berth_passed cs k i c here e passes = ap (λ cs. berth_in cs i) (left-more cs k c here e) ∙ passes.pass (drop (k + 1) cs)

pub berth_given : (cs : List Choice) (k i : ℕ) (c : Choice) (b : Berth) → k < length cs → c ≡ get_or cs k c → GivesBerth c i b → berth_in (drop k cs) i ≡ Some b
berth_given cs k i c b here e gives = ap (λ cs. berth_in cs i) (left-more cs k c here e) ∙ gives.give (drop (k + 1) cs)

pub berth_absent : (cs : List Choice) (k i : ℕ) → length cs ≤ k → berth_in (drop k cs) i ≡ None
berth_absent cs k i long = ap (λ cs. berth_in cs i) (drop_all k cs long)

pub x_passed : (cs : List Choice) (k i : ℕ) (c : Choice) → k < length cs → c ≡ get_or cs k c → PassesX c i → x_in (drop k cs) i ≡ x_in (drop (k + 1) cs) i
x_passed cs k i c here e passes = ap (λ cs. x_in cs i) (left-more cs k c here e) ∙ passes.pass (drop (k + 1) cs)

pub x_given : (cs : List Choice) (k i : ℕ) (c : Choice) (x : ℕ) → k < length cs → c ≡ get_or cs k c → GivesX c i x → x_in (drop k cs) i ≡ Some x
x_given cs k i c x here e gives = ap (λ cs. x_in cs i) (left-more cs k c here e) ∙ gives.give (drop (k + 1) cs)

pub x_absent : (cs : List Choice) (k i : ℕ) → length cs ≤ k → x_in (drop k cs) i ≡ None
x_absent cs k i long = ap (λ cs. x_in cs i) (drop_all k cs long)
