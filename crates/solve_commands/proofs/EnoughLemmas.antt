-- A search ends open only where its nodes or its turns aren't surely enough.
use Rattle.std.proofs.Common.{ℕ, Bool, true, false, ◌≡◌, ◌<◌, ◌≤◌, List, sym, subst, inl, inr, refl}
use Rattle.lock_model.specs.declared.verdict.Verdict.TheVariants.{Optimal, OpenNodes, OpenTurns}
use Rattle.lock_rules.specs.Plan.{cost_of}
use Rattle.book_rules.specs.Ends.{AreEnough, IsSpentBelow, IsOpenTurns}
use Rattle.certificate_rules.specs.Certificates.{Certificate}
use Rattle.book_rules.proofs.GrowLemmas.{law-cheap}
use Rattle.book_rules.proofs.CompleteLemmas.{enough-optimal}
use Rattle.plan_print.specs.Report.{report}
use Rattle.solve_commands.specs.Searching.{Search, Print, PrintsOpen}
use Rattle.solve_commands.specs.Keeping.{SpendsTurns, IsKeptCertificate, PrintsLeft}

nodes_open : (used low : ℕ) → OpenNodes used low ≡ Optimal → ⊥
nodes_open used low e = cc

turns_open : (chamber : ℕ) (ships : List ℕ) (turns low : ℕ) → OpenTurns chamber ships turns low ≡ Optimal → ⊥
turns_open chamber ships turns low e = cc

-- where a report is printed
pub open_ends : (print : Print) (k : Search) (text : List ℕ) → PrintsOpen print k text → ¬ AreEnough k.instance k.nodes k.turns
open_ends print k text (inl n) = λ enough. nodes_open n.used n.low (enough-optimal k.instance k.nodes k.turns k.limit n.ended.book.best (OpenNodes n.used n.low) enough n.left)
open_ends print k text (inr t) = λ enough. turns_open t.chamber t.ships t.spent t.low (enough-optimal k.instance k.nodes k.turns k.limit t.ended.book.best (OpenTurns t.chamber t.ships t.spent t.low) enough t.left)

-- the end of a search whose turns are spent, by its open certificate
spent_turns : (k : Search) (C : Certificate) (kept : IsKeptCertificate k C) (spent : SpendsTurns k C) → IsOpenTurns k.instance k.turns k.limit C.plan spent.chamber spent.ships k.turns kept.low
spent_turns k C kept spent =
    let costs = kept.stands.cost in
    record {
      legal = kept.stands.legal;
      cost = subst (λ cost. cost ≤ k.limit) (sym costs) kept.cost;
      same = refl;
      named = subst (λ cost. IsSpentBelow k.instance k.turns cost spent.chamber spent.ships) (sym costs) spent.named;
      cheaper = λ Q legal cheaper. spent.cheaper Q legal (subst (λ cost. cost_of k.instance Q < cost) costs cheaper);
      lower = kept.lower;
    }

-- where an open dossier is printed
pub kept_ends : (k : Search) (C : Certificate) → IsKeptCertificate k C → ¬ AreEnough k.instance k.nodes k.turns
kept_ends k C kept = λ enough. elim kept.cause [
  | inl spent ↦ law-cheap k.instance k.nodes k.limit enough.nodes_are spent.more
  | inr spent ↦ turns_open spent.chamber spent.ships k.turns kept.low (enough-optimal k.instance k.nodes k.turns k.limit C.plan (OpenTurns spent.chamber spent.ships k.turns kept.low) enough (spent_turns k C kept spent))
]

-- where either is
pub left_ends : (keep : Bool) (k : Search) (text : List ℕ) → PrintsLeft keep k text → ¬ AreEnough k.instance k.nodes k.turns
left_ends true k text left = kept_ends k left.certificate left.kept
left_ends false k text left = open_ends report k text left
