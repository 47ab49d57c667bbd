-- Walks edge by edge.
use Rattle.std.proofs.Common.{◌≡◌, ◌≢◌, ℕ, ◌+◌, ◌<◌, ◌≤◌, pos, ◌+ℤ◌, ◌<ℤ◌, List, [], ◌∷◌, ◌++◌, length, take, drop, get_or, sym, ap, ◌∙◌, subst, arith}
use Rattle.std.proofs.lemmas.Int.{ints}
use Rattle.std.proofs.lemmas.List.{drop_more, drop_all, take_more}
use Rattle.diff_rules.specs.declared.edges.Edge.{Edge}
use Rattle.diff_rules.specs.Differences.{LeadsTo, IsPositiveCycle, edge_at, total_of}

-- what is left of a walk leads on from here just where the whole leads there
pub record LeadsAlike (edges : List Edge) (from : ℕ) (numbers : List ℕ) (at : ℕ) (left : List ℕ) (to : ℕ) : Type 0 where
  pub on : LeadsTo edges from numbers to → LeadsTo edges at left to
  pub back : LeadsTo edges at left to → LeadsTo edges from numbers to

module _ (edges : List Edge) (from : ℕ) (numbers : List ℕ) (to : ℕ) where
  rest : (i : ℕ) → i < length numbers → drop i numbers ≡ get_or numbers i 0 ∷ drop (i + 1) numbers
  rest i here = drop_more numbers i 0 here

  pub leads_unknown : (i at : ℕ) → i < length numbers → LeadsAlike edges from numbers at (drop i numbers) to → length edges ≤ get_or numbers i 0 → LeadsTo edges from numbers to → ⊥
  leads_unknown i at here alike past h = let l = subst (λ ns. LeadsTo edges at ns to) (rest i here) (alike.on h) in omega (arith, past, l.0)

  pub leads_off : (i at : ℕ) → i < length numbers → LeadsAlike edges from numbers at (drop i numbers) to → (edge_at edges (get_or numbers i 0)).from ≢ at → LeadsTo edges from numbers to → ⊥
  leads_off i at here alike off h = let l = subst (λ ns. LeadsTo edges at ns to) (rest i here) (alike.on h) in off l.1

  pub leads_on : (i at : ℕ) → i < length numbers → LeadsAlike edges from numbers at (drop i numbers) to → get_or numbers i 0 < length edges → (edge_at edges (get_or numbers i 0)).from ≡ at → LeadsAlike edges from numbers (edge_at edges (get_or numbers i 0)).to (drop (i + 1) numbers) to
  leads_on i at here alike known e = record {
    on = λ h. (subst (λ ns. LeadsTo edges at ns to) (rest i here) (alike.on h)).2;
    back = λ h. alike.back (subst (λ ns. LeadsTo edges at ns to) (sym (rest i here)) (known, e, h));
  }

  pub leads_end : (i at : ℕ) → length numbers ≤ i → LeadsAlike edges from numbers at (drop i numbers) to → at ≡ to → LeadsTo edges from numbers to
  leads_end i at long alike e = alike.back (subst (λ ns. LeadsTo edges at ns to) (sym (drop_all i numbers long)) e)

total-append : (edges : List Edge) (xs ys : List ℕ) → total_of edges (xs ++ ys) ≡ total_of edges xs +ℤ total_of edges ys
total-append edges [] ys = omega (arith, ints)
total-append edges (x ∷ xs) ys = omega (arith, ints, total-append edges xs ys)

pub total_more : (edges : List Edge) (numbers : List ℕ) (i : ℕ) → i < length numbers → total_of edges (take (i + 1) numbers) ≡ total_of edges (take i numbers) +ℤ (edge_at edges (get_or numbers i 0)).weight
total_more edges numbers i here = ap (total_of edges) (take_more numbers i 0 here) ∙ total-append edges (take i numbers) (get_or numbers i 0 ∷ []) ∙ omega (arith, ints)

pub cycle_from : (edges : List Edge) (numbers : List ℕ) (start : ℕ) → LeadsTo edges start numbers start → pos 0 <ℤ total_of edges numbers → IsPositiveCycle edges numbers
cycle_from edges numbers start closed positive = record { start = start; closed = closed; positive = positive }

pub cycle_total : (edges : List Edge) (numbers : List ℕ) → IsPositiveCycle edges numbers → pos 0 <ℤ total_of edges numbers
cycle_total edges numbers h = h.positive

pub cycle_leads : (edges : List Edge) (numbers : List ℕ) (start : ℕ) → 1 ≤ length numbers → start ≡ (edge_at edges (get_or numbers 0 0)).from → IsPositiveCycle edges numbers → LeadsTo edges start numbers start
cycle_leads edges [] start some e h = absurd (omega (arith, some))
cycle_leads edges (n ∷ ns) start some e h = subst (λ s. LeadsTo edges s (n ∷ ns) s) (sym h.closed.1 ∙ sym e) h.closed

-- what `leads_to` goes by
pub ruleset of_leads = (leads_unknown, leads_off, leads_on, leads_end)
