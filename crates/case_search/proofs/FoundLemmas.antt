-- The visit of the empty case is the search of all cases.
use Rattle.std.proofs.Common.{◌≡◌, ℕ, ◌≤◌, List, [], ◌++◌, sym, ap, ◌∙◌, subst, append-nil}
use Rattle.refute_rules.specs.declared.choices.Choice.{Choice}
use Rattle.refute_rules.specs.Listing.{cases_from, IsFirstWithin, HasMore}
use Rattle.refute_rules.specs.Trees.{IsTree}
use Rattle.case_search.specs.Rules.{Rules, IsTurn, cases_under, left_of}
use Rattle.case_search.specs.Counts.{NoneIn, FirstIn, MoreIn}
use Rattle.case_search.specs.Visits.{IsRefuted}
use Rattle.case_search.specs.Found.{IsRefutedBy}
use Rattle.case_search.proofs.CountLemmas.{has-none, is-first, has-more}

module _ {F : Type 0} (r : Rules F) (case : List Choice) (empty : case ≡ []) where
  pub first-found : (b turns : ℕ) (end : List Choice) → b ≤ turns → FirstIn (IsTurn r) r.IsEnd 0 b (cases_under r case) end → IsFirstWithin (IsTurn r) r.IsEnd turns (cases_from r.options r.decisions []) end
  first-found b turns end few first = is-first (IsTurn r) r.IsEnd b turns (cases_from r.options r.decisions []) end few (subst (λ c. FirstIn (IsTurn r) r.IsEnd 0 b (cases_under r c) end) empty first)

  pub more-found : (turns : ℕ) → MoreIn (IsTurn r) r.IsEnd 0 turns (cases_under r case) → HasMore (IsTurn r) r.IsEnd turns (cases_from r.options r.decisions [])
  more-found turns more = has-more (IsTurn r) r.IsEnd turns (cases_from r.options r.decisions []) (subst (λ c. MoreIn (IsTurn r) r.IsEnd 0 turns (cases_under r c)) empty more)

  pub none-found : (b turns : ℕ) (old new : List ℕ) (end : List Choice) → old ≡ [] → b ≤ turns → IsRefuted r case 0 b old new end → IsRefutedBy r turns new
  none-found b turns old new end fresh few refuted = record {
    none = has-none (IsTurn r) r.IsEnd b turns (cases_from r.options r.decisions []) few (subst (λ c. NoneIn (IsTurn r) r.IsEnd 0 b (cases_under r c)) empty refuted.none);
    tree = subst (λ ms. IsTree r.options r.IsFault r.numbers_of r.decisions [] ms []) same (subst (λ c. IsTree r.options r.IsFault r.numbers_of (left_of r c) c (refuted.grew.added ++ []) []) empty (refuted.grew.tree []));
  }
    where
      same : refuted.grew.added ++ [] ≡ new
      same = append-nil refuted.grew.added ∙ ap (λ l. l ++ refuted.grew.added) (sym fresh) ∙ sym refuted.grew.is
