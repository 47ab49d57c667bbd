use Rattle.std.proofs.Common.{ℕ, suc, ◌<◌, slice_index_or}
use Rattle.price_rules.specs.declared.triple.Triple.{Triple}
use Rattle.price_rules.specs.Triples.{triple_key}
use Rattle.price_terms.proofs.triples.are_rising.Given as goal

abbrev pub invariant-loop-place : goal.invariant-loop-place
invariant-loop-place l = (j : ℕ) (d : Triple) → suc j < l.place → triple_key (slice_index_or l.triples j d) < triple_key (slice_index_or l.triples (suc j) d)
