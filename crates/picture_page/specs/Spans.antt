-- Which spans of time are shown, and which gaps between them are left out.
use Rattle.std.specs.Prelude.{ℕ, ◌-◌, List, [], ◌∷◌, Some, None, Bool, false, ◌&&◌, nat_le, nat_lt, if◌then◌else◌}
use Rattle.std.specs.declared.option.Option.{Option}
use Rattle.picture_page.specs.Capped.{plus}
use Rattle.picture_page.specs.Points.{sorted, gaps_after}
use Rattle.picture_page.specs.declared.spans.Span.{Span}

-- Of gaps that rise, the first that is over 120 minutes and longer than all before it together, where those already had a sum.
abbrev pub limit_in : ℕ → List ℕ → Option ℕ
limit_in sum [] = None
limit_in sum (g ∷ gs) = if (nat_lt 0 sum && nat_lt 120 g) && nat_lt sum g then Some g else (limit_in (plus sum g) gs)

-- a gap is left out
abbrev pub is_cut : Option ℕ → ℕ → Bool
is_cut None gap = false
is_cut (Some limit) gap = nat_le limit gap

abbrev pub span_of : ℕ → ℕ → Span
span_of from to = record { from = from; to = to }

-- the spans that points make which rise, where a span was begun
abbrev pub spans_after : Option ℕ → ℕ → ℕ → List ℕ → List Span
spans_after limit from to [] = span_of from to ∷ []
spans_after limit from to (n ∷ ns) = if is_cut limit (n - to) then (span_of from to ∷ spans_after limit n n ns) else (spans_after limit from n ns)

-- the spans that points make which rise
abbrev pub spans_in : List ℕ → List Span
spans_in [] = []
spans_in (p ∷ ps) = spans_after (limit_in 0 (sorted (gaps_after p ps))) p p ps

-- the spans that events make
unfoldable pub spans_of : List ℕ → List Span
spans_of events = spans_in (sorted events)

-- the minutes of all spans
abbrev pub total_of : List Span → ℕ
total_of [] = 0
total_of (s ∷ ss) = plus (s.to - s.from) (total_of ss)

-- the spans, with another first and another last minute
abbrev pub with_ends : ℕ → ℕ → List Span → List Span
with_ends first last [] = []
with_ends first last (s ∷ []) = span_of first last ∷ []
with_ends first last (s ∷ t ∷ ss) = span_of first s.to ∷ with_ends t.from last (t ∷ ss)

-- the first and the last minute
abbrev pub first_of : List Span → ℕ
first_of [] = 0
first_of (s ∷ ss) = s.from

abbrev pub last_of : List Span → ℕ
last_of [] = 0
last_of (s ∷ []) = s.to
last_of (s ∷ t ∷ ss) = last_of (t ∷ ss)
