-- The lines of a text of two parts.
use Rattle.std.proofs.Common.{◌≡◌, ◌∙◌, ℕ, ◌<◌, Bool, true, false, List, [], ◌∷◌, ◌++◌, length, refl, sym, ap, arith}
use Rattle.std.specs.List.{slice_split, onto_first, join_with_byte}
use Rattle.std.proofs.lemmas.List.Splits.{join_with_byte-slice_split, slice_split-cons_yes, slice_split-cons_no, length-slice_split}
use Rattle.line_text.specs.Lines.{is_line_feed, lines}

onto_first-append : (x : ℕ) (first : List (List ℕ)) (second : List (List ℕ)) → 0 < length first → onto_first x (first ++ second) ≡ onto_first x first ++ second
onto_first-append x [] second some = absurd (omega arith)
onto_first-append x (part ∷ first) second some = refl

split-append : (t rest : List ℕ) → slice_split is_line_feed (t ++ 10 ∷ rest) ≡ slice_split is_line_feed t ++ slice_split is_line_feed rest
split-append [] rest = refl
split-append (b ∷ t) rest = go (is_line_feed b) refl (split-append t rest)
  where
    go : (feed : Bool) → is_line_feed b ≡ feed → slice_split is_line_feed (t ++ 10 ∷ rest) ≡ slice_split is_line_feed t ++ slice_split is_line_feed rest → slice_split is_line_feed (b ∷ t ++ 10 ∷ rest) ≡ slice_split is_line_feed (b ∷ t) ++ slice_split is_line_feed rest
    go true is more = slice_split-cons_yes is_line_feed b (t ++ 10 ∷ rest) is ∙ ap (λ l. [] ∷ l) more ∙ ap (λ l. l ++ slice_split is_line_feed rest) (sym (slice_split-cons_yes is_line_feed b t is))
    go false is more =
        slice_split-cons_no is_line_feed b (t ++ 10 ∷ rest) is ∙ ap (onto_first b) more ∙ onto_first-append b (slice_split is_line_feed t) (slice_split is_line_feed rest) (omega (arith, length-slice_split is_line_feed t))
        ∙ ap (λ l. l ++ slice_split is_line_feed rest) (sym (slice_split-cons_no is_line_feed b t is))

pub lines-append : (t rest : List ℕ) → lines (t ++ 10 ∷ rest) ≡ lines t ++ lines rest
unfolding lines
lines-append t rest = split-append t rest

pub join-lines : (t : List ℕ) → join_with_byte 10 (lines t) ≡ t
unfolding lines
join-lines t = join_with_byte-slice_split 10 t
