use Rattle.std.proofs.Common.{[], ◌∷◌, map, filter, ap, ◌∙◌, arith}
use Rattle.std.proofs.lemmas.List.{length-map, map_push}
use Rattle.std.proofs.lemmas.Bool.Decides.{nat_tests}
use Rattle.line_text.specs.Lines.{is_word}
use Rattle.line_text.proofs.WordLemmas as lemmas
use Rattle.line_text.proofs.words.push_word.Goals as goal

pub returns-then-is_full-clause-value : goal.returns-then-is_full-clause-value
returns-then-is_full-clause-value c =
    lemmas.full_words 13 (map (λ w. w.now) c.args.words.now.items) (filter is_word (c.args.piece.now ∷ []))
    (length-map c.args.words.now.items (λ w. w.now) ∙ grind (arith, nat_tests))

pub returns-then-is_empty-clause-value : goal.returns-then-is_empty-clause-value
returns-then-is_empty-clause-value c =
    lemmas.skip_word 13 (map (λ w. w.now) c.args.words.now.items) c.args.piece.now
    (rw (length-map c.args.words.now.items (λ w. w.now)) c.is_full.ensures.fits) (grind (arith, nat_tests))

pub returns-clause-value : goal.returns-clause-value
returns-clause-value c =
    lemmas.push_word 13 (map (λ w. w.now) c.args.words.now.items) (map (λ w. w.now) c.push.new.self.items) c.args.piece.now
    (ap (map (λ w. w.now)) c.push.ensures.items ∙ map_push (λ w. w.now) c.args.words.now.items c.args.piece)
    (rw (length-map c.args.words.now.items (λ w. w.now)) (grind (arith, nat_tests))) (grind (arith, nat_tests))
