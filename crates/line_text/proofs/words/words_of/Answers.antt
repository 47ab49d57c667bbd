use Rattle.std.proofs.Common.{◌++◌, map, take, filter, sym, ap, ◌∙◌}
use Rattle.std.proofs.lemmas.List.{length-map}
use Rattle.line_text.specs.Lines.{is_word, words}
use Rattle.line_text.specs.Parts.{parts_left}
use Rattle.line_text.proofs.WordLemmas.{more_words, all_words}
use Rattle.line_text.proofs.words.words_of.Goals as goal

pub loop-piece-preserved : goal.loop-piece-preserved
loop-piece-preserved c = (
  c.push_word.ensures.fits,
  more_words 13 (map (λ w. w.now) c.loop-piece.found.items) (map (λ w. w.now) c.push_word.new.words.items) c.in-Some.piece.now (parts_left c.next.new.self.left c.next.new.self.separator) (take 13 (words c.args.line.now)) c.push_word.ensures.value
      (ap (λ parts. take 13 (map (λ w. w.now) c.loop-piece.found.items ++ filter is_word parts)) (sym c.in-Some.ensures.some) ∙ c.loop-piece.invariant.1),
)

pub returns : goal.returns
returns c =
    all_words 13 (map (λ w. w.now) c.loop-piece.found.items) (take 13 (words c.args.line.now))
    (rw (length-map c.loop-piece.found.items (λ w. w.now)) c.loop-piece.invariant.0)
    (ap (λ parts. take 13 (map (λ w. w.now) c.loop-piece.found.items ++ filter is_word parts)) (sym c.in_default.ensures.none) ∙ c.loop-piece.invariant.1)
