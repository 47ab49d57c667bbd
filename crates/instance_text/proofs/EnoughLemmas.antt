-- The first thirteen words of a line tell as much as all of them.
use Rattle.std.proofs.Common.{◌≡◌, ℕ, List, take, lit<}
use Rattle.lock_model.specs.declared.chamber.Chamber.{Chamber}
use Rattle.lock_model.specs.declared.ship.Ship.{Ship}
use Rattle.line_text.proofs.EnoughLemmas.{word_enough, length_enough}
use Rattle.instance_text.specs.declared.format.Format.{Format}
use Rattle.instance_text.specs.declared.format.Format.TheVariants.{First, Second, Third}
use Rattle.instance_text.specs.Draft.{Draft}
use Rattle.instance_text.specs.Chamber.{read_chamber}
use Rattle.instance_text.specs.Ship.{read_ship, cargo}
use Rattle.instance_text.specs.Closing.{read_closing}
use Rattle.instance_text.specs.Reading.{read_line, read_end, add_chamber, add_ship, add_closure}

read_chamber-take : (earlier : List Chamber) (words : List (List ℕ)) → read_chamber earlier (take 13 words) ≡ read_chamber earlier words
unfolding read_chamber
read_chamber-take earlier words = simp (length_enough words 12 (lit< tt), word_enough words 1 (lit< tt), word_enough words 2 (lit< tt), word_enough words 3 (lit< tt), word_enough words 4 (lit< tt), word_enough words 5 (lit< tt), word_enough words 6 (lit< tt), word_enough words 7 (lit< tt), word_enough words 8 (lit< tt), word_enough words 9 (lit< tt), word_enough words 10 (lit< tt), word_enough words 11 (lit< tt))

read_ship-take : (format : Format) (earlier : List Ship) (words : List (List ℕ)) → read_ship format earlier (take 13 words) ≡ read_ship format earlier words
unfolding read_ship cargo
read_ship-take First earlier words = simp (length_enough words 7 (lit< tt), length_enough words 8 (lit< tt), word_enough words 1 (lit< tt), word_enough words 2 (lit< tt), word_enough words 3 (lit< tt), word_enough words 4 (lit< tt), word_enough words 5 (lit< tt), word_enough words 6 (lit< tt), word_enough words 7 (lit< tt))
read_ship-take Second earlier words = simp (length_enough words 7 (lit< tt), length_enough words 8 (lit< tt), word_enough words 1 (lit< tt), word_enough words 2 (lit< tt), word_enough words 3 (lit< tt), word_enough words 4 (lit< tt), word_enough words 5 (lit< tt), word_enough words 6 (lit< tt), word_enough words 7 (lit< tt))
read_ship-take Third earlier words = simp (length_enough words 7 (lit< tt), length_enough words 8 (lit< tt), word_enough words 1 (lit< tt), word_enough words 2 (lit< tt), word_enough words 3 (lit< tt), word_enough words 4 (lit< tt), word_enough words 5 (lit< tt), word_enough words 6 (lit< tt), word_enough words 7 (lit< tt))

read_closing-take : (chambers : List Chamber) (words : List (List ℕ)) → read_closing chambers (take 13 words) ≡ read_closing chambers words
unfolding read_closing
read_closing-take chambers words = simp (length_enough words 4 (lit< tt), word_enough words 1 (lit< tt), word_enough words 2 (lit< tt), word_enough words 3 (lit< tt))

read_end-take : (draft : Draft) (words : List (List ℕ)) → read_end draft (take 13 words) ≡ read_end draft words
unfolding read_end
read_end-take draft words = simp (length_enough words 1 (lit< tt))

pub read_line-take : (format : Format) (draft : Draft) (words : List (List ℕ)) → read_line format draft (take 13 words) ≡ read_line format draft words
unfolding read_line add_chamber add_ship add_closure
read_line-take First draft words = simp (length_enough words 0 (lit< tt), word_enough words 0 (lit< tt), read_chamber-take draft.chambers words, read_ship-take First draft.ships words, read_end-take draft words)
read_line-take Second draft words = simp (length_enough words 0 (lit< tt), word_enough words 0 (lit< tt), read_chamber-take draft.chambers words, read_ship-take Second draft.ships words, read_closing-take draft.chambers words, read_end-take draft words)
read_line-take Third draft words = simp (length_enough words 0 (lit< tt), word_enough words 0 (lit< tt), read_chamber-take draft.chambers words, read_ship-take Third draft.ships words, read_closing-take draft.chambers words, read_end-take draft words)
