-- The measures of a chamber, and a deck of measures and sizes.
use Rattle.std.specs.Prelude.{List}
use Rattle.lock_model.specs.Deck.{Deck}
use Rattle.lock_model.specs.declared.chamber.Chamber.{Chamber}
use Rattle.lock_model.specs.declared.deck.Size.{Size}
use Rattle.lock_model.specs.declared.deck.Measures.{Measures}

abbrev pub measures_of : Chamber → Measures
measures_of c = record { length = c.length; width = c.width; end = c.end; gap = c.gap; side = c.side }

abbrev pub deck_with : Measures → List Size → Deck
deck_with m ships = record { length = m.length; width = m.width; end = m.end; gap = m.gap; side = m.side; ships = ships }
