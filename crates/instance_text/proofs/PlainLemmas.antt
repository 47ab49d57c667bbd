-- The lines of a canonical instance text are plain words.
use Rattle.std.proofs.Common.{ℕ, ◌<◌, ◌==◌, Bool, true, false, cond, List, [], ◌∷◌, ◌++◌, length, map, All, decimal, codes, refl, arith}
use Rattle.std.specs.List.{flat_map}
use Rattle.std.proofs.lemmas.List.Elements.{All-head, All-tail}
use Rattle.lock_model.specs.Limits.{IsName}
use Rattle.lock_model.specs.Closures.{IsClosure}
use Rattle.lock_model.specs.Instance.{IsChamber, IsShip}
use Rattle.lock_model.specs.declared.chamber.Chamber.{Chamber}
use Rattle.lock_model.specs.declared.closure.Closure.{Closure}
use Rattle.lock_model.specs.declared.ship.Ship.{Ship}
use Rattle.lock_model.specs.declared.instance.Instance.{Instance}
use Rattle.lock_model.specs.declared.way.Way.{Way}
use Rattle.lock_model.specs.declared.way.Way.TheVariants.{Up, Down}
use Rattle.lock_model.specs.declared.way.Stand.{Stand}
use Rattle.lock_model.specs.declared.way.Stand.TheVariants.{Low, High}
use Rattle.instance_text.specs.Canonical.{chamber_words, closing_words, closings, ship_words, way_word, stand_word, canonical_format, header_words, canonical_words}
use Rattle.instance_text.specs.declared.format.Format.{Format}
use Rattle.instance_text.specs.declared.format.Format.TheVariants.{First, Second, Third}
use Rattle.line_text.proofs.LayoutLemmas.{IsPlain, ArePlain, AreLines, AreLines-append, AreLines-map}
use Rattle.line_text.proofs.PlainLemmas.{name_plain, decimal_plain, literal_plain}

pub way_plain : (w : Way) → IsPlain (way_word w)
way_plain Up = literal_plain (codes "up") (omega arith) refl
way_plain Down = literal_plain (codes "down") (omega arith) refl

stand_plain : (s : Stand) → IsPlain (stand_word s)
stand_plain Low = literal_plain (codes "low") (omega arith) refl
stand_plain High = literal_plain (codes "high") (omega arith) refl

chamber_plain : (c : Chamber) → IsChamber c → (0 < length (chamber_words c)) × ArePlain (chamber_words c)
unfolding chamber_words
chamber_plain c good =
    let most = good.most.1 in let long = good.length.1 in let wide = good.width.1 in let pass = good.pass.1 in let turn = good.turn in
    let end = good.end in let gap = good.gap in let side = good.side in let opens = good.opens in
    (omega arith, (literal_plain (codes "chamber") (omega arith) refl, (name_plain c.name good.name, (decimal_plain c.length (omega arith), (decimal_plain c.width (omega arith), (decimal_plain c.end (omega arith), (decimal_plain c.gap (omega arith), (decimal_plain c.side (omega arith), (decimal_plain c.most (omega arith), (decimal_plain c.pass (omega arith), (decimal_plain c.turn (omega arith), (stand_plain c.stands, (decimal_plain c.opens (omega arith), tt)))))))))))))

ship_plain : (s : Ship) → IsShip s → (0 < length (ship_words s)) × ArePlain (ship_words s)
unfolding ship_words
ship_plain s good =
    let long = good.length.1 in let wide = good.width.1 in let arrival = good.arrival in let handling = good.handling in let cargo = good.cargo in
    (omega arith, (literal_plain (codes "ship") (omega arith) refl, (name_plain s.name good.name, (way_plain s.way, (decimal_plain s.length (omega arith), (decimal_plain s.width (omega arith), (decimal_plain s.arrival (omega arith), (decimal_plain s.handling (omega arith), class (s.cargo == 0)))))))))
  where
    class : (none : Bool) → ArePlain (cond none [] (decimal s.cargo ∷ []))
    class true = tt
    class false = (decimal_plain s.cargo (let c = good.cargo in omega arith), tt)

closing_plain : (name : List ℕ) (k : Closure) → IsName name → IsClosure k → (0 < length (closing_words name k)) × ArePlain (closing_words name k)
unfolding closing_words
closing_plain name k good closure =
    let span = closure.span in let limit = closure.limit in
    (omega arith, (literal_plain (codes "close") (omega arith) refl, (name_plain name good, (decimal_plain k.from (omega arith), (decimal_plain k.to (omega arith), tt)))))

closings_plain : (cs : List Chamber) → All IsChamber cs → AreLines (flat_map closings cs)
closings_plain [] good = tt
closings_plain (c ∷ cs) good =
    let first = All-head IsChamber c cs good in
    AreLines-append (closings c) (flat_map closings cs) (AreLines-map (closing_words c.name) IsClosure c.closures (λ k closure. closing_plain c.name k first.name closure) first.closures.each) (closings_plain cs (All-tail IsChamber c cs good))

header_plain : (format : Format) → (0 < length (header_words format)) × ArePlain (header_words format)
header_plain First = (omega arith, (literal_plain (codes "glock") (omega arith) refl, (literal_plain (codes "1") (omega arith) refl, tt)))
header_plain Second = (omega arith, (literal_plain (codes "glock") (omega arith) refl, (literal_plain (codes "2") (omega arith) refl, tt)))
header_plain Third = (omega arith, (literal_plain (codes "glock") (omega arith) refl, (literal_plain (codes "3") (omega arith) refl, tt)))

pub canonical_plain : (I : Instance) → AreLines (canonical_words I)
unfolding canonical_words
canonical_plain I =
    let header = header_plain (canonical_format I) in
    AreLines-append ((header_words (canonical_format I) ∷ map chamber_words I.chambers) ++ flat_map closings I.chambers ++ map ship_words I.ships) ((codes "end" ∷ []) ∷ [])
    (AreLines-append ((header_words (canonical_format I) ∷ map chamber_words I.chambers) ++ flat_map closings I.chambers) (map ship_words I.ships)
    (AreLines-append (header_words (canonical_format I) ∷ map chamber_words I.chambers) (flat_map closings I.chambers)
    (header.0, header.1, AreLines-map chamber_words IsChamber I.chambers chamber_plain I.limits.chamber)
    (closings_plain I.chambers I.limits.chamber))
    (AreLines-map ship_words IsShip I.ships ship_plain I.limits.ship))
    (omega arith, (literal_plain (codes "end") (omega arith) refl, tt), tt)
