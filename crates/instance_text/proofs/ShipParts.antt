-- The line of a ship, read in parts.
use Rattle.std.proofs.Common.{◌≡◌, ℕ, List, length, map, nat_lt, Result, Ok, Err, refl}
use Rattle.lock_model.specs.declared.ship.Ship.{Ship}
use Rattle.instance_text.specs.declared.bad.Kind.{Kind}
use Rattle.instance_text.specs.declared.bad.Kind.TheVariants.{Count, Range}
use Rattle.instance_text.specs.declared.format.Format.{Format}
use Rattle.line_text.specs.Lines.{word_at}
use Rattle.line_text.specs.Steps.{◌>>=◌, ◌>>◌, check}
use Rattle.instance_text.specs.Words.{number, new_name, way}
use Rattle.instance_text.specs.Ship.{is_ship_count, most_ships, cargo, read_figures, read_ship}

-- two tests, two steps, four steps that make one value, and a last one
in_parts : {A B C D M1 M2 M3 M4 F S X E : Type 0} (a : Result A E) (b : Result B E) (c : Result C E) (d : Result D E) (m1 : Result M1 E) (m2 : Result M2 E) (m3 : Result M3 E) (m4 : Result M4 E) (e : Result F E) (measures : M1 → M2 → M3 → M4 → S) (whole : C → D → S → F → Result X E) → (a >> (b >> (c >>= λ name. d >>= λ way. (m1 >>= λ m1x. m2 >>= λ m2x. m3 >>= λ m3x. m4 >>= λ m4x. Ok (measures m1x m2x m3x m4x)) >>= λ m. e >>= λ last. whole name way m last))) ≡ (a >> (b >> (c >>= λ name. d >>= λ way. m1 >>= λ m1x. m2 >>= λ m2x. m3 >>= λ m3x. m4 >>= λ m4x. e >>= λ last. whole name way (measures m1x m2x m3x m4x) last)))
in_parts (Ok x0) (Ok x1) (Ok x2) (Ok x3) (Ok x4) (Ok x5) (Ok x6) (Ok x7) (Ok x8) measures whole = refl
in_parts (Ok x0) (Ok x1) (Ok x2) (Ok x3) (Ok x4) (Ok x5) (Ok x6) (Ok x7) (Err fault) measures whole = refl
in_parts (Ok x0) (Ok x1) (Ok x2) (Ok x3) (Ok x4) (Ok x5) (Ok x6) (Err fault) e measures whole = refl
in_parts (Ok x0) (Ok x1) (Ok x2) (Ok x3) (Ok x4) (Ok x5) (Err fault) m4 e measures whole = refl
in_parts (Ok x0) (Ok x1) (Ok x2) (Ok x3) (Ok x4) (Err fault) m3 m4 e measures whole = refl
in_parts (Ok x0) (Ok x1) (Ok x2) (Ok x3) (Err fault) m2 m3 m4 e measures whole = refl
in_parts (Ok x0) (Ok x1) (Ok x2) (Err fault) m1 m2 m3 m4 e measures whole = refl
in_parts (Ok x0) (Ok x1) (Err fault) d m1 m2 m3 m4 e measures whole = refl
in_parts (Ok x0) (Err fault) c d m1 m2 m3 m4 e measures whole = refl
in_parts (Err fault) b c d m1 m2 m3 m4 e measures whole = refl

abbrev pub ship_by_parts : Format → List Ship → List (List ℕ) → Result Ship Kind
ship_by_parts format earlier words = do
  check (is_ship_count format (length words)) Count
  check (nat_lt (length earlier) (most_ships format)) Range
  name ← new_name (map (λ s. s.name) earlier) (word_at words 1)
  way ← way (word_at words 2)
  measures ← read_figures words
  cargo ← cargo words
  Ok (record { name = name; way = way; length = measures.length; width = measures.width; arrival = measures.arrival; handling = measures.handling; cargo = cargo })

pub parts_read : (format : Format) (earlier : List Ship) (words : List (List ℕ)) → ship_by_parts format earlier words ≡ read_ship format earlier words
unfolding read_ship read_figures
parts_read format earlier words = in_parts
    (check (is_ship_count format (length words)) Count)
    (check (nat_lt (length earlier) (most_ships format)) Range)
    (new_name (map (λ s. s.name) earlier) (word_at words 1))
    (way (word_at words 2))
    (number 1 100000 (word_at words 3))
    (number 1 100000 (word_at words 4))
    (number 0 1000000 (word_at words 5))
    (number 0 1000000 (word_at words 6))
    (cargo words)
    (λ length width arrival handling. record { length = length; width = width; arrival = arrival; handling = handling })
    (λ name way measures cargo. Ok (record { name = name; way = way; length = measures.length; width = measures.width; arrival = measures.arrival; handling = measures.handling; cargo = cargo }))
