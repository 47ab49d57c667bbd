-- The line of a chamber, read in parts.
use Rattle.std.proofs.Common.{◌≡◌, ℕ, ◌==◌, List, [], length, map, nat_le, nat_lt, Result, Ok, Err, refl}
use Rattle.lock_model.specs.declared.limits.TheConstants.{CHAMBERS, MOST}
use Rattle.lock_model.specs.declared.chamber.Chamber.{Chamber}
use Rattle.instance_text.specs.declared.bad.Kind.{Kind}
use Rattle.instance_text.specs.declared.bad.Kind.TheVariants.{Count, Range, TurnOverPass}
use Rattle.line_text.specs.Lines.{word_at}
use Rattle.line_text.specs.Steps.{◌>>=◌, ◌>>◌, check}
use Rattle.instance_text.specs.Words.{number, new_name, stand}
use Rattle.instance_text.specs.Chamber.{read_chamber, read_dimensions, read_work}

-- two tests, a step, and five steps twice that make one value each
in_parts : {A B C M1 M2 M3 M4 M5 N1 N2 N3 N4 N5 S W X E : Type 0} (a : Result A E) (b : Result B E) (c : Result C E) (m1 : Result M1 E) (m2 : Result M2 E) (m3 : Result M3 E) (m4 : Result M4 E) (m5 : Result M5 E) (n1 : Result N1 E) (n2 : Result N2 E) (n3 : Result N3 E) (n4 : Result N4 E) (n5 : Result N5 E) (sizes : M1 → M2 → M3 → M4 → M5 → S) (work : N1 → N2 → N3 → N4 → N5 → W) (whole : C → S → W → Result X E) → (a >> (b >> (c >>= λ name. (m1 >>= λ m1x. m2 >>= λ m2x. m3 >>= λ m3x. m4 >>= λ m4x. m5 >>= λ m5x. Ok (sizes m1x m2x m3x m4x m5x)) >>= λ s. (n1 >>= λ n1x. n2 >>= λ n2x. n3 >>= λ n3x. n4 >>= λ n4x. n5 >>= λ n5x. Ok (work n1x n2x n3x n4x n5x)) >>= λ w. whole name s w))) ≡ (a >> (b >> (c >>= λ name. m1 >>= λ m1x. m2 >>= λ m2x. m3 >>= λ m3x. m4 >>= λ m4x. m5 >>= λ m5x. n1 >>= λ n1x. n2 >>= λ n2x. n3 >>= λ n3x. n4 >>= λ n4x. n5 >>= λ n5x. whole name (sizes m1x m2x m3x m4x m5x) (work n1x n2x n3x n4x n5x))))
in_parts (Ok x0) (Ok x1) (Ok x2) (Ok x3) (Ok x4) (Ok x5) (Ok x6) (Ok x7) (Ok x8) (Ok x9) (Ok x10) (Ok x11) (Ok x12) sizes work whole = refl
in_parts (Ok x0) (Ok x1) (Ok x2) (Ok x3) (Ok x4) (Ok x5) (Ok x6) (Ok x7) (Ok x8) (Ok x9) (Ok x10) (Ok x11) (Err e) sizes work whole = refl
in_parts (Ok x0) (Ok x1) (Ok x2) (Ok x3) (Ok x4) (Ok x5) (Ok x6) (Ok x7) (Ok x8) (Ok x9) (Ok x10) (Err e) n5 sizes work whole = refl
in_parts (Ok x0) (Ok x1) (Ok x2) (Ok x3) (Ok x4) (Ok x5) (Ok x6) (Ok x7) (Ok x8) (Ok x9) (Err e) n4 n5 sizes work whole = refl
in_parts (Ok x0) (Ok x1) (Ok x2) (Ok x3) (Ok x4) (Ok x5) (Ok x6) (Ok x7) (Ok x8) (Err e) n3 n4 n5 sizes work whole = refl
in_parts (Ok x0) (Ok x1) (Ok x2) (Ok x3) (Ok x4) (Ok x5) (Ok x6) (Ok x7) (Err e) n2 n3 n4 n5 sizes work whole = refl
in_parts (Ok x0) (Ok x1) (Ok x2) (Ok x3) (Ok x4) (Ok x5) (Ok x6) (Err e) n1 n2 n3 n4 n5 sizes work whole = refl
in_parts (Ok x0) (Ok x1) (Ok x2) (Ok x3) (Ok x4) (Ok x5) (Err e) m5 n1 n2 n3 n4 n5 sizes work whole = refl
in_parts (Ok x0) (Ok x1) (Ok x2) (Ok x3) (Ok x4) (Err e) m4 m5 n1 n2 n3 n4 n5 sizes work whole = refl
in_parts (Ok x0) (Ok x1) (Ok x2) (Ok x3) (Err e) m3 m4 m5 n1 n2 n3 n4 n5 sizes work whole = refl
in_parts (Ok x0) (Ok x1) (Ok x2) (Err e) m2 m3 m4 m5 n1 n2 n3 n4 n5 sizes work whole = refl
in_parts (Ok x0) (Ok x1) (Err e) m1 m2 m3 m4 m5 n1 n2 n3 n4 n5 sizes work whole = refl
in_parts (Ok x0) (Err e) c m1 m2 m3 m4 m5 n1 n2 n3 n4 n5 sizes work whole = refl
in_parts (Err e) b c m1 m2 m3 m4 m5 n1 n2 n3 n4 n5 sizes work whole = refl

abbrev pub chamber_by_parts : List Chamber → List (List ℕ) → Result Chamber Kind
chamber_by_parts earlier words = do
  check (length words == 12) Count
  check (nat_lt (length earlier) CHAMBERS) Range
  name ← new_name (map (λ c. c.name) earlier) (word_at words 1)
  sizes ← read_dimensions words
  work ← read_work words
  check (nat_le work.turn work.pass) TurnOverPass
  Ok (record { name = name; length = sizes.length; width = sizes.width; end = sizes.end; gap = sizes.gap; side = sizes.side; most = work.most; pass = work.pass; turn = work.turn; stands = work.stands; opens = work.opens; closures = [] })

pub parts_read : (earlier : List Chamber) (words : List (List ℕ)) → chamber_by_parts earlier words ≡ read_chamber earlier words
unfolding read_chamber read_dimensions read_work
parts_read earlier words = in_parts
    (check (length words == 12) Count)
    (check (nat_lt (length earlier) CHAMBERS) Range)
    (new_name (map (λ c. c.name) earlier) (word_at words 1))
    (number 1 100000 (word_at words 2))
    (number 1 100000 (word_at words 3))
    (number 0 10000 (word_at words 4))
    (number 0 10000 (word_at words 5))
    (number 0 10000 (word_at words 6))
    (number 1 MOST (word_at words 7))
    (number 1 1000000 (word_at words 8))
    (number 0 1000000 (word_at words 9))
    (stand (word_at words 10))
    (number 0 1000000 (word_at words 11))
    (λ length width end gap side. record { length = length; width = width; end = end; gap = gap; side = side })
    (λ most pass turn stands opens. record { most = most; pass = pass; turn = turn; stands = stands; opens = opens })
    (λ name sizes work. check (nat_le work.turn work.pass) TurnOverPass >> Ok (record { name = name; length = sizes.length; width = sizes.width; end = sizes.end; gap = sizes.gap; side = sizes.side; most = work.most; pass = work.pass; turn = work.turn; stands = work.stands; opens = work.opens; closures = [] }))
