-- The instance part of a canonical instance text that something follows.
use Rattle.std.proofs.Common.{◌≡◌, ◌∙◌, ℕ, ◌+◌, true, false, cond, ◌&&◌, List, [], ◌∷◌, ◌++◌, length, map, take, drop, codes, refl, sym, ap, subst, arith, append_assoc}
use Rattle.std.proofs.Math.Bool.{and-false}
use Rattle.std.specs.Prelude.{◌==◌}
use Rattle.std.specs.List.{join_with_byte, flat_map}
use Rattle.std.specs.Str.{bytes_eq}
use Rattle.std.proofs.Math.Seq.{take-append-add, take-append_seam, drop-append_seam}
use Rattle.std.proofs.lemmas.List.{map-append, length_push}
use Rattle.lock_model.specs.declared.chamber.Chamber.{Chamber}
use Rattle.lock_model.specs.declared.instance.Instance.{Instance}
use Rattle.line_text.specs.Lines.{lines, words, word_at, is_only}
use Rattle.instance_text.specs.Reading.{is_end, length_of_part, instance_part, after_instance}
use Rattle.line_text.specs.Printed.{line}
use Rattle.instance_text.specs.declared.format.Format.{Format}
use Rattle.instance_text.specs.declared.format.Format.TheVariants.{First, Second, Third}
use Rattle.instance_text.specs.Canonical.{chamber_words, closing_words, closings, ship_words, canonical_format, header_words, canonical, canonical_words}
use Rattle.line_text.proofs.AppendLemmas.{lines-append, join-lines}
use Rattle.line_text.proofs.LayoutLemmas.{words_of_text}
use Rattle.instance_text.proofs.PlainLemmas.{canonical_plain}

-- ---- where the part ends

-- the last of these lines is `end`, and no other one is
abbrev EndsAt : List (List (List ℕ)) → Type 0
EndsAt [] = ⊥
EndsAt (ws ∷ []) = is_end ws ≡ true
EndsAt (ws ∷ vs ∷ more) = (is_end ws ≡ false) × EndsAt (vs ∷ more)

part_length : (first second : List (List ℕ)) → EndsAt (map words first) → length_of_part (first ++ second) ≡ length (join_with_byte 10 first) + 1
part_length [] second ends = absurd ends
part_length (l ∷ []) second ends = let last = ap (λ b. length l + 1 + cond b 0 (length_of_part second)) ends in omega arith
part_length (l ∷ m ∷ first) second ends =
    let step = ap (λ b. length l + 1 + cond b 0 (length_of_part ((m ∷ first) ++ second))) ends.0 in
    let rest = part_length (m ∷ first) second ends.1 in
    let size = length-append_feed l (join_with_byte 10 (m ∷ first)) in
    omega arith
  where
    length-append_feed : (xs ys : List ℕ) → length (xs ++ 10 ∷ ys) ≡ length xs + 1 + length ys
    length-append_feed [] ys = omega arith
    length-append_feed (x ∷ xs) ys = let more = length-append_feed xs ys in omega arith

-- a text whose only line `end` is its last one
part_of : (t rest : List ℕ) → EndsAt (map words (lines t)) → instance_part ((t ++ 10 ∷ []) ++ rest) ≡ t ++ 10 ∷ []
unfolding instance_part
part_of t rest ends =
    let whole : (t ++ 10 ∷ []) ++ rest ≡ t ++ 10 ∷ rest = append_assoc t (10 ∷ []) rest in
    let size : length_of_part (lines (t ++ 10 ∷ rest)) ≡ length t + 1 = ap length_of_part (lines-append t rest) ∙ part_length (lines t) (lines rest) ends ∙ ap (λ l. length l + 1) (join-lines t) in
    ap (λ l. take (length_of_part (lines l)) l) whole ∙ ap (λ n. take n (t ++ 10 ∷ rest)) size ∙ take-append-add t (10 ∷ rest) 1

-- ---- the canonical text

push_same : {X : Type 0} (xs ys : List X) (a b : X) → xs ++ a ∷ [] ≡ ys ++ b ∷ [] → xs ≡ ys
push_same xs ys a b e =
    let sizes : length (xs ++ a ∷ []) ≡ length (ys ++ b ∷ []) = ap length e in
    let same : length xs ≡ length ys = sized xs ys a b sizes in
    sym (take-append_seam xs (a ∷ [])) ∙ ap (take (length xs)) e ∙ ap (λ n. take n (ys ++ b ∷ [])) same ∙ take-append_seam ys (b ∷ [])
  where
    sized : {X : Type 0} (ps qs : List X) (c d : X) → length (ps ++ c ∷ []) ≡ length (qs ++ d ∷ []) → length ps ≡ length qs
    sized ps qs c d h = let p = length_push ps c in let q = length_push qs d in omega arith

-- lines that don't begin with `end`
abbrev BeginElse : List (List (List ℕ)) → Type 0
BeginElse [] = Unit {0}
BeginElse (ws ∷ more) = (is_end ws ≡ false) × BeginElse more

another : (ws : List (List ℕ)) → bytes_eq (word_at ws 0) (codes "end") ≡ false → is_end ws ≡ false
unfolding is_only
another ws other = ap (λ b. (length ws == 1) && b) other ∙ and-false (length ws == 1)

BeginElse-append : (xs ys : List (List (List ℕ))) → BeginElse xs → BeginElse ys → BeginElse (xs ++ ys)
BeginElse-append [] ys first second = second
BeginElse-append (x ∷ xs) ys first second = (first.0, BeginElse-append xs ys first.1 second)

BeginElse-map : {X : Type 0} (f : X → List (List ℕ)) (xs : List X) → ((x : X) → is_end (f x) ≡ false) → BeginElse (map f xs)
BeginElse-map f [] each = tt
BeginElse-map f (x ∷ xs) each = (each x, BeginElse-map f xs each)

BeginElse-closings : (cs : List Chamber) → BeginElse (flat_map closings cs)
unfolding closing_words
BeginElse-closings [] = tt
BeginElse-closings (c ∷ cs) = BeginElse-append (closings c) (flat_map closings cs) (BeginElse-map (closing_words c.name) c.closures (λ k. another (closing_words c.name k) refl)) (BeginElse-closings cs)

ends_after : (wss : List (List (List ℕ))) → BeginElse wss → EndsAt (wss ++ (codes "end" ∷ []) ∷ [])
unfolding is_only
ends_after [] else = refl
ends_after (ws ∷ []) else = (else.0, refl)
ends_after (ws ∷ vs ∷ more) else = (else.0, ends_after (vs ∷ more) else.1)

-- the words of the lines before `end`
abbrev front : Instance → List (List (List ℕ))
front I = header_words (canonical_format I) ∷ map chamber_words I.chambers ++ flat_map closings I.chambers ++ map ship_words I.ships

header_else : (format : Format) → is_end (header_words format) ≡ false
header_else First = another (header_words First) refl
header_else Second = another (header_words Second) refl
header_else Third = another (header_words Third) refl

front_else : (I : Instance) → BeginElse (front I)
unfolding chamber_words ship_words
front_else I = (
  header_else (canonical_format I),
  BeginElse-append (map chamber_words I.chambers ++ flat_map closings I.chambers) (map ship_words I.ships)
      (BeginElse-append (map chamber_words I.chambers) (flat_map closings I.chambers) (BeginElse-map chamber_words I.chambers (λ c. another (chamber_words c) refl)) (BeginElse-closings I.chambers))
      (BeginElse-map ship_words I.ships (λ s. another (ship_words s) refl)),
)

words_is : (I : Instance) → canonical_words I ≡ front I ++ (codes "end" ∷ []) ∷ []
unfolding canonical_words
words_is I = shape (header_words (canonical_format I)) (map chamber_words I.chambers) (flat_map closings I.chambers) (map ship_words I.ships)
  where
    shape : (header : List (List ℕ)) (a b c : List (List (List ℕ))) → header ∷ a ++ b ++ c ++ (codes "end" ∷ []) ∷ [] ≡ (header ∷ a ++ b ++ c) ++ (codes "end" ∷ []) ∷ []
    shape header a b c = simp append_assoc refl

-- the text without its last line feed
abbrev body : Instance → List ℕ
body I = flat_map line (front I) ++ codes "end"

flat-append : (xs ys : List (List (List ℕ))) → flat_map line (xs ++ ys) ≡ flat_map line xs ++ flat_map line ys
flat-append [] ys = refl
flat-append (x ∷ xs) ys = ap (λ l. line x ++ l) (flat-append xs ys) ∙ sym (append_assoc (line x) (flat_map line xs) (flat_map line ys))

canonical_body : (I : Instance) → canonical I ≡ body I ++ 10 ∷ []
unfolding canonical
canonical_body I = ap (flat_map line) (words_is I) ∙ flat-append (front I) ((codes "end" ∷ []) ∷ []) ∙ sym (append_assoc (flat_map line (front I)) (codes "end") (10 ∷ []))

body_split : (t : List ℕ) → map words (lines t) ++ words [] ∷ [] ≡ map words (lines (t ++ 10 ∷ []))
unfolding lines
body_split t = sym (ap (map words) (lines-append t []) ∙ map-append words (lines t) (lines []))

body_words : (I : Instance) → map words (lines (body I)) ≡ canonical_words I
unfolding canonical
body_words I = push_same (map words (lines (body I))) (canonical_words I) (words []) [] (body_split (body I) ∙ ap (λ t. map words (lines t)) (sym (canonical_body I)) ∙ words_of_text (canonical_words I) (canonical_plain I))

-- the instance part of a canonical text with more after it
pub canonical_part : (I : Instance) (rest : List ℕ) → instance_part (canonical I ++ rest) ≡ canonical I
canonical_part I rest =
    let ends : EndsAt (map words (lines (body I))) = subst EndsAt (sym (body_words I ∙ words_is I)) (ends_after (front I) (front_else I)) in
    ap (λ t. instance_part (t ++ rest)) (canonical_body I) ∙ part_of (body I) rest ends ∙ sym (canonical_body I)

pub canonical_rest : (I : Instance) (rest : List ℕ) → after_instance (canonical I ++ rest) ≡ rest
canonical_rest I rest = ap (λ t. drop (length t) (canonical I ++ rest)) (canonical_part I rest) ∙ drop-append_seam (canonical I) rest
