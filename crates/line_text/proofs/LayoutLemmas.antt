-- How a text of plain words falls into lines and words again.
use Rattle.std.proofs.Common.{◌≡◌, ◌≢◌, ℕ, ◌-◌, ◌<◌, ◌≤◌, ◌==◌, true, false, cond, List, [], ◌∷◌, ◌++◌, length, take, map, filter, get_or, All, ap, refl, ◌∙◌, ⊎_elim, arith}
use Rattle.std.specs.List.{slice_split, before_first, join_with_byte, flat_map}
use Rattle.std.specs.Str.{is_utf8, IsAscii}
use Rattle.std.specs.Str.Lines.{strip_carriage_return}
use Rattle.std.proofs.lemmas.Bool.{cases_lt}
use Rattle.std.proofs.lemmas.Bool.Decides.{nat_tests}
use Rattle.std.proofs.lemmas.List.{append_assoc, take_all, get_or_past}
use Rattle.std.proofs.lemmas.List.Elements.{All-nil, All-cons, All-append, All-weaker, All-head, All-tail}
use Rattle.std.proofs.lemmas.List.Splits.{slice_split_at, slice_split_none}
use Rattle.std.proofs.lemmas.List.Sums.{position_or_len_is}
use Rattle.std.proofs.lemmas.Str.{IsUtf8-from_ascii, is_utf8-from_IsUtf8}
use Rattle.lock_model.specs.Limits.{Within}
use Rattle.line_text.specs.Lines.{is_blank, is_hash, is_line_feed, is_word, lines, words, content}
use Rattle.line_text.specs.Printed.{line}

-- a word of bytes from `*` to `z`
pub record IsPlain (word : List ℕ) : Type 0 where
  pub filled : 0 < length word
  pub allowed : All (Within 42 122) word

abbrev pub ArePlain : List (List ℕ) → Type 0
ArePlain [] = Unit {0}
ArePlain (w ∷ ws) = IsPlain w × ArePlain ws

-- lines that have words, all of them plain
abbrev pub AreLines : List (List (List ℕ)) → Type 0
AreLines [] = Unit {0}
AreLines (ws ∷ more) = (0 < length ws) × ArePlain ws × AreLines more

pub AreLines-append : (xs ys : List (List (List ℕ))) → AreLines xs → AreLines ys → AreLines (xs ++ ys)
AreLines-append [] ys first second = second
AreLines-append (x ∷ xs) ys first second = (first.0, first.1, AreLines-append xs ys first.2 second)

pub AreLines-map : {X : Type 0} (f : X → List (List ℕ)) (P : X → Type 0) (xs : List X) → ((x : X) → P x → (0 < length (f x)) × ArePlain (f x)) → All P xs → AreLines (map f xs)
AreLines-map f P [] plain all = tt
AreLines-map f P (x ∷ xs) plain all = let first = plain x (All-head P x xs all) in (first.0, first.1, AreLines-map f P xs plain (All-tail P x xs all))

-- what holds of spaces and of the bytes of plain words holds of each byte of a line
join_bytes : (P : ℕ → Type 0) → P 32 → ((b : ℕ) → Within 42 122 b → P b) → (ws : List (List ℕ)) → ArePlain ws → All P (join_with_byte 32 ws)
join_bytes P space byte [] plain = All-nil P
join_bytes P space byte (w ∷ []) plain = All-weaker (Within 42 122) P byte w plain.0.allowed
join_bytes P space byte (w ∷ v ∷ more) plain =
    All-append P w (32 ∷ join_with_byte 32 (v ∷ more)) (All-weaker (Within 42 122) P byte w plain.0.allowed) (All-cons P 32 (join_with_byte 32 (v ∷ more)) space (join_bytes P space byte (v ∷ more) plain.1))

not_blank : (b : ℕ) → Within 42 122 b → is_blank b ≡ false
not_blank b h = let low = h.0 in grind (arith, nat_tests)

split_words : (ws : List (List ℕ)) → 0 < length ws → ArePlain ws → slice_split is_blank (join_with_byte 32 ws) ≡ ws
split_words [] some plain = absurd (omega arith)
split_words (w ∷ []) some plain = slice_split_none is_blank w (All-weaker (Within 42 122) (λ b. is_blank b ≡ false) not_blank w plain.0.allowed)
split_words (w ∷ v ∷ more) some plain =
    slice_split_at is_blank w 32 (join_with_byte 32 (v ∷ more)) (All-weaker (Within 42 122) (λ b. is_blank b ≡ false) not_blank w plain.0.allowed) refl
    ∙ ap (λ ps. w ∷ ps) (split_words (v ∷ more) (omega arith) plain.1)

filter_words : (ws : List (List ℕ)) → ArePlain ws → filter is_word ws ≡ ws
filter_words [] plain = refl
filter_words ([] ∷ ws) plain = let some = plain.0.filled in absurd (omega arith)
filter_words ((b ∷ bs) ∷ ws) plain = ap (λ xs. (b ∷ bs) ∷ xs) (filter_words ws plain.1)

strip_plain : (l : List ℕ) → All (λ b. b ≢ 13) l → strip_carriage_return l ≡ l
strip_plain l none =
    let last : get_or l (length l - 1) 0 ≢ 13 = ⊎_elim (λ (low : length l - 1 < length l). none (length l - 1) 0 low) (λ (high : length l ≤ length l - 1). λ same. let past = get_or_past l (length l - 1) 0 high in omega arith) (cases_lt (length l - 1) (length l)) in
    let test : (get_or l (length l - 1) 0 == 13) ≡ false = grind (arith, nat_tests) in
    ap (λ t. cond t (take (length l - 1) l) l) test

uncommented : (l : List ℕ) → All (λ b. is_hash b ≡ false) l → before_first is_hash l ≡ l
uncommented l none =
    ap (λ n. take n l) (position_or_len_is is_hash l (length l) 0 (omega arith) (λ k low. none k 0 low) (λ more. absurd (omega arith))) ∙ take_all (length l) l (omega arith)

words_of_line : (ws : List (List ℕ)) → 0 < length ws → ArePlain ws → words (join_with_byte 32 ws) ≡ ws
unfolding words content
words_of_line ws some plain =
    let stripped = strip_plain (join_with_byte 32 ws) (join_bytes (λ b. b ≢ 13) (λ e. omega arith) (λ b range e. let low = range.0 in omega arith) ws plain) in
    let bare = uncommented (join_with_byte 32 ws) (join_bytes (λ b. is_hash b ≡ false) refl (λ b range. let low = range.0 in grind (arith, nat_tests)) ws plain) in
    ap (λ l. filter is_word (slice_split is_blank (before_first is_hash l))) stripped ∙ ap (λ l. filter is_word (slice_split is_blank l)) bare ∙ ap (filter is_word) (split_words ws some plain) ∙ filter_words ws plain

-- the words of the lines of a text are those that it was made of, and an empty last line
pub words_of_text : (wss : List (List (List ℕ))) → AreLines wss → map words (lines (flat_map line wss)) ≡ wss ++ [] ∷ []
unfolding lines words content
words_of_text [] plain = refl
words_of_text (ws ∷ more) plain =
    let text : flat_map line (ws ∷ more) ≡ join_with_byte 32 ws ++ 10 ∷ flat_map line more = append_assoc (join_with_byte 32 ws) (10 ∷ []) (flat_map line more) in
    let cut = slice_split_at is_line_feed (join_with_byte 32 ws) 10 (flat_map line more) (join_bytes (λ b. is_line_feed b ≡ false) refl (λ b range. let low = range.0 in grind (arith, nat_tests)) ws plain.1) refl in
    ap (λ t. map words (slice_split is_line_feed t)) text ∙ ap (map words) cut ∙ ap (λ w. w ∷ map words (slice_split is_line_feed (flat_map line more))) (words_of_line ws plain.0 plain.1) ∙ ap (λ xs. ws ∷ xs) (words_of_text more plain.2)

-- and the text is ASCII
text_bytes : (wss : List (List (List ℕ))) → AreLines wss → All (λ b. b < 128) (flat_map line wss)
text_bytes [] plain = All-nil (λ b. b < 128)
text_bytes (ws ∷ more) plain =
    All-append (λ b. b < 128) (line ws) (flat_map line more)
    (All-append (λ b. b < 128) (join_with_byte 32 ws) (10 ∷ []) (join_bytes (λ b. b < 128) (omega arith) (λ b range. let high = range.1 in omega arith) ws plain.1) (All-cons (λ b. b < 128) 10 [] (omega arith) (All-nil (λ b. b < 128))))
    (text_bytes more plain.2)

pub is_utf8-text : (wss : List (List (List ℕ))) → AreLines wss → is_utf8 (flat_map line wss) ≡ true
is_utf8-text wss plain = is_utf8-from_IsUtf8 (flat_map line wss) (IsUtf8-from_ascii (flat_map line wss) ascii)
  where
    ascii : IsAscii (flat_map line wss)
    ascii i = ⊎_elim (λ (low : i < length (flat_map line wss)). text_bytes wss plain i 0 low) (λ (high : length (flat_map line wss) ≤ i). let past = get_or_past (flat_map line wss) i 0 high in omega arith) (cases_lt i (length (flat_map line wss)))
