-- The words of a line, one after the other.
use Rattle.std.proofs.Common.{◌≡◌, ◌≢◌, ℕ, zero, suc, ◌<◌, ◌≤◌, false, List, [], ◌∷◌, ◌++◌, length, take, filter, get_or, sym, ap, refl, ◌∙◌, arith, eq-eqb}
use Rattle.std.proofs.lemmas.List.{take_all, take_at, append_assoc, append-nil, length_push}
use Rattle.std.proofs.lemmas.List.Sums.{position_or_len_is}
use Rattle.std.specs.List.{before_first}
use Rattle.line_text.specs.Lines.{is_hash, is_word}

pub before_hash : (line : List ℕ) (i : ℕ) → i < length line → ((k : ℕ) → k < i → is_hash (get_or line k 0) ≡ false) → get_or line i 0 ≡ 35 → take i line ≡ before_first is_hash line
before_hash line i low before here =
    ap (λ n. take n line) (sym (position_or_len_is is_hash line i 0 (omega arith) before (λ _. eq-eqb (get_or line i 0) 35 here)))

pub before_end : (line : List ℕ) (i : ℕ) → length line ≤ i → i ≤ length line → ((k : ℕ) → k < i → is_hash (get_or line k 0) ≡ false) → line ≡ before_first is_hash line
before_end line i high low before =
    sym (take_all i line high) ∙ ap (λ n. take n line) (sym (position_or_len_is is_hash line i 0 low before (λ more. absurd (omega arith))))

pub take-take-append : {X : Type 0} (n : ℕ) (xs ys : List X) → take n (take n xs ++ ys) ≡ take n (xs ++ ys)
take-take-append zero xs ys = refl
take-take-append (suc n) [] ys = refl
take-take-append (suc n) (x ∷ xs) ys = ap (λ more. x ∷ more) (take-take-append n xs ys)

-- one more piece, of which an empty one is no word
pub more_words : (n : ℕ) (found new : List (List ℕ)) (piece : List ℕ) (more all : List (List ℕ)) → new ≡ take n (found ++ filter is_word (piece ∷ [])) → take n (found ++ filter is_word (piece ∷ more)) ≡ all → take n (new ++ filter is_word more) ≡ all
more_words n found new [] more all is whole =
    ap (λ xs. take n (xs ++ filter is_word more)) is ∙ take-take-append n (found ++ []) (filter is_word more) ∙ ap (take n) (append_assoc found [] (filter is_word more)) ∙ whole
more_words n found new (b ∷ bs) more all is whole =
    ap (λ xs. take n (xs ++ filter is_word more)) is ∙ take-take-append n (found ++ (b ∷ bs) ∷ []) (filter is_word more) ∙ ap (take n) (append_assoc found ((b ∷ bs) ∷ []) (filter is_word more)) ∙ whole

-- at the end all that were found are the words
pub all_words : (n : ℕ) (found all : List (List ℕ)) → length found ≤ n → take n (found ++ []) ≡ all → found ≡ all
all_words n found all few whole = sym (take_all n found few) ∙ ap (take n) (sym (append-nil found)) ∙ whole

-- where there are n words no piece adds one
pub full_words : (n : ℕ) (found more : List (List ℕ)) → length found ≡ n → found ≡ take n (found ++ more)
full_words n found more full = sym (take_at found more n full)

-- an empty piece adds none
pub skip_word : (n : ℕ) (found : List (List ℕ)) (piece : List ℕ) → length found ≤ n → length piece ≡ 0 → found ≡ take n (found ++ filter is_word (piece ∷ []))
skip_word n found [] few empty = sym (ap (take n) (append-nil found) ∙ take_all n found few)
skip_word n found (b ∷ bs) few empty = absurd (omega arith)

-- and another is one more word
pub push_word : (n : ℕ) (found new : List (List ℕ)) (piece : List ℕ) → new ≡ found ++ piece ∷ [] → length found < n → length piece ≢ 0 → new ≡ take n (found ++ filter is_word (piece ∷ []))
push_word n found new [] is room filled = absurd (filled refl)
push_word n found new (b ∷ bs) is room filled = is ∙ sym (take_all n (found ++ (b ∷ bs) ∷ []) (omega (arith, length_push found (b ∷ bs))))
