-- Lines as they are appended, word by word.
use Rattle.std.proofs.Common.{◌≡◌, ℕ, Bool, true, false, cond, List, [], ◌∷◌, ◌++◌, codes, decimal, map, ap, sym, ◌∙◌, refl}
use Rattle.std.specs.List.{join_with_byte, flat_map}
use Rattle.std.proofs.lemmas.List.{append_assoc}
use Rattle.std.proofs.lemmas.Grind.{flat_map-append}
use Rattle.lock_model.specs.declared.instance.Instance.{Instance}
use Rattle.lock_model.specs.declared.chamber.Chamber.{Chamber}
use Rattle.lock_model.specs.declared.ship.Ship.{Ship}
use Rattle.line_text.specs.Printed.{line}
use Rattle.instance_text.specs.declared.format.Format.{Format}
use Rattle.instance_text.specs.Canonical.{field, chamber_words, closings, ship_words, canonical_format, header_words, canonical, canonical_words}

-- words with one space between before a rest
abbrev pub line_before : List (List ℕ) → List ℕ → List ℕ
line_before [] rest = rest
line_before (w ∷ []) rest = w ++ rest
line_before (w ∷ v ∷ more) rest = w ++ 32 ∷ line_before (v ∷ more) rest

pub line_is : (words : List (List ℕ)) (rest : List ℕ) → join_with_byte 32 words ++ rest ≡ line_before words rest
line_is [] rest = refl
line_is (w ∷ []) rest = refl
line_is (w ∷ v ∷ more) rest = append_assoc w (32 ∷ join_with_byte 32 (v ∷ more)) rest ∙ ap (λ xs. w ++ 32 ∷ xs) (line_is (v ∷ more) rest)

-- numbers after spaces before a rest
abbrev fields_before : List ℕ → List ℕ → List ℕ
fields_before [] rest = rest
fields_before (n ∷ more) rest = 32 ∷ (decimal n ++ fields_before more rest)

fields_are : (numbers rest : List ℕ) → flat_map field numbers ++ rest ≡ fields_before numbers rest
unfolding field
fields_are [] rest = refl
fields_are (n ∷ more) rest = append_assoc (field n) (flat_map field more) rest ∙ ap (λ xs. field n ++ xs) (fields_are more rest)

eight : (o p q r s t u v : List ℕ) → o ++ p ++ q ++ r ++ s ++ t ++ u ++ v ≡ o ++ (p ++ (q ++ (r ++ (s ++ (t ++ (u ++ v))))))
eight o p q r s t u v = simp append_assoc

pub ship_line : (o n w : List ℕ) (a b c d e : ℕ) (none : Bool) → o ++ codes "ship " ++ n ++ codes " " ++ w ++ flat_map field (a ∷ b ∷ c ∷ d ∷ []) ++ cond none [] (field e) ++ 10 ∷ [] ≡ o ++ line ((codes "ship" ∷ n ∷ w ∷ decimal a ∷ decimal b ∷ decimal c ∷ decimal d ∷ []) ++ cond none [] (decimal e ∷ []))
unfolding field
ship_line o n w a b c d e true = eight o (codes "ship ") n (codes " ") w (flat_map field (a ∷ b ∷ c ∷ d ∷ [])) [] (10 ∷ [])
    ∙ ap (λ xs. o ++ (codes "ship " ++ (n ++ 32 ∷ (w ++ xs)))) (fields_are (a ∷ b ∷ c ∷ d ∷ []) (10 ∷ []))
    ∙ ap (λ xs. o ++ xs) (sym (line_is (codes "ship" ∷ n ∷ w ∷ decimal a ∷ decimal b ∷ decimal c ∷ decimal d ∷ []) (10 ∷ [])))
ship_line o n w a b c d e false = eight o (codes "ship ") n (codes " ") w (flat_map field (a ∷ b ∷ c ∷ d ∷ [])) (field e) (10 ∷ [])
    ∙ ap (λ xs. o ++ (codes "ship " ++ (n ++ 32 ∷ (w ++ xs)))) (fields_are (a ∷ b ∷ c ∷ d ∷ []) (field e ++ 10 ∷ []))
    ∙ ap (λ xs. o ++ xs) (sym (line_is (codes "ship" ∷ n ∷ w ∷ decimal a ∷ decimal b ∷ decimal c ∷ decimal d ∷ decimal e ∷ []) (10 ∷ [])))

nine : (o p q r s t u v w : List ℕ) → o ++ p ++ q ++ r ++ s ++ t ++ u ++ v ++ w ≡ o ++ (p ++ (q ++ (r ++ (s ++ (t ++ (u ++ (v ++ w)))))))
nine o p q r s t u v w = simp append_assoc

pub chamber_line : (o n : List ℕ) (a b c d e f g h : ℕ) (s : List ℕ) (i : ℕ) → o ++ codes "chamber " ++ n ++ flat_map field (a ∷ b ∷ c ∷ d ∷ e ∷ []) ++ flat_map field (f ∷ g ∷ h ∷ []) ++ codes " " ++ s ++ field i ++ 10 ∷ [] ≡ o ++ line (codes "chamber" ∷ n ∷ decimal a ∷ decimal b ∷ decimal c ∷ decimal d ∷ decimal e ∷ decimal f ∷ decimal g ∷ decimal h ∷ s ∷ decimal i ∷ [])
unfolding field
chamber_line o n a b c d e f g h s i = nine o (codes "chamber ") n (flat_map field (a ∷ b ∷ c ∷ d ∷ e ∷ [])) (flat_map field (f ∷ g ∷ h ∷ [])) (codes " ") s (field i) (10 ∷ [])
    ∙ ap (λ xs. o ++ (codes "chamber " ++ (n ++ xs))) (fields_are (a ∷ b ∷ c ∷ d ∷ e ∷ []) (flat_map field (f ∷ g ∷ h ∷ []) ++ (codes " " ++ (s ++ (field i ++ 10 ∷ [])))))
    ∙ ap (λ xs. o ++ (codes "chamber " ++ (n ++ fields_before (a ∷ b ∷ c ∷ d ∷ e ∷ []) xs))) (fields_are (f ∷ g ∷ h ∷ []) (codes " " ++ (s ++ (field i ++ 10 ∷ []))))
    ∙ ap (λ xs. o ++ xs) (sym (line_is (codes "chamber" ∷ n ∷ decimal a ∷ decimal b ∷ decimal c ∷ decimal d ∷ decimal e ∷ decimal f ∷ decimal g ∷ decimal h ∷ s ∷ decimal i ∷ []) (10 ∷ [])))

five : (o p q r s : List ℕ) → o ++ p ++ q ++ r ++ s ≡ o ++ (p ++ (q ++ (r ++ s)))
five o p q r s = simp append_assoc

pub closing_line : (o n : List ℕ) (a b : ℕ) → o ++ codes "close " ++ n ++ flat_map field (a ∷ b ∷ []) ++ 10 ∷ [] ≡ o ++ line (codes "close" ∷ n ∷ decimal a ∷ decimal b ∷ [])
closing_line o n a b = five o (codes "close ") n (flat_map field (a ∷ b ∷ [])) (10 ∷ [])
    ∙ ap (λ xs. o ++ (codes "close " ++ (n ++ xs))) (fields_are (a ∷ b ∷ []) (10 ∷ []))
    ∙ ap (λ xs. o ++ xs) (sym (line_is (codes "close" ∷ n ∷ decimal a ∷ decimal b ∷ []) (10 ∷ [])))

-- the canonical text part by part
pub canonical_is : (I : Instance) → canonical I ≡ line (header_words (canonical_format I)) ++ flat_map line (map chamber_words I.chambers) ++ flat_map line (flat_map closings I.chambers) ++ flat_map line (map ship_words I.ships) ++ codes "end\n"
unfolding canonical canonical_words
canonical_is I = parts (header_words (canonical_format I)) (map chamber_words I.chambers) (flat_map closings I.chambers) (map ship_words I.ships)
  where
    parts : (header : List (List ℕ)) (a b c : List (List (List ℕ))) → flat_map line (header ∷ a ++ b ++ c ++ (codes "end" ∷ []) ∷ []) ≡ line header ++ flat_map line a ++ flat_map line b ++ flat_map line c ++ codes "end\n"
    parts header a b c = simp flat_map-append

-- what is printed step by step
pub printed : (I : Instance) (cs : List Chamber) (ss : List Ship) (format : Format) (a b c d e f : List ℕ) → cs ≡ I.chambers → ss ≡ I.ships → format ≡ canonical_format I → a ≡ [] → b ≡ a ++ line (header_words format) → c ≡ b ++ flat_map line (map chamber_words cs) → d ≡ c ++ flat_map line (flat_map closings cs) → e ≡ d ++ flat_map line (map ship_words ss) → f ≡ e ++ codes "end\n" → f ≡ canonical I
printed I cs ss format a b c d e f cs_is ss_is format_is a_is b_is c_is d_is e_is f_is =
    let header : b ≡ line (header_words (canonical_format I)) = b_is ∙ ap (λ xs. xs ++ line (header_words format)) a_is ∙ ap (λ f. line (header_words f)) format_is in
    let chambers : c ≡ line (header_words (canonical_format I)) ++ flat_map line (map chamber_words I.chambers) = c_is ∙ ap (λ xs. xs ++ flat_map line (map chamber_words cs)) header ∙ ap (λ xs. line (header_words (canonical_format I)) ++ flat_map line (map chamber_words xs)) cs_is in
    let closed = d_is ∙ ap (λ xs. xs ++ flat_map line (flat_map closings cs)) chambers ∙ ap (λ xs. line (header_words (canonical_format I)) ++ flat_map line (map chamber_words I.chambers) ++ flat_map line (flat_map closings xs)) cs_is in
    let shipped = e_is ∙ ap (λ xs. xs ++ flat_map line (map ship_words ss)) closed ∙ ap (λ xs. line (header_words (canonical_format I)) ++ flat_map line (map chamber_words I.chambers) ++ flat_map line (flat_map closings I.chambers) ++ flat_map line (map ship_words xs)) ss_is in
    f_is ∙ ap (λ xs. xs ++ codes "end\n") shipped ∙ sym (canonical_is I)
