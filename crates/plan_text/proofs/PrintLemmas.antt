-- Lines as they are appended, word by word.
use Rattle.std.proofs.Common.{◌≡◌, ℕ, ◌+◌, ◌<◌, List, [], ◌∷◌, ◌++◌, length, take, get_or, codes, ap, sym, ◌∙◌}
use Rattle.std.specs.List.{flat_map}
use Rattle.std.proofs.lemmas.List.{append_assoc, append-nil, take_more}
use Rattle.std.proofs.lemmas.Grind.{flat_map-append}
use Rattle.lock_model.specs.declared.instance.Instance.{Instance}
use Rattle.lock_model.specs.declared.placement.Spot.{Spot}
use Rattle.lock_model.specs.declared.plan.Lockage.{Lockage}
use Rattle.lock_model.specs.declared.plan.Plan.{Plan}
use Rattle.line_text.specs.Printed.{line}
use Rattle.instance_text.proofs.PrintLemmas.{line_is}
use Rattle.plan_text.specs.Printing.{head_words, berths_of, lockage_lines, plan_lines, plan_text}

six : (o p q r s t : List ℕ) → o ++ p ++ q ++ r ++ s ++ t ≡ o ++ (p ++ (q ++ (r ++ (s ++ t))))
six o p q r s t = simp append_assoc

pub head_line : (o n w s : List ℕ) → o ++ codes "lockage" ++ 32 ∷ n ++ 32 ∷ w ++ 32 ∷ s ++ codes "\n" ≡ o ++ line (codes "lockage" ∷ n ∷ w ∷ s ∷ [])
head_line o n w s = six o (codes "lockage") (32 ∷ n) (32 ∷ w) (32 ∷ s) (codes "\n") ∙ ap (λ xs. o ++ xs) (sym (line_is (codes "lockage" ∷ n ∷ w ∷ s ∷ []) (10 ∷ [])))

eight : (o p q r s t u v : List ℕ) → o ++ p ++ q ++ (r ++ s ++ t) ++ u ++ v ≡ o ++ (p ++ (q ++ (r ++ (s ++ (t ++ (u ++ v))))))
eight o p q r s t u v = simp append_assoc

pub berth_line : (o n x y r h : List ℕ) → o ++ codes "berth" ++ 32 ∷ n ++ (32 ∷ x ++ 32 ∷ y ++ 32 ∷ r) ++ 32 ∷ h ++ codes "\n" ≡ o ++ line (codes "berth" ∷ n ∷ x ∷ y ∷ r ∷ h ∷ [])
berth_line o n x y r h = eight o (codes "berth") (32 ∷ n) (32 ∷ x) (32 ∷ y) (32 ∷ r) (32 ∷ h) (codes "\n") ∙ ap (λ xs. o ++ xs) (sym (line_is (codes "berth" ∷ n ∷ x ∷ y ∷ r ∷ h ∷ []) (10 ∷ [])))

-- a line and the lines after it
pub lockage_is : (I : Instance) (l : Lockage) (o first last ships : List ℕ) (spots : List Spot) → ships ≡ l.ships → spots ≡ l.spots → first ≡ o ++ line (head_words I l) → last ≡ first ++ flat_map line (berths_of I ships ships spots) → last ≡ o ++ flat_map line (lockage_lines I l)
unfolding lockage_lines
lockage_is I l o first last ships spots same same' is more =
    more ∙ ap (λ xs. xs ++ flat_map line (berths_of I ships ships spots)) is
    ∙ append_assoc o (line (head_words I l)) (flat_map line (berths_of I ships ships spots))
    ∙ ap (λ ss. o ++ (line (head_words I l) ++ flat_map line (berths_of I ss ss spots))) same
    ∙ ap (λ ps. o ++ (line (head_words I l) ++ flat_map line (berths_of I l.ships l.ships ps))) same'

-- the lines of one lockage more
pub lines_more : (lines : Lockage → List (List (List ℕ))) (o : List ℕ) (ls : List Lockage) (i : ℕ) (d : Lockage) → i < length ls
    → (o ++ flat_map line (flat_map lines (take i ls))) ++ flat_map line (lines (get_or ls i d)) ≡ o ++ flat_map line (flat_map lines (take (i + 1) ls))
lines_more lines o ls i d h =
    let done = flat_map lines (take i ls) in
    let own = lines (get_or ls i d) in
    let more : flat_map lines (take (i + 1) ls) ≡ done ++ own =
    ap (flat_map lines) (take_more ls i d h) ∙ flat_map-append lines (take i ls) (get_or ls i d ∷ []) ∙ ap (λ xs. done ++ xs) (append-nil own) in
    append_assoc o (flat_map line done) (flat_map line own) ∙ ap (λ xs. o ++ xs) (sym (ap (flat_map line) more ∙ flat_map-append line done own))

-- the whole text part by part
pub plan_text_is : (I : Instance) (ls : List Lockage) → flat_map line (plan_lines I ls) ≡ codes "plan\n" ++ flat_map line (flat_map (lockage_lines I) ls) ++ codes "end\n"
unfolding plan_lines
plan_text_is I ls = parts (flat_map (lockage_lines I) ls)
  where
    parts : (a : List (List (List ℕ))) → flat_map line ((codes "plan" ∷ []) ∷ a ++ (codes "end" ∷ []) ∷ []) ≡ codes "plan\n" ++ flat_map line a ++ codes "end\n"
    parts a = simp flat_map-append

pub printed : (I : Instance) (P : Plan) (ls : List Lockage) (a b c d : List ℕ) → ls ≡ P.lockages → a ≡ [] → b ≡ a ++ codes "plan\n" → c ≡ b ++ flat_map line (flat_map (lockage_lines I) ls) → d ≡ c ++ codes "end\n" → d ≡ plan_text I P
unfolding plan_text
printed I P ls a b c d same none first second third =
    third ∙ ap (λ xs. xs ++ codes "end\n") (second ∙ ap (λ xs. xs ++ flat_map line (flat_map (lockage_lines I) ls)) (first ∙ ap (λ xs. xs ++ codes "plan\n") none))
    ∙ sym (plan_text_is I ls) ∙ ap (λ xs. flat_map line (plan_lines I xs)) same
