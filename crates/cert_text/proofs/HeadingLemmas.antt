-- The first line with words, and the bytes after it.
use Rattle.std.proofs.Common.{◌≡◌, ◌∙◌, ℕ, false, cond, List, [], ◌∷◌, ◌++◌, codes, length, Some, Ok, option_map, refl, sym, ap}
use Rattle.std.specs.Prelude.{◌==◌}
use Rattle.std.specs.List.{join_with_byte}
use Rattle.line_text.specs.Left.{Left, lines_left, bytes_left}
use Rattle.line_text.specs.Lines.{lines, words, content}
use Rattle.line_text.proofs.LeftLemmas.{joined}
use Rattle.line_text.proofs.AppendLemmas.{lines-append, join-lines}
use Rattle.line_text.specs.Filled.{first_line}
use Rattle.cert_text.specs.Heading.{with_rest, heading_of, headed}
use Rattle.cert_text.specs.Dossier.{heading_line, version_under}
use Rattle.cert_text.specs.declared.heading.Form.{Form}
use Rattle.cert_text.specs.declared.heading.Form.TheVariants as form
use Rattle.cert_text.specs.declared.heading.Version.{Version}
use Rattle.cert_text.specs.declared.heading.Version.TheVariants.{First, Second, Third, Fourth}
use Rattle.cert_text.specs.declared.heading.Heading.{Heading}
use Rattle.cert_text.specs.declared.heading.Heading.TheVariants.{Whole, Open}

-- the first line has words
on_line : (line : List ℕ) (more : List (List ℕ)) → (length (words line) == 0) ≡ false → first_line 0 (line ∷ more) ≡ Ok (record { number = 1; line = line; more = more })
on_line line more filled = ap (λ t. cond t (first_line 1 more) (Ok (record { number = 1; line = line; more = more }))) filled

-- what is found of a text is found from its lines that are left
pub found : (text rest line : List ℕ) (left : List (List ℕ)) (n : ℕ) (more : Left) (h : Heading) → left ≡ lines text → first_line 0 left ≡ Ok (record { number = n; line = line; more = lines_left more }) → Some h ≡ heading_of (words line) → rest ≡ bytes_left more → Some (h, rest) ≡ headed text
unfolding headed
found text rest line left n more h all first heading is =
    ap (λ r. Some (h, r)) (is ∙ sym (joined more.bytes))
    ∙ ap (option_map (λ g. (g, join_with_byte 10 (lines_left more)))) heading
    ∙ sym (ap (λ ls. with_rest (first_line 0 ls)) (sym all) ∙ ap with_rest first)

certificate_words : words (codes "certificate") ≡ codes "certificate" ∷ []
unfolding words content
certificate_words = refl

second_words : words (codes "certificate 2") ≡ codes "certificate" ∷ codes "2" ∷ []
unfolding words content
second_words = refl

third_words : words (codes "certificate 3") ≡ codes "certificate" ∷ codes "3" ∷ []
unfolding words content
third_words = refl

fourth_words : words (codes "certificate 4") ≡ codes "certificate" ∷ codes "4" ∷ []
unfolding words content
fourth_words = refl

first_is : heading_of (codes "certificate" ∷ []) ≡ Some (Whole First)
unfolding heading_of
first_is = refl

second_is : heading_of (codes "certificate" ∷ codes "2" ∷ []) ≡ Some (Whole Second)
unfolding heading_of
second_is = refl

third_is : heading_of (codes "certificate" ∷ codes "3" ∷ []) ≡ Some (Whole Third)
unfolding heading_of
third_is = refl

fourth_is : heading_of (codes "certificate" ∷ codes "4" ∷ []) ≡ Some (Whole Fourth)
unfolding heading_of
fourth_is = refl

lines_of_first : lines (codes "certificate") ≡ codes "certificate" ∷ []
unfolding lines
lines_of_first = refl

lines_of_second : lines (codes "certificate 2") ≡ codes "certificate 2" ∷ []
unfolding lines
lines_of_second = refl

lines_of_third : lines (codes "certificate 3") ≡ codes "certificate 3" ∷ []
unfolding lines
lines_of_third = refl

lines_of_fourth : lines (codes "certificate 4") ≡ codes "certificate 4" ∷ []
unfolding lines
lines_of_fourth = refl

-- a text that begins with a heading
begins : (text line rest : List ℕ) (ws : List (List ℕ)) (h : Heading) → lines line ≡ line ∷ [] → words line ≡ ws → (length ws == 0) ≡ false → heading_of ws ≡ Some h → text ≡ line ++ 10 ∷ rest → headed text ≡ Some (h, rest)
unfolding headed
begins text line rest ws h one is some heading whole =
    ap (λ t. with_rest (first_line 0 (lines t))) whole
    ∙ ap (λ ls. with_rest (first_line 0 ls)) (lines-append line rest ∙ ap (λ l. l ++ lines rest) one)
    ∙ ap with_rest (on_line line (lines rest) (ap (λ w. length w == 0) is ∙ some))
    ∙ ap (option_map (λ g. (g, join_with_byte 10 (lines rest)))) (ap heading_of is ∙ heading)
    ∙ ap (λ r. Some (h, r)) (join-lines rest)

open_words : words (codes "certificate open") ≡ codes "certificate" ∷ codes "open" ∷ []
unfolding words content
open_words = refl

open_third_words : words (codes "certificate open 3") ≡ codes "certificate" ∷ codes "open" ∷ codes "3" ∷ []
unfolding words content
open_third_words = refl

open_fourth_words : words (codes "certificate open 4") ≡ codes "certificate" ∷ codes "open" ∷ codes "4" ∷ []
unfolding words content
open_fourth_words = refl

open_is : heading_of (codes "certificate" ∷ codes "open" ∷ []) ≡ Some (Open Second)
unfolding heading_of
open_is = refl

open_third_is : heading_of (codes "certificate" ∷ codes "open" ∷ codes "3" ∷ []) ≡ Some (Open Third)
unfolding heading_of
open_third_is = refl

open_fourth_is : heading_of (codes "certificate" ∷ codes "open" ∷ codes "4" ∷ []) ≡ Some (Open Fourth)
unfolding heading_of
open_fourth_is = refl

lines_of_open : lines (codes "certificate open") ≡ codes "certificate open" ∷ []
unfolding lines
lines_of_open = refl

lines_of_open_third : lines (codes "certificate open 3") ≡ codes "certificate open 3" ∷ []
unfolding lines
lines_of_open_third = refl

lines_of_open_fourth : lines (codes "certificate open 4") ≡ codes "certificate open 4" ∷ []
unfolding lines
lines_of_open_fourth = refl

-- a heading that says the form and the version, before these bytes
pub record IsHeaded (own : Form) (version : Version) (text rest : List ℕ) : Type 0 where
  pub heading : Heading
  pub found : headed text ≡ Some (heading, rest)
  pub is : version_under own heading ≡ Some version

-- the heading that is printed is found, but that no open one is of the first version
pub heading_back : (own : Form) (version : Version) (rest : List ℕ) → (own ≡ form.Open → version ≡ First → ⊥) → IsHeaded own version (heading_line own version ++ rest) rest
heading_back form.Whole First rest later = record {
  heading = Whole First;
  found = begins (heading_line form.Whole First ++ rest) (codes "certificate") rest (codes "certificate" ∷ []) (Whole First) lines_of_first certificate_words refl first_is refl;
  is = refl;
}
heading_back form.Whole Second rest later = record {
  heading = Whole Second;
  found = begins (heading_line form.Whole Second ++ rest) (codes "certificate 2") rest (codes "certificate" ∷ codes "2" ∷ []) (Whole Second) lines_of_second second_words refl second_is refl;
  is = refl;
}
heading_back form.Whole Third rest later = record {
  heading = Whole Third;
  found = begins (heading_line form.Whole Third ++ rest) (codes "certificate 3") rest (codes "certificate" ∷ codes "3" ∷ []) (Whole Third) lines_of_third third_words refl third_is refl;
  is = refl;
}
heading_back form.Whole Fourth rest later = record {
  heading = Whole Fourth;
  found = begins (heading_line form.Whole Fourth ++ rest) (codes "certificate 4") rest (codes "certificate" ∷ codes "4" ∷ []) (Whole Fourth) lines_of_fourth fourth_words refl fourth_is refl;
  is = refl;
}
heading_back form.Open First rest later = absurd (later refl refl)
heading_back form.Open Second rest later = record {
  heading = Open Second;
  found = begins (heading_line form.Open Second ++ rest) (codes "certificate open") rest (codes "certificate" ∷ codes "open" ∷ []) (Open Second) lines_of_open open_words refl open_is refl;
  is = refl;
}
heading_back form.Open Third rest later = record {
  heading = Open Third;
  found = begins (heading_line form.Open Third ++ rest) (codes "certificate open 3") rest (codes "certificate" ∷ codes "open" ∷ codes "3" ∷ []) (Open Third) lines_of_open_third open_third_words refl open_third_is refl;
  is = refl;
}
heading_back form.Open Fourth rest later = record {
  heading = Open Fourth;
  found = begins (heading_line form.Open Fourth ++ rest) (codes "certificate open 4") rest (codes "certificate" ∷ codes "open" ∷ codes "4" ∷ []) (Open Fourth) lines_of_open_fourth open_fourth_words refl open_fourth_is refl;
  is = refl;
}
