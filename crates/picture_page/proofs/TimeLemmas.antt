-- How many characters times of day and lengths have.
use Rattle.std.proofs.Common.{◌≡◌, ℕ, ◌+◌, ◌<◌, ◌/◌, ◌%◌, [], ◌∷◌, ◌++◌, length, decimal, codes, refl, ap, ◌∙◌, arith}
use Rattle.std.proofs.lemmas.Fmt.{decimal_digit}
use Rattle.std.proofs.lemmas.List.{length-append}
use Rattle.picture_page.specs.Forms.{filled}
use Rattle.picture_page.specs.Words.{metres}
use Rattle.picture_page.specs.Times.{day_text, hours_text, day_time_text}

-- four digits and a colon
four_digits : (a b c d : ℕ) → a < 10 → b < 10 → c < 10 → d < 10 → length (decimal a ++ (decimal b ++ (58 ∷ (decimal c ++ (decimal d ++ []))))) ≡ 5
four_digits a b c d ha hb hc hd = rw (decimal_digit a ha, decimal_digit b hb, decimal_digit c hc, decimal_digit d hd) refl

pub hours-length : (time : ℕ) → time < 1440 → length (hours_text time) ≡ 5
unfolding filled
hours-length time h = four_digits (time / 600) (time / 60 % 10) (time % 60 / 10) (time % 10) (omega arith) (omega arith) (omega arith) (omega arith)

pub day_time-length : (offset minute : ℕ) → length (day_time_text offset minute) ≡ length (day_text (minute / 1440 + (minute % 1440 + offset) / 1440)) + 5
unfolding day_time_text
day_time-length offset minute =
    length-append (day_text (minute / 1440 + (minute % 1440 + offset) / 1440)) (hours_text ((minute % 1440 + offset) % 1440))
    ∙ ap (λ n. length (day_text (minute / 1440 + (minute % 1440 + offset) / 1440)) + n) (hours-length ((minute % 1440 + offset) % 1440) (omega arith))

-- a number between `+` and a space
pub day_form-length : (day : ℕ) → length (filled (codes "+% ") (day ∷ [])) ≡ length (decimal day) + 2
unfolding filled
day_form-length day = omega (arith, length-append (decimal day) (32 ∷ []))

-- a length in metres has one digit behind its point
pub metres-length : (v : ℕ) → length (metres v) ≡ length (decimal (v / 10)) + 2
unfolding metres filled
metres-length v =
    let last : decimal (v % 10) ≡ (48 + v % 10) ∷ [] = decimal_digit (v % 10) (omega arith) in
    rw last (omega (arith, length-append (decimal (v / 10)) (46 ∷ (48 + v % 10) ∷ [])))

pub ruleset of_widths = (day_time-length, day_form-length, metres-length)
