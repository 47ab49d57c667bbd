-- How long the instance part of a text is, and what comes after it.
use Rattle.std.proofs.Common.{◌≡◌, ℕ, ◌+◌, ◌-◌, ◌≤◌, Bool, true, false, cond, min, List, [], ◌∷◌, length, take, drop, take_all, length-take, length-drop, ap, ◌∙◌, arith}
use Rattle.line_text.specs.Lines.{lines, words}
use Rattle.instance_text.specs.Reading.{length_of_part, is_end, instance_part, after_instance}

pub begun : (parts lines : List (List ℕ)) → parts ≡ lines → 0 + length_of_part parts ≡ length_of_part lines
begun parts lines same = let e = ap length_of_part same in omega arith

-- what the next line adds
next_line : (parts more : List (List ℕ)) (line : List ℕ) (b : Bool) → parts ≡ line ∷ more → is_end (words line) ≡ b → length_of_part parts ≡ length line + 1 + cond b 0 (length_of_part more)
next_line parts more line b next is = ap length_of_part next ∙ ap (λ t. length line + 1 + cond t 0 (length_of_part more)) is

pub ended : (taken all : ℕ) (parts more : List (List ℕ)) (line : List ℕ) → taken + length_of_part parts ≡ all → parts ≡ line ∷ more → is_end (words line) ≡ true → taken + (length line + 1) ≡ all
ended taken all parts more line whole next is = let e = next_line parts more line true next is in omega arith

pub goes_on : (taken all : ℕ) (parts more : List (List ℕ)) (line : List ℕ) → taken + length_of_part parts ≡ all → parts ≡ line ∷ more → is_end (words line) ≡ false → taken + (length line + 1) + length_of_part more ≡ all
goes_on taken all parts more line whole next is = let e = next_line parts more line false next is in omega arith

pub whole : (taken all size room : ℕ) (parts : List (List ℕ)) → taken + room ≡ size + 1 → taken + length_of_part parts ≡ all → parts ≡ [] → room ≡ 0 → size ≡ min all size
whole taken all size room parts counted rest none over = let e = ap length_of_part none in omega arith

pub part_fits : (text : List ℕ) (taken : ℕ) → taken ≡ length (instance_part text) → taken ≤ length text
unfolding instance_part
part_fits text taken is = let short = length-take (length_of_part (lines text)) text in omega arith

pub rest_is : (text : List ℕ) (taken : ℕ) → taken ≡ length (instance_part text) → take (length text - taken) (drop taken text) ≡ after_instance text
rest_is text taken is = take_all (length text - taken) (drop taken text) (let size = length-drop taken text in omega arith) ∙ ap (λ n. drop n text) is
