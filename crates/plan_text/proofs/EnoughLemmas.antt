-- The first thirteen words of a line tell as much as all of them.
use Rattle.std.proofs.Common.{◌≡◌, ℕ, List, length, take, lit<}
use Rattle.lock_model.specs.declared.instance.Instance.{Instance}
use Rattle.line_text.specs.Steps.{◌>>=◌}
use Rattle.line_text.proofs.EnoughLemmas.{word_enough, length_enough}
use Rattle.plan_text.specs.declared.berth.Berth.{Berth}
use Rattle.plan_text.specs.Faults.{at_line}
use Rattle.plan_text.specs.Draft.{Draft, close}
use Rattle.plan_text.specs.Lines.{read_head, read_berth, add_berth, add_lockage, read_end, read_other, read_line}

read_head-take : (I : Instance) (count : ℕ) (words : List (List ℕ)) → read_head I count (take 13 words) ≡ read_head I count words
unfolding read_head
read_head-take I count words = simp (length_enough words 4 (lit< tt), word_enough words 1 (lit< tt), word_enough words 2 (lit< tt), word_enough words 3 (lit< tt))

read_berth-take : (I : Instance) (n : ℕ) (berths : List Berth) (words : List (List ℕ)) → read_berth I n berths (take 13 words) ≡ read_berth I n berths words
unfolding read_berth
read_berth-take I n berths words = simp (length_enough words 6 (lit< tt), word_enough words 1 (lit< tt), word_enough words 2 (lit< tt), word_enough words 3 (lit< tt), word_enough words 4 (lit< tt), word_enough words 5 (lit< tt))

add_berth-take : (I : Instance) (n : ℕ) (draft : Draft) (words : List (List ℕ)) → add_berth I n draft (take 13 words) ≡ add_berth I n draft words
unfolding add_berth
add_berth-take I n draft words = simp (read_berth-take I n draft.berths words)

add_lockage-take : (I : Instance) (draft : Draft) (words : List (List ℕ)) → add_lockage I draft (take 13 words) ≡ add_lockage I draft words
unfolding add_lockage
add_lockage-take I draft words = simp (read_head-take I (length draft.lockages) words)

read_end-take : (draft : Draft) (words : List (List ℕ)) → read_end draft (take 13 words) ≡ read_end draft words
unfolding read_end
read_end-take draft words = simp (length_enough words 1 (lit< tt))

read_other-take : (I : Instance) (draft : Draft) (words : List (List ℕ)) → read_other I draft (take 13 words) ≡ read_other I draft words
unfolding read_other
read_other-take I draft words = simp (word_enough words 0 (lit< tt), add_lockage-take I draft words, read_end-take draft words)

pub read_line-take : (I : Instance) (n : ℕ) (draft : Draft) (words : List (List ℕ)) → read_line I n draft (take 13 words) ≡ read_line I n draft words
unfolding read_line
read_line-take I n draft words =
    let closed : (close I draft >>= (λ whole. at_line n (read_other I whole (take 13 words)))) ≡ (close I draft >>= (λ whole. at_line n (read_other I whole words))) = λ i. close I draft >>= (λ whole. at_line n (read_other-take I whole words i)) in
    simp (length_enough words 0 (lit< tt), word_enough words 0 (lit< tt), add_berth-take I n draft words, closed)
