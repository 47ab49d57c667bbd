-- The chamber that a close line names.
use Rattle.std.proofs.Common.{◌≡◌, ℕ, ◌<◌, ◌≤◌, true, false, List, Ok, Err, Some, None, cond, nat_lt, length, get_or, sym, ap, ◌∙◌, arith}
use Rattle.std.specs.Str.{bytes_eq}
use Rattle.std.specs.List.{position_or_len}
use Rattle.std.specs.Option.{ok_or}
use Rattle.std.proofs.lemmas.Bool.Decides.{nat_tests}
use Rattle.std.proofs.lemmas.List.Sums.{position_or_len_is}
use Rattle.lock_model.specs.Fleet.{no_chamber}
use Rattle.lock_model.specs.declared.chamber.Chamber.{Chamber}
use Rattle.instance_text.specs.declared.bad.Kind.{Kind}
use Rattle.instance_text.specs.declared.bad.Kind.TheVariants.{Unknown}
use Rattle.instance_text.specs.Closing.{chamber_named}

found_at : (n size : ℕ) → n < size → ok_or {E = Kind} (cond (nat_lt n size) (Some n) None) Unknown ≡ Ok n
found_at n size low = let test : nat_lt n size ≡ true = grind (arith, nat_tests) in ap (λ b. ok_or {E = Kind} (cond b (Some n) None) Unknown) test

found_nowhere : (n size : ℕ) → size ≤ n → ok_or {E = Kind} (cond (nat_lt n size) (Some n) None) Unknown ≡ Err Unknown
found_nowhere n size high = let test : nat_lt n size ≡ false = grind (arith, nat_tests) in ap (λ b. ok_or {E = Kind} (cond b (Some n) None) Unknown) test

pub named_at : (chambers : List Chamber) (word : List ℕ) (i : ℕ) → i < length chambers → ((k : ℕ) → k < i → bytes_eq word (get_or chambers k no_chamber).name ≡ false) → bytes_eq word (get_or chambers i no_chamber).name ≡ true → Ok i ≡ chamber_named chambers word
unfolding chamber_named
named_at chambers word i low before here =
    let place : position_or_len (λ c. bytes_eq word c.name) chambers ≡ i = position_or_len_is (λ c. bytes_eq word c.name) chambers i no_chamber (omega arith) before (λ _. here) in
    sym (ap (λ n. ok_or {E = Kind} (cond (nat_lt n (length chambers)) (Some n) None) Unknown) place ∙ found_at i (length chambers) low)

pub named_nowhere : (chambers : List Chamber) (word : List ℕ) (i : ℕ) → length chambers ≤ i → i ≤ length chambers → ((k : ℕ) → k < i → bytes_eq word (get_or chambers k no_chamber).name ≡ false) → Err Unknown ≡ chamber_named chambers word
unfolding chamber_named
named_nowhere chambers word i high low before =
    let place : position_or_len (λ c. bytes_eq word c.name) chambers ≡ i = position_or_len_is (λ c. bytes_eq word c.name) chambers i no_chamber low before (λ more. absurd (omega arith)) in
    sym (ap (λ n. ok_or {E = Kind} (cond (nat_lt n (length chambers)) (Some n) None) Unknown) place ∙ found_nowhere i (length chambers) high)
