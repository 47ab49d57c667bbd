-- Numbers and lists are read back.
use Rattle.std.proofs.Common.{◌≡◌, ◌<◌, ℕ, suc, List, [], ◌∷◌, Option, Some, refl, arith, map, get_or, All, Fits, w8, w32}
use Rattle.std.proofs.lemmas.List.Elements.{All-head, All-tail}
use Rattle.std.proofs.lemmas.Bool.{lt-ltb}
use Rattle.serde_json.specs.Data.{Data}
use Rattle.serde_json.specs.View.{items_of}
use Rattle.cert_text.specs.Fields.{number_data, number_below, byte_in, word_in, all_in}

-- what f reads back one by one it reads back as a list
pub record ReadsBack {A : Type 0} (data_of : A → Data) (f : Data → Option A) (x : A) : Type 0 where
  pub same : f (data_of x) ≡ Some x

pub all_back : {A : Type 0} (data_of : A → Data) (f : Data → Option A) (xs : List A) → All (ReadsBack data_of f) xs → all_in f (items_of (map data_of xs)) ≡ Some xs
all_back data_of f [] back = refl
all_back data_of f (x ∷ xs) back = rw ((All-head (ReadsBack data_of f) x xs back).same, all_back data_of f xs (All-tail (ReadsBack data_of f) x xs back)) refl

pub below_back : (bound n : ℕ) → n < bound → number_below bound (number_data n) ≡ Some n
below_back bound n low = rw (lt-ltb n bound low) refl

numbers_back : (bound : ℕ) (ns : List ℕ) → ((k : ℕ) → get_or ns k 0 < bound) → all_in (number_below bound) (items_of (map number_data ns)) ≡ Some ns
numbers_back bound [] low = refl
numbers_back bound (n ∷ ns) low = rw (below_back bound n (low 0), numbers_back bound ns (λ k. low (suc k))) refl

pub bytes_back : (ns : List ℕ) → ((k : ℕ) → Fits w8 (get_or ns k 0)) → all_in byte_in (items_of (map number_data ns)) ≡ Some ns
bytes_back ns fits = numbers_back 256 ns (λ k. let fit = fits k in omega arith)

pub words_back : (ns : List ℕ) → ((k : ℕ) → Fits w32 (get_or ns k 0)) → all_in word_in (items_of (map number_data ns)) ≡ Some ns
words_back ns fits = numbers_back 4294967296 ns (λ k. let fit = fits k in omega arith)
