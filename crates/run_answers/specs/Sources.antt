-- A source before and after a run, and what is answered to it by a command that reads.
use Rattle.std.specs.Prelude.{ℕ, ◌≡◌, ◌≤◌, ◌<◌, ◌⊎◌, List, [], length, IfSome, OnSome, Some}
use Rattle.std.specs.declared.option.Option.{Option}
use Rattle.lock_io.specs.Faults.{Rose}
use Rattle.run_answers.specs.Texts.{read_fault_text, no_memory_text, too_long_text}
use Rattle.run_answers.specs.declared.status.Status.{Status}
use Rattle.run_answers.specs.declared.status.Status.TheVariants.{Good, Open, Words, Refused, ReadFault, WriteFault, NoMemory, BadDossier, Unfit, PlanRefused}

-- a source before and after a run: the bytes that were left, where it tells them, and its count of faults
pub record Drained : Type 0 where
  pub before : Option (List ℕ)
  pub after : Option (List ℕ)
  pub faults : ℕ
  pub faults_after : ℕ

-- the same, by what sources of a type tell: the bytes that are left, and the count of faults
abbrev pub drained : {Src : Type 0} → (Src → Option (List ℕ)) → (Src → ℕ) → Src → Src → Drained
drained left faults old new = record { before = left old; after = left new; faults = faults old; faults_after = faults new }

-- the most bytes of an instance and a plan together
abbrev pub plan_limit : ℕ
plan_limit = 131072

-- nothing was read
pub record IsUnread (source : Drained) : Type 0 where
  pub left : source.after ≡ source.before
  pub counted : source.faults_after ≡ source.faults

-- The source was read to its end, and these are all its bytes, at most `most`.
pub record IsReadWhole (most : ℕ) (source : Drained) (bytes : List ℕ) : Type 0 where
  pub all : IfSome source.before (λ left. bytes ≡ left)
  pub end : OnSome source.before (source.after ≡ Some [])
  pub few : length bytes ≤ most

-- more bytes than `most` were left
pub record IsTooLongText (most : ℕ) (source : Drained) (text : List ℕ) : Type 0 where
  pub long : IfSome source.before (λ left. most < length left)
  pub shown : text ≡ too_long_text most

-- that there are more bytes than `most`, or want of memory for saying so
abbrev pub TellsTooLong : ℕ → Status → List ℕ → Type 0
TellsTooLong most Refused text = text ≡ too_long_text most
TellsTooLong most NoMemory text = text ≡ no_memory_text
TellsTooLong most status text = ⊥

-- the source counted a fault
pub record IsReadFault (source : Drained) (text : List ℕ) : Type 0 where
  pub rose : Rose source.faults source.faults_after
  pub shown : text ≡ read_fault_text

-- what is answered where the bytes can't be had
abbrev pub IsUnreadable : ℕ → Drained → Status → List ℕ → Type 0
IsUnreadable most source Good text = ⊥
IsUnreadable most source Open text = ⊥
IsUnreadable most source Words text = ⊥
IsUnreadable most source Refused text = IsTooLongText most source text
IsUnreadable most source ReadFault text = IsReadFault source text
IsUnreadable most source WriteFault text = ⊥
IsUnreadable most source NoMemory text = text ≡ no_memory_text
IsUnreadable most source BadDossier text = ⊥
IsUnreadable most source Unfit text = ⊥
IsUnreadable most source PlanRefused text = ⊥

-- what is answered to bytes: a status and a text
abbrev pub Saying : Type 1
Saying = List ℕ → Status → List ℕ → Type 0

-- The source was read to its end, at most `most` bytes, and this is answered to them.
pub record AnswersBytes (most : ℕ) (Says : Saying) (source : Drained) (status : Status) (text : List ℕ) : Type 0 where
  pub bytes : List ℕ
  pub read : IsReadWhole most source bytes
  pub answer : Says bytes status text

-- What is answered to a source by a command that reads at most `most` bytes: why they can't be had, or what the command says to them.
abbrev pub AnswersSource : ℕ → Saying → Drained → Status → List ℕ → Type 0
AnswersSource most Says source Good text = AnswersBytes most Says source Good text
AnswersSource most Says source Open text = AnswersBytes most Says source Open text
AnswersSource most Says source Words text = ⊥
AnswersSource most Says source Refused text = IsTooLongText most source text ⊎ AnswersBytes most Says source Refused text
AnswersSource most Says source ReadFault text = IsReadFault source text
AnswersSource most Says source WriteFault text = ⊥
AnswersSource most Says source NoMemory text = text ≡ no_memory_text
AnswersSource most Says source BadDossier text = AnswersBytes most Says source BadDossier text
AnswersSource most Says source Unfit text = AnswersBytes most Says source Unfit text
AnswersSource most Says source PlanRefused text = AnswersBytes most Says source PlanRefused text

-- What a command says to bytes never is that words are bad or that a fault was counted, and its want of memory has the one text.
pub record IsFair (Says : Saying) : Type 0 where
  pub words : (bytes text : List ℕ) → Says bytes Words text → ⊥
  pub read_fault : (bytes text : List ℕ) → Says bytes ReadFault text → ⊥
  pub write_fault : (bytes text : List ℕ) → Says bytes WriteFault text → ⊥
  pub no_memory : (bytes text : List ℕ) → Says bytes NoMemory text → text ≡ no_memory_text

-- The source tells its bytes, which are these and at most `most`, and it counts no fault.
pub record IsServed (most : ℕ) (source : Drained) (bytes : List ℕ) : Type 0 where
  pub told : source.before ≡ Some bytes
  pub few : length bytes ≤ most
  pub calm : ¬ Rose source.faults source.faults_after
