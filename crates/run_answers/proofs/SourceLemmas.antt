-- What is answered to a source, by what is said to its bytes.
use Rattle.std.proofs.Common.{ℕ, ◌≡◌, ◌≤◌, ◌<◌, ◌⊎◌, List, length, subst, inl, inr, refl, arith, Some}
use Rattle.std.specs.Prelude.{IfSome}
use Rattle.run_answers.specs.Sources.{Drained, Saying, IsFair, IsReadWhole, IsTooLongText, IsUnreadable, AnswersBytes, AnswersSource, IsServed}
use Rattle.run_answers.specs.declared.status.Status.{Status}
use Rattle.run_answers.specs.declared.status.Status.TheVariants.{Good, Open, Words, Refused, ReadFault, WriteFault, NoMemory, BadDossier, Unfit, PlanRefused}

-- why the bytes can't be had is answered to the source
pub unreadable_answers : (most : ℕ) (Says : Saying) (source : Drained) (status : Status) (text : List ℕ) → IsUnreadable most source status text → AnswersSource most Says source status text
unreadable_answers most Says source Good text is = absurd is
unreadable_answers most Says source Open text is = absurd is
unreadable_answers most Says source Words text is = is
unreadable_answers most Says source Refused text is = inl is
unreadable_answers most Says source ReadFault text is = is
unreadable_answers most Says source WriteFault text is = is
unreadable_answers most Says source NoMemory text is = is
unreadable_answers most Says source BadDossier text is = absurd is
unreadable_answers most Says source Unfit text is = absurd is
unreadable_answers most Says source PlanRefused text is = absurd is

-- what is said to all the bytes is answered to the source
pub bytes_answer : (most : ℕ) (Says : Saying) (source : Drained) (bytes : List ℕ) (status : Status) (text : List ℕ) → IsFair Says → IsReadWhole most source bytes → Says bytes status text → AnswersSource most Says source status text
bytes_answer most Says source bytes Good text fair read says = record { bytes = bytes; read = read; answer = says }
bytes_answer most Says source bytes Open text fair read says = record { bytes = bytes; read = read; answer = says }
bytes_answer most Says source bytes Words text fair read says = fair.words bytes text says
bytes_answer most Says source bytes Refused text fair read says = inr (record { bytes = bytes; read = read; answer = says })
bytes_answer most Says source bytes ReadFault text fair read says = absurd (fair.read_fault bytes text says)
bytes_answer most Says source bytes WriteFault text fair read says = fair.write_fault bytes text says
bytes_answer most Says source bytes NoMemory text fair read says = fair.no_memory bytes text says
bytes_answer most Says source bytes BadDossier text fair read says = record { bytes = bytes; read = read; answer = says }
bytes_answer most Says source bytes Unfit text fair read says = record { bytes = bytes; read = read; answer = says }
bytes_answer most Says source bytes PlanRefused text fair read says = record { bytes = bytes; read = read; answer = says }

-- ---- a source that tells its bytes

module _ (most : ℕ) (Says : Saying) (source : Drained) (bytes : List ℕ) (told : source.before ≡ Some bytes) where
  -- what is said to the bytes that were read is said to these
  pub told_says : (status : Status) (text : List ℕ) → AnswersBytes most Says source status text → Says bytes status text
  told_says status text read =
      let same : read.bytes ≡ bytes = subst (λ left. IfSome left (λ all. read.bytes ≡ all)) told read.read.all in
      subst (λ b. Says b status text) same read.answer

  few_bytes : length bytes ≤ most → (text : List ℕ) → IsTooLongText most source text → ⊥
  few_bytes few text long =
      let many : most < length bytes = subst (λ left. IfSome left (λ all. most < length all)) told long.long in
      omega (arith, many, few)

  pub told_refused : length bytes ≤ most → (text : List ℕ) → IsTooLongText most source text ⊎ AnswersBytes most Says source Refused text → Says bytes Refused text
  told_refused few text (inl long) = absurd (few_bytes few text long)
  told_refused few text (inr read) = told_says Refused text read

-- What is answered to a source that is served is want of memory, or what is said to its bytes.
pub served_says : (most : ℕ) (Says : Saying) (source : Drained) (bytes : List ℕ) → IsServed most source bytes → (status : Status) (text : List ℕ) → AnswersSource most Says source status text → (status ≡ NoMemory) ⊎ Says bytes status text
served_says most Says source bytes served Good text answer = inr (told_says most Says source bytes served.told Good text answer)
served_says most Says source bytes served Open text answer = inr (told_says most Says source bytes served.told Open text answer)
served_says most Says source bytes served Words text answer = absurd answer
served_says most Says source bytes served Refused text answer = inr (told_refused most Says source bytes served.told served.few text answer)
served_says most Says source bytes served ReadFault text answer = absurd (served.calm answer.rose)
served_says most Says source bytes served WriteFault text answer = absurd answer
served_says most Says source bytes served NoMemory text answer = inl refl
served_says most Says source bytes served BadDossier text answer = inr (told_says most Says source bytes served.told BadDossier text answer)
served_says most Says source bytes served Unfit text answer = inr (told_says most Says source bytes served.told Unfit text answer)
served_says most Says source bytes served PlanRefused text answer = inr (told_says most Says source bytes served.told PlanRefused text answer)
