-- A search from a plan that costs at most so much, told of one that may cost more.
use Rattle.std.proofs.Common.{ℕ, Bool, true, false, ◌≤◌, List, inl, inr, arith, ap}
use Rattle.lock_rules.specs.Node.{root_lines}
use Rattle.book_rules.specs.Book.{Book}
use Rattle.book_rules.specs.Cheap.{opening_cost}
use Rattle.book_rules.specs.Ends.{EndsWell}
use Rattle.book_rules.proofs.GrowLemmas.{cheap-grows}
use Rattle.plan_print.specs.Report.{report}
use Rattle.run_answers.specs.declared.status.Status.{Status}
use Rattle.run_answers.specs.declared.status.Status.TheVariants.{Good, Open, Words, Refused, ReadFault, WriteFault, NoMemory, BadDossier, Unfit, PlanRefused}
use Rattle.solve_commands.specs.Searching.{Search, Print, PrintsOpen, PrintsBest, AnswersSearch, Ended, search_in}
use Rattle.solve_commands.specs.Keeping.{PrintsKept, PrintsLeft}

-- the same search from a plan that costs at most `limit`
abbrev pub widened : Search → ℕ → Search
widened k limit = record { instance = k.instance; nodes = k.nodes; turns = k.turns; limit = limit }

-- it ended as well
abbrev ended_wider : (k : Search) (limit : ℕ) → k.limit ≤ limit → Ended k → Ended (widened k limit)
ended_wider k limit less ended =
    let well = ended.well in
    let opening = well.opening in
    record {
      book = ended.book;
      sound = ended.sound;
      well = record { free = well.free; opening = omega (arith, opening, less); parked = well.parked; left = well.left };
      of = ap (λ (j : Search). widened j limit) ended.of;
    }

open_wider : (print : Print) (k : Search) (limit : ℕ) (text : List ℕ) → k.limit ≤ limit → PrintsOpen print k text → PrintsOpen print (widened k limit) text
open_wider print k limit text less (inl n) =
    let left = n.left in
    let cost = left.cost in
    let more = left.more in
    inl (record {
      ended = ended_wider k limit less n.ended;
      used = n.used;
      low = n.low;
      verdict = n.verdict;
      left = record { legal = left.legal; cost = omega (arith, cost, less); spent = left.spent; more = omega (arith, more, cheap-grows k.instance k.limit limit less 0 root_lines); lower = left.lower };
      shown = n.shown;
    })
open_wider print k limit text less (inr t) =
    let left = t.left in
    let cost = left.cost in
    inr (record {
      ended = ended_wider k limit less t.ended;
      chamber = t.chamber;
      ships = t.ships;
      spent = t.spent;
      low = t.low;
      verdict = t.verdict;
      left = record { legal = left.legal; cost = omega (arith, cost, less); same = left.same; named = left.named; cheaper = left.cheaper; lower = left.lower };
      shown = t.shown;
    })

kept_wider : (k : Search) (limit : ℕ) (text : List ℕ) → k.limit ≤ limit → PrintsKept k text → PrintsKept (widened k limit) text
kept_wider k limit text less printed =
    let kept = printed.kept in
    let cost = kept.cost in
    record {
      ended = ended_wider k limit less printed.ended;
      certificate = printed.certificate;
      own = printed.own;
      kept = record {
        formed = kept.formed;
        stands = kept.stands;
        cost = omega (arith, cost, less);
        low = kept.low;
        lower = kept.lower;
        proves = kept.proves;
        cause = elim kept.cause [
          | inl nodes ↦ let more = nodes.more in inl (record { more = omega (arith, more, cheap-grows k.instance k.limit limit less 0 root_lines); marks = nodes.marks })
          | inr turns ↦ inr (record { chamber = turns.chamber; ships = turns.ships; named = turns.named; cheaper = turns.cheaper })
        ];
      };
      shown = printed.shown;
      reads = printed.reads;
    }

left_wider : (keep : Bool) (k : Search) (limit : ℕ) (text : List ℕ) → k.limit ≤ limit → PrintsLeft keep k text → PrintsLeft keep (widened k limit) text
left_wider true k limit text less left = kept_wider k limit text less left
left_wider false k limit text less left = open_wider report k limit text less left

-- a search that ended well from a plan of this cost or less, did so from its opening plan,
pub ends_from_opening : (b : Book) (limit : ℕ) → EndsWell limit b → EndsWell (opening_cost b) b
ends_from_opening b limit well = record { free = well.free; opening = omega arith; parked = well.parked; left = well.left }

-- and what is answered to that is answered to it
pub answers_wider : (dossier keep : Bool) (b : Book) (limit : ℕ) (status : Status) (text : List ℕ) → EndsWell limit b → AnswersSearch (PrintsBest dossier) (PrintsLeft keep) (search_in b (opening_cost b)) status text → AnswersSearch (PrintsBest dossier) (PrintsLeft keep) (search_in b limit) status text
answers_wider dossier keep b limit status text well answer =
    by_status status answer
  where
    by_status : (status : Status) → AnswersSearch (PrintsBest dossier) (PrintsLeft keep) (search_in b (opening_cost b)) status text → AnswersSearch (PrintsBest dossier) (PrintsLeft keep) (search_in b limit) status text
    by_status Good told = told
    by_status Open told = left_wider keep (search_in b (opening_cost b)) limit text well.opening told
    by_status Words told = told
    by_status Refused told = told
    by_status ReadFault told = told
    by_status WriteFault told = told
    by_status NoMemory told = told
    by_status BadDossier told = told
    by_status Unfit told = told
    by_status PlanRefused told = told
