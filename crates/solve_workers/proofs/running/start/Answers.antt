use Rattle.std.proofs.Common.{rules, ◌≡◌}
use Rattle.solve_workers.proofs.CrewLemmas.{all_with}
use Rattle.solve_workers.proofs.running.start.Goals as goal

pub returns-in-Ok-clause-running : goal.returns-in-Ok-clause-running
returns-in-Ok-clause-running g c = λ all. all_with c.args.running.now.items c.push_reserved.new.self.items c.in-Ok.handle c.push_reserved.ensures.items (λ h. h.promise.0.value.table ≡ c.args.post.now.word.now.table) all (search rules)

pub returns-in-Ok-clause-ended : goal.returns-in-Ok-clause-ended
returns-in-Ok-clause-ended g c = λ all. all

pub returns-in-Err-clause-running : goal.returns-in-Err-clause-running
returns-in-Err-clause-running g c = λ all. all

pub returns-in-Err-clause-ended : goal.returns-in-Err-clause-ended
returns-in-Err-clause-ended g c = λ all. all_with c.args.ended.now.items c.push_reserved-in-Err.new.self.items _ c.push_reserved-in-Err.ensures.items (λ h. h.seat.table ≡ c.args.post.now.word.now.table) all (search rules)
