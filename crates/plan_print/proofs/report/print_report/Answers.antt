-- That no two ships show at one point is a law of legal plans, whatever the call answers.
use Rattle.plan_print.proofs.DrawingLemmas.{legal-drawings}
use Rattle.plan_print.proofs.report.print_report.Goals as goal

pub returns-in_err-put_verdict_line-clause-alone : goal.returns-in_err-put_verdict_line-clause-alone
returns-in_err-put_verdict_line-clause-alone c = legal-drawings c.args.instance.now c.args.plan.now c.requires.legal

pub returns-in_err-put_lockages-clause-alone : goal.returns-in_err-put_lockages-clause-alone
returns-in_err-put_lockages-clause-alone c = legal-drawings c.args.instance.now c.args.plan.now c.requires.legal

pub returns-clause-alone : goal.returns-clause-alone
returns-clause-alone c = legal-drawings c.args.instance.now c.args.plan.now c.requires.legal
