use Rattle.std.proofs.Common.{subst}
use Rattle.ledger_settling.specs.Blocks.{meaning}
use Rattle.ledger_settling.specs.Reports.{ReportOf}
use Rattle.follow_laws.proofs.Chains.{foretold}
use Rattle.follow_laws.proofs.Replays.{replayed}
use Rattle.follow_laws.proofs.replayed.follow_part.Goals as goal

pub returns-in-Ok : goal.returns-in-Ok
returns-in-Ok g c = record {
  replayed = λ held h owes above.
      let m = meaning g.T.Transfer.changes_of g.A.PartialEq.eq g.A.Account.rules g.A.AccountValue.values in
      let report = c.in-Ok.report in
      replayed m h.log c.args.target.now above h.front report (subst (λ bs. ReportOf m report.target bs report) c.requires c.in-Ok.ensures.report)
      (c.in-Ok.ensures.serving held c.args.target.now h owes (foretold h.log c.args.target.now));
}
