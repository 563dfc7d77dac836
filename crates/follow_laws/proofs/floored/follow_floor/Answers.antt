use Rattle.ledger_log.specs.Any.{any_floor, any_spelling}
use Rattle.ledger_program.specs.declared.fault.Fault.{Fault}
use Rattle.ledger_settling.specs.Blocks.{meaning}
use Rattle.ledger_settling.specs.declared.report.Report.{Report}
use Rattle.std.proofs.Common.{Result, Err, All, subst}
use Rattle.sync_net.specs.Core.{data_of}
use Rattle.follow_laws.proofs.Digests.{Is32}
use Rattle.follow_laws.proofs.Chains.{foretold, never_rose}
use Rattle.follow_laws.proofs.Above.{floor_low, serves_floor, valid_floor, has_accounts}
use Rattle.follow_laws.proofs.floored.follow_floor.Goals as goal

pub floor_target_of-target-requires : goal.floor_target_of-target-requires
floor_target_of-target-requires g c =
    let m = meaning g.T.Transfer.changes_of g.A.PartialEq.eq g.A.Account.rules g.A.AccountValue.values in
    floor_low m c.args.blocks.now c.args.report c.requires

pub returns-in-Ok-clause-replayed : goal.returns-in-Ok-clause-replayed
returns-in-Ok-clause-replayed g c sound =
    let eq = g.met.A.Eq g.world.𝓛 g.world.𝓜 g.world.𝓡 ((λ s x. x), (λ x. x), (λ x. x), λ x. x) in
    let m = meaning g.T.Transfer.changes_of g.A.PartialEq.eq g.A.Account.rules g.A.AccountValue.values in
    let report = c.args.report in
    let target = c.floor_target_of-target.result in
    let t = c.floor_target_of-target.ensures.target in
    let h = serves_floor m c.args.blocks.now report c.requires target t c.see_operations.ensures (subst (All Is32) c.as_slice.ensures c.see_digests.ensures) c.front-front.ensures.pins c.floor_target_of-target.ensures.most in
    let own = c.in-Ok.ensures.serving (data_of any_spelling any_floor report.log) target h c.link_to-link.ensures.serves (foretold report.log target) in
    has_accounts m c.args.blocks.now report c.requires target t eq.laws c.in-Ok.next c.in-Ok.ensures.report own sound

pub returns-clause-complete : goal.returns-clause-complete
returns-clause-complete g c keep =
    let value = g.met.A.AccountValue g.world.𝓛 g.world.𝓜 g.world.𝓡 ((λ s x. x), (λ x. x), (λ x. x), λ x. x) in
    let m = meaning g.T.Transfer.changes_of g.A.PartialEq.eq g.A.Account.rules g.A.AccountValue.values in
    let report = c.args.report in
    let target = c.floor_target_of-target.result in
    let t = c.floor_target_of-target.ensures.target in
    let h = serves_floor m c.args.blocks.now report c.requires target t c.see_operations.ensures (subst (All Is32) c.as_slice.ensures c.see_digests.ensures) c.front-front.ensures.pins c.floor_target_of-target.ensures.most in
    let valid = valid_floor m c.args.blocks.now report c.requires target t value.value_laws keep c.see_operations.ensures c.floor_target_of-target.ensures.most in
    let steady = c.in-Err.ensures.steady_on c.link_to-link.ensures.steady in
    let result : Result (Report g.row.A.Denot) Fault = Err c.in-Err.fault in
    c.in-Err.ensures.complete (data_of any_spelling any_floor report.log) target h c.link_to-link.ensures.serves (foretold report.log target) valid
    (never_rose result c.link_to-link.result.calls.faults c.follow.new.link.calls.faults c.link_to-link.ensures.count steady.1)
