use Rattle.std.proofs.Common.{sym, subst}
use Rattle.ledger_examples.specs.declared.names.DatabaseType.{DatabaseType}
use Rattle.ledger_examples.specs.declared.names.DatabaseType.TheVariants as family
use Rattle.ledger_log.specs.Any.{any_floor, any_spelling}
use Rattle.ledger_sync.specs.Brought.{IsServed}
use Rattle.sync_dial.specs.Dialing.{dialed_link}
use Rattle.sync_net.specs.Core.{data_of}
use Rattle.sync_net.specs.Service.{service_of}
use Rattle.sync_program.specs.Fresh.{fresh_any}
use Rattle.sync_server.specs.Links.{service_told}
use Rattle.sync_program.proofs.Serves.{fresh_stands}
use Rattle.program_cases.proofs.tests.sync.served.status_over_fresh.Goals as goal

pub returns : goal.returns
returns g c asked is full any dials faults writes =
    let service = service_of (dialed_link c.args.dialer.now).lost (service_told any_spelling any_floor (dialed_link c.args.dialer.now)) in
    let served : IsServed family.Any service = (data_of any_spelling any_floor fresh_any, fresh_stands, c.requires) in
    c.run_sync.ensures.complete asked is full (subst (λ (f : DatabaseType). IsServed f service) (sym any) served) dials faults writes
