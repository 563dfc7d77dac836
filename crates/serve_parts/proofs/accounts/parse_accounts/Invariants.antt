use Rattle.ledger_job.specs.Parts.{bytes_left}
use Rattle.serve_parts.proofs.Strays.{Here}
use Rattle.serve_parts.proofs.accounts.parse_accounts.Given as goal

abbrev pub invariant-each : goal.invariant-each
invariant-each l = Here l.text l.left l.number l.accounts.items

abbrev pub decreases-each : goal.decreases-each
decreases-each l = bytes_left l.left
