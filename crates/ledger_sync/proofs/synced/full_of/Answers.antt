use Rattle.sync_client.proofs.SentOperations.{any_sent, immutable_sent, keyless_sent}
use Rattle.ledger_sync.proofs.synced.full_of.Goals as goal

pub returns-in-Any-clause-serving : goal.returns-in-Any-clause-serving
returns-in-Any-clause-serving g c = λ t.
    let s = rw c.in-Any.is at t in
    c.bring_full.ensures.serving s.0 s.1 any_sent s.2

pub returns-in-Current-clause-serving : goal.returns-in-Current-clause-serving
returns-in-Current-clause-serving g c = λ t.
    let s = rw c.in-Current.is at t in
    c.bring_full-in-Current.ensures.serving s.0 s.1 any_sent s.2

pub returns-in-Immutable-clause-serving : goal.returns-in-Immutable-clause-serving
returns-in-Immutable-clause-serving g c = λ t.
    let s = rw c.in-Immutable.is at t in
    c.bring_full-in-Immutable.ensures.serving s.0 s.1 immutable_sent s.2

pub returns-in-Keyless-clause-serving : goal.returns-in-Keyless-clause-serving
returns-in-Keyless-clause-serving g c = λ t.
    let s = rw c.in-Keyless.is at t in
    c.bring_full-in-Keyless.ensures.serving s.0 s.1 keyless_sent s.2
