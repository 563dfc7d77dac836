-- The test operations of each family.
use Rattle.std.proofs.Common.{refl}
use Rattle.ledger_log.specs.Any.{any_floor}
use Rattle.ledger_log.specs.Immutable.{immutable_floor}
use Rattle.ledger_log.specs.Keyless.{keyless_floor}
use Rattle.ledger_examples.specs.Tests.{any_test, any_test_commit, any_added, immutable_test, immutable_test_commit, keyless_test, keyless_test_commit, same_added, no_floor, own_floor, last_place}
use Rattle.serve_parts.specs.Tests.{HasTests}

-- any and current
pub any_has_tests : HasTests any_floor any_test any_test_commit any_added no_floor
any_has_tests = record { writes = λ key value. refl; commits = λ count last. refl; ends = λ count. refl; shows = refl }

-- immutable
pub immutable_has_tests : HasTests immutable_floor immutable_test immutable_test_commit same_added own_floor
immutable_has_tests = record { writes = λ key value. refl; commits = λ count last. refl; ends = λ count. refl; shows = refl }

-- keyless
pub keyless_has_tests : HasTests keyless_floor keyless_test keyless_test_commit same_added last_place
keyless_has_tests = record { writes = λ key value. refl; commits = λ count last. refl; ends = λ count. refl; shows = refl }
