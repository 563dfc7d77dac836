-- A link that serves a fresh log serves one of the family any.
use Rattle.std.proofs.Common.{◌≡◌, ℕ, ◌<◌, ◌≤◌, ◌^◌, List, [], ◌∷◌, All, length, Some, None, refl, arith}
use Rattle.std.proofs.lemmas.List.Elements.{All-cons, All-nil}
use Rattle.ledger_log.specs.Any.{any_floor, any_spelling, any_commit, IsSoundAny}
use Rattle.ledger_log.specs.View.{log_size}
use Rattle.std.specs.Prelude.{count_ones}
use Rattle.ledger_sync.specs.Served.{StandsFor}
use Rattle.sync_net.specs.Core.{data_of}
use Rattle.sync_program.specs.Fresh.{fresh_any}

pub none_pinned : length {A = List ℕ} [] ≡ count_ones 0
unfolding lib.Count.ones
none_pinned = refl

pub short : log_size fresh_any ≤ 2 ^ 62
short = omega arith

pub within : 0 < log_size fresh_any
within = omega arith

pub least : 0 ≤ 0
least = omega arith

pub commit_sound : IsSoundAny (any_commit None 0)
commit_sound = (tt, omega arith)

abbrev pub fresh_stands : StandsFor any_spelling IsSoundAny any_floor (data_of any_spelling any_floor fresh_any)
fresh_stands = record {
  log = fresh_any;
  is = refl;
  ops = All-cons IsSoundAny (any_commit None 0) [] commit_sound (All-nil IsSoundAny);
  nodes = All-nil (λ (digest : List ℕ). length digest ≡ 32);
  count = none_pinned;
  most = short;
  floor = refl;
  least = least;
  within = within;
}
