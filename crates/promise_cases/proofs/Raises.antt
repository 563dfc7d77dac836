-- A batch with a raised floor behind the log with which databases begin.
use Rattle.std.proofs.Common.{◌≡◌, ◌≤◌, ℕ, List, [], ◌∷◌, All, None, refl, sym, ap, subst}
use Rattle.std.proofs.lemmas.List.Elements.{All-nil}
use Rattle.ledger_compact.specs.View.{fresh_log, with_ops}
use Rattle.ledger_log.specs.Any.{any_commit, any_floor, any_write}
use Rattle.ledger_log.specs.View.{LogView, log_floor}
use Rattle.ledger_log.specs.declared.any.AnyOp.{AnyOp}
use Rattle.ledger_raising.specs.Raised.{FloorSound, Raises}

-- a commit leaves no value
fresh_sound : FloorSound any_floor any_write (fresh_log any_commit)
fresh_sound = All-nil (λ (place : ℕ). log_floor any_floor (fresh_log any_commit) ≤ place)

pub stays_sound : (log : LogView AnyOp) (changes missing batch : List AnyOp) → log ≡ fresh_log any_commit → missing ≡ [] → Raises any_floor any_write (with_ops log missing) changes batch → FloorSound any_floor any_write (with_ops (fresh_log any_commit) batch)
stays_sound log changes missing batch fresh none law =
    let one = subst (λ (m : List AnyOp). Raises any_floor any_write (with_ops log m) changes batch) none law in
    let two = subst (λ (l : LogView AnyOp). Raises any_floor any_write (with_ops l []) changes batch) fresh one in
    two.sound fresh_sound
