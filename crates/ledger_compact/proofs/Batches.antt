use Rattle.std.proofs.Common.{◌≡◌, ℕ, List, Option, Some, None, MatchOption, Result, Ok, Err, IsOk, OnOk, OnErr, sym, ap, ◌∙◌}
use Rattle.ledger_log.specs.View.{LogView}
use Rattle.ledger_log.specs.declared.fault.LogFault.{LogFault}
use Rattle.ledger_compact.specs.View.{CompactView, compact_of, with_ops}
use Rattle.ledger_compact.specs.Batches.{after_answer}

-- a fault that was given, or an answer Ok
abbrev pub Tells : {T : Type 0} → Option LogFault → Result T LogFault → Type 0
Tells given answer = MatchOption given (IsOk answer) (λ fault. answer ≡ Err fault)

module _ {Op T : Type 0} (ops : List Op) where
  -- a log after its answer
  pub after_told : (given : Option LogFault) (answer : Result T LogFault) (old new : LogView Op) → Tells given answer → OnOk answer (new ≡ with_ops old ops) → OnErr answer (new ≡ old) → new ≡ after_answer given old ops
  after_told None (Ok x) old new h ok err = ok
  after_told None (Err fault) old new h ok err = absurd cc
  after_told (Some given) (Ok x) old new h ok err = absurd cc
  after_told (Some given) (Err fault) old new h ok err = err

  -- both logs after one answer of both
  pub both_told : (hash : List ℕ → List ℕ) (spelling : Op → List ℕ) (given : Option LogFault) (answer : Result T LogFault) (old new : LogView Op) (c d : CompactView Op) →
      new ≡ after_answer given old ops → compact_of hash spelling old ≡ Some c → Tells given answer →
      OnOk answer ((log : LogView Op) → compact_of hash spelling log ≡ Some c → compact_of hash spelling (with_ops log ops) ≡ Some d) → OnErr answer (d ≡ c) → compact_of hash spelling new ≡ Some d
  both_told hash spelling None (Ok x) old new c d n e h ok err = ap (compact_of hash spelling) n ∙ ok old e
  both_told hash spelling None (Err fault) old new c d n e h ok err = absurd cc
  both_told hash spelling (Some given) (Ok x) old new c d n e h ok err = absurd cc
  both_told hash spelling (Some given) (Err fault) old new c d n e h ok err = ap (compact_of hash spelling) n ∙ (e ∙ ap Some (sym err))
