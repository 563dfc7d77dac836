-- The accounts of the end of a served log are those of all of it.
use Rattle.std.proofs.Common.{◌≡◌, ℕ, ◌-◌, ◌≤◌, List, [], length, length-drop, drop, Ok, sym, ap, subst, ◌∙◌, arith}
use Rattle.std.specs.Prelude.{option_and_then}
use Rattle.std.proofs.lemmas.List.{take_all}
use Rattle.ledger_log.specs.Any.{any_write}
use Rattle.ledger_log.specs.View.{LogView, log_size, value_at}
use Rattle.ledger_log.specs.declared.any.AnyOp.{AnyOp}
use Rattle.ledger_log.specs.declared.target.Target.{Target}
use Rattle.ledger_program.specs.Follow.{FollowsLog, range_in}
use Rattle.ledger_settling.specs.Blocks.{Meaning, account_at}
use Rattle.ledger_settling.specs.Reports.{ReportOf, IsReplay, held}
use Rattle.ledger_settling.specs.declared.report.Report.{Report}
use Rattle.ledger_transfers.specs.Rules.{SameOutcome}
use Rattle.follow_laws.specs.Replayed.{IsAbove}
use Rattle.follow_laws.proofs.Floors.{values_above}
use Rattle.follow_laws.proofs.Grown.{no_blocks}

module _ (log : LogView AnyOp) (target : Target) (ends : log_size log ≡ target.end) (front : log.front ≤ target.start) where
  -- the range of a target at a log's end
  pub rest_is : range_in log target ≡ drop (target.start - log.front) log.ops
  rest_is =
      let e = ends in
      let n = length-drop (target.start - log.front) log.ops in
      take_all (target.end - target.start) (drop (target.start - log.front) log.ops) (omega arith)

module _ {T A E : Type 0} (m : Meaning T A E) (log : LogView AnyOp) (target : Target) (above : IsAbove target.start target.end log) (front : log.front ≤ target.start) where
  pub replayed : (report : Report A) → ReportOf m report.target [] report → FollowsLog m log target [] (Ok report) → IsReplay m.same m.values report.accounts log.ops
  replayed report of h key =
      let n : ℕ = target.start - log.front in
      let below = above.below in
      let ops : report.log.ops ≡ drop n log.ops = no_blocks m report.target.start report.verdicts report.kept report.log.ops of.grows ∙ (h.1 ∙ rest_is log target above.ends front) in
      let value : value_at any_write key log.ops ≡ value_at any_write key (drop n log.ops) = values_above log n key above.sound (omega arith) in
      let same : account_at m.values report.log.ops key ≡ account_at m.values log.ops key =
      ap (λ (xs : List AnyOp). account_at m.values xs key) ops ∙ ap (option_and_then m.values.read) (sym value) in
      subst (SameOutcome m.same (held report.accounts key)) same (of.accounts key)
