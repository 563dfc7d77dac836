use Rattle.std.proofs.Common.{sym, subst, bytes_eq}
use Rattle.ledger_transfers.specs.Selecting.{StandsFor}
use Rattle.ledger_transfers.specs.Touches.{touches}
use Rattle.ledger_settling.proofs.OpenLemmas.{start_within, reads_fit, opened_selection, registered_selection, took_entries}
use Rattle.ledger_settling.proofs.rounds.open_round.Goals.{in-Ok, in-Err}
use Rattle.ledger_settling.proofs.rounds.open_round.Goals as goal

pub reads_from-requires-after_bounds : goal.reads_from-requires-after_bounds
reads_from-requires-after_bounds g c κs within =
    start_within c.args.selection.now c.touch.new.self c.in_ok-new.new.start c.keys.result.now (touches g.T.Transfer.changes_of c.args.round.now) c.in_ok-new.ensures.ok c.in_ok-new.ensures.range.0 c.keys.ensures

pub register-requires-after_bounds : goal.register-requires-after_bounds
register-requires-after_bounds g c κs within =
    reads_fit c.args.selection.now c.touch.new.self c.in_ok-new.new.start c.keys.result.now (touches g.T.Transfer.changes_of c.args.round.now) c.in_ok-new.ensures.ok c.in_ok-new.ensures.range.0 c.keys.ensures
    g.A.PartialEq.eq c.args.accounts.now c.requires c.in_ok-reads.reads.items c.in_ok-reads.ensures.all

pub returns-clause-opened : goal.returns-clause-opened
returns-clause-opened g c =
    elim c.match-register.branch [
      | in-Ok w ↦
          rw w.result-is (opened_selection c.args.selection.now c.touch.new.self c.in_ok-new.new.start c.keys.result.now (touches g.T.Transfer.changes_of c.args.round.now) c.in_ok-new.ensures.ok c.in_ok-new.ensures.range.0 c.keys.ensures
          g.A.PartialEq.eq c.args.accounts.now c.requires c.in_ok-reads.reads.items c.in_ok-reads.ensures.all c.in_ok-reads.ensures.each c.register.new.self w.in-Ok.ensures.ok)
      | in-Err w ↦ rw w.result-is tt
    ]

pub returns-clause-keeps : goal.returns-clause-keeps
returns-clause-keeps g c =
    let entries = took_entries c.args.selection.now c.touch.new.self c.in_ok-new.new.start c.keys.result.now (touches g.T.Transfer.changes_of c.args.round.now) c.in_ok-new.ensures.ok c.in_ok-new.ensures.range.0 c.keys.ensures in
    elim c.match-register.branch [
      | in-Ok w ↦ rw w.result-is (λ ts s. w.in-Ok.ensures.keeps ts (subst (λ es. StandsFor bytes_eq g.A.PartialEq.eq g.A.Account.rules es ts) (sym entries) s))
      | in-Err w ↦ rw w.result-is tt
    ]

pub returns-clause-registered : goal.returns-clause-registered
returns-clause-registered g c =
    elim c.match-register.branch [
      | in-Ok w ↦
          rw w.result-is (registered_selection c.args.selection.now c.touch.new.self c.in_ok-new.new.start c.keys.result.now (touches g.T.Transfer.changes_of c.args.round.now) c.in_ok-new.ensures.ok c.in_ok-new.ensures.range.0 c.keys.ensures
          g.A.PartialEq.eq c.args.accounts.now c.requires c.in_ok-reads.reads.items c.in_ok-reads.ensures.all c.in_ok-reads.ensures.each c.register.new.self w.in-Ok.ensures.ok)
      | in-Err w ↦ rw w.result-is tt
    ]
