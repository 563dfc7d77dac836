use Rattle.std.proofs.Common.{◌≡◌, ◌+◌, length, take, refl, sym, ap, subst, ◌∙◌, All, arith}
use Rattle.std.proofs.lemmas.Result.{err_from_is_err_and}
use Rattle.ledger_settling.specs.Blocks.{meaning, account_at, with_changes, RunsTo, IsReadable}
use Rattle.ledger_settling.specs.Reports.{Spans, IsWhole, NoneInitial, Rises}
use Rattle.ledger_log.specs.Any.{any_write}
use Rattle.ledger_log.specs.View.{value_at}
use Rattle.ledger_settling.proofs.ChangesLemmas.{runs_replay}
use Rattle.ledger_settling.proofs.FloorLemmas.{runs_rise}
use Rattle.ledger_settling.proofs.ProperLemmas.{proper_replays}
use Rattle.ledger_settling.proofs.RunLemmas.{runs_least, runs_first, replay_run_fails, report_root}
use Rattle.ledger_settling.proofs.open.settle_log.Goals as goal

pub first_ops-requires : goal.first_ops-requires
first_ops-requires g c =
    let m = meaning g.T.Transfer.changes_of g.A.PartialEq.eq g.A.Account.rules g.A.AccountValue.values in
    let least = runs_least m c.args.target.now.start c.args.blocks.now c.in_ok-verdicts.verdicts.items c.args.opened.ops c.settle_blocks.new.log.ops c.in_ok-verdicts.ensures.runs in
    omega (arith, least, c.count_of-count.ensures)

pub returns-in_err-accounts-clause-fails : goal.returns-in_err-accounts-clause-fails
returns-in_err-accounts-clause-fails g c =
    let m = meaning g.T.Transfer.changes_of g.A.PartialEq.eq g.A.Account.rules g.A.AccountValue.values in
    let p = err_from_is_err_and c.from_residual.result c.from_residual.ensures.1 in
    rw (p.1, p.2) (replay_run_fails m c.args.target.now c.args.opened.front c.args.opened.ops c.args.blocks.now c.in_err-accounts.field-0.0 c.requires.front c.requires.whole c.in_err-accounts.ensures.fails)

pub returns-clause-kept : goal.returns-clause-kept
returns-clause-kept g c =
    let m = meaning g.T.Transfer.changes_of g.A.PartialEq.eq g.A.Account.rules g.A.AccountValue.values in
    let ops = c.args.opened.ops in
    let all = c.settle_blocks.new.log.ops in
    c.from_vec-2.ensures ∙ c.in_ok-kept.ensures ∙ ap (λ n. take n all) c.count_of-count.ensures ∙ runs_first m c.args.target.now.start c.args.blocks.now c.in_ok-verdicts.verdicts.items ops all c.in_ok-verdicts.ensures.runs

pub returns-clause-report : goal.returns-clause-report
returns-clause-report g c =
    let eq = g.met.A.Eq g.world.𝓛 g.world.𝓜 g.world.𝓡 ((λ s x. x), (λ x. x), (λ x. x), λ x. x) in
    let m = meaning g.T.Transfer.changes_of g.A.PartialEq.eq g.A.Account.rules g.A.AccountValue.values in
    let blocks = c.args.blocks.now in
    let start = c.args.target.now.start in
    let ops = c.args.opened.ops in
    let log = c.settle_blocks.new.log in
    let runs = c.in_ok-verdicts.ensures.runs in
    let front : log.front ≡ start = c.in_ok-verdicts.ensures.front ∙ c.requires.front in
    let pin = c.from_vec.ensures in
    let kep : c.from_vec-2.result ≡ ops =
    c.from_vec-2.ensures ∙ c.in_ok-kept.ensures ∙ ap (λ n. take n log.ops) c.count_of-count.ensures ∙ runs_first m start blocks c.in_ok-verdicts.verdicts.items ops log.ops runs in
    let ver = c.from_vec-3.ensures in
    let nodes : log.pinned ≡ c.from_vec.result = c.in_ok-verdicts.ensures.nodes ∙ c.requires.nodes ∙ sym pin in
    record {
      target_is = refl;
      start = refl;
      end = refl;
      spans = subst (λ ps. Spans c.args.target.now ps c.from_vec-2.result) (sym pin) (subst (Spans c.args.target.now c.args.pinned.items) (sym kep) c.requires.spans);
      whole = subst (IsWhole start) (sym kep) c.requires.whole;
      readable = subst (All (IsReadable m.values)) (sym kep) c.in_ok-accounts.ensures.readable;
      grows = subst (λ us. RunsTo m start us blocks c.from_vec-3.result log.ops) (sym kep) (subst (λ vs. RunsTo m start ops blocks vs log.ops) (sym ver) runs);
      rises = subst (λ us. Rises start us log.ops) (sym kep) (runs_rise m start blocks c.in_ok-verdicts.verdicts.items ops log.ops c.requires.whole runs);
      replay = λ key. runs_replay m start blocks c.in_ok-verdicts.verdicts.items ops log.ops c.requires.whole runs key
          ∙ ap (λ us. value_at any_write key (with_changes m us blocks c.in_ok-verdicts.verdicts.items)) (sym kep)
          ∙ ap (λ vs. value_at any_write key (with_changes m c.from_vec-2.result blocks vs)) (sym ver);
      none_initial = λ h. proper_replays m.same m.rules eq.laws m.values c.in_ok-accounts.accounts c.settle_blocks.new.accounts ops log.ops c.in_ok-accounts.ensures.accounts c.in_ok-verdicts.ensures.accounts c.in_ok-verdicts.ensures.initial
          (subst (λ us. NoneInitial m.same m.rules (account_at m.values us)) kep h);
      front = front;
      nodes = nodes;
      accounts = c.in_ok-verdicts.ensures.accounts;
      size = c.size.ensures.size ∙ ap (λ n. n + length log.ops) front;
      root = c.root-root.ensures ∙ report_root log start c.from_vec.result front nodes;
    }
