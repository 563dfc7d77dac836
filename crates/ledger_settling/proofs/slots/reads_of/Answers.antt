use Rattle.std.proofs.Common.{◌+◌, length, slice_get, sym, ap, subst, ◌∙◌}
use Rattle.std.proofs.lemmas.Option.{slice_get-get_or}
use Rattle.std.proofs.lemmas.List.{length_push}
use Rattle.ledger_settling.specs.Slots.{AreReads}
use Rattle.ledger_settling.proofs.OutcomeLemmas.{AreReads-push}
use Rattle.ledger_settling.proofs.slots.reads_of.Goals as goal

pub loop-key-preserved : goal.loop-key-preserved
loop-key-preserved g c =
    let reads = c.loop-key.reads.items in
    let keys = c.args.keys.now in
    let n = c.loop-key.invariant.count in
    let h = c.in_ok-read.ensures in
    record {
      count = ap length c.in_ok-push.ensures.items ∙ length_push reads c.in_ok-read.read ∙ ap (λ k. k + 1) n;
      each = subst (AreReads g.A.PartialEq.eq c.args.accounts.now keys) (sym c.in_ok-push.ensures.items)
          (AreReads-push g.A.PartialEq.eq c.args.accounts.now keys reads _ c.in_ok-read.read c.loop-key.invariant.each (ap (slice_get keys) n ∙ slice_get-get_or keys c.loop-key.key-index _ c.loop-key-test.true) h);
    }
