use Rattle.std.proofs.Common.{◌≡◌, ◌+◌, ◌<◌, ◌++◌, ◌∷◌, [], List, Option, ℕ, length, get_or, take, sym, ap, subst, ◌∙◌, arith}
use Rattle.std.specs.Prelude.{IsSome, MatchOption, ⊤}
use Rattle.std.specs.Map.{lookup, keys_of}
use Rattle.std.proofs.lemmas.List.{take_all, length_push}
use Rattle.std.proofs.lemmas.List.Elements.{All-get_or}
use Rattle.ledger_transfers.specs.declared.change.Change.{Change}
use Rattle.ledger_transfers.specs.declared.revise.Revision.{Revision}
use Rattle.ledger_transfers.specs.Revising.{undone}
use Rattle.ledger_transfers.specs.Selecting.{StandTogether}
use Rattle.ledger_transfers.specs.Trying.{AreSumsOf, IsPlaceOf, IsAdded, IsRefused}
use Rattle.ledger_transfers.proofs.ReviseLemmas.{undone_push}
use Rattle.ledger_transfers.proofs.TakenLemmas.{there_alike}
use Rattle.ledger_transfers.proofs.VerdictLemmas.{reads_trans}
use Rattle.ledger_transfers.proofs.WholeLemmas.{refused_at, sums_push, places_push}
use Rattle.ledger_transfers.proofs.tried.add_all.Goals as goal

pub add_touch-requires-after_bounds : goal.add_touch-requires-after_bounds
add_touch-requires-after_bounds g c κs within =
    let eq = g.K.PartialEq.eq in
    let t = c.loop-key-item.result in
    let P = λ (t : g.row.K.Denot × Change g.row.A-Effect.Denot). IsSome (lookup (eq t.0) c.args.table.now.entries) in
    there_alike eq g.A.PartialEq.eq g.A.Account.rules c.args.table.now.entries c.loop-key.table.entries t.0 c.loop-key.invariant.same_reads
    (subst P (sym c.loop-key-item.is) (All-get_or P c.args.all.now c.loop-key.key-index t c.loop-key-test.true c.requires.registered))

pub returns-in_default-clause-added : goal.returns-in_default-clause-added
returns-in_default-clause-added g c =
    let eq = g.K.PartialEq.eq in
    let same = g.A.PartialEq.eq in
    let rules = g.A.Account.rules in
    let t = c.loop-key-item.result in
    let mid = c.loop-key.table.entries in
    let refused : (more : List (g.row.K.Denot × Change g.row.A-Effect.Denot)) → IsRefused eq same rules mid (t ∷ more) =
    subst (λ (o : Option (ℕ × Revision g.row.A.Denot)). MatchOption o ((more : List (g.row.K.Denot × Change g.row.A-Effect.Denot)) → IsRefused eq same rules mid (t ∷ more)) (λ _. ⊤)) c.in_default.is c.in_ok-entry.ensures.refused in
    refused_at eq g.met.K.Eq.laws same rules c.args.table.now.entries mid c.args.all.now c.loop-key.key-index t c.loop-key-test.true c.loop-key-item.is c.loop-key.invariant.same_reads c.loop-key.invariant.sums refused

pub loop-key-preserved : goal.loop-key-preserved
loop-key-preserved g c =
    let eq = g.K.PartialEq.eq in
    let same = g.A.PartialEq.eq in
    let rules = g.A.Account.rules in
    let t = c.loop-key-item.result in
    let all = c.args.all.now in
    let old = c.args.table.now.entries in
    let mid = c.loop-key.table.entries in
    let new = c.add_touch.new.table.entries in
    let log = c.loop-key.log.items in
    let b = c.in-Some.entry in
    let i = c.loop-key.key-index in
    let n = c.loop-key.invariant.count in
    let added : IsAdded eq same rules mid new t b = subst (λ (o : Option (ℕ × Revision g.row.A.Denot)). MatchOption o (new ≡ mid) (IsAdded eq same rules mid new t)) c.in-Some.is c.in_ok-entry.ensures.added in
    let pushed : c.push.new.self.items ≡ log ++ b ∷ [] = c.in-Ok.ensures.items ∙ ap (λ us. us ++ b ∷ []) c.reserve.ensures.items in
    let place : IsPlaceOf eq same rules (keys_of old) t b = subst (λ ks. IsPlaceOf eq same rules ks t b) c.loop-key.invariant.same_reads.keys added.place in
    let within : length log < length all = omega (arith, n, c.loop-key-test.true) in
    let at : t ≡ get_or all (length log) t = c.loop-key-item.is ∙ ap (λ j. get_or all j t) (sym n) in
    record {
      count = ap length pushed ∙ length_push log b ∙ ap (λ k. k + 1) n;
      places = subst (StandTogether (IsPlaceOf eq same rules (keys_of old)) all) (sym pushed) (places_push eq g.met.K.Eq.laws same rules (keys_of old) all log t b within at c.loop-key.invariant.places place);
      undo = ap (λ bs. undone bs new) pushed ∙ undone_push log b new ∙ ap (undone log) added.back ∙ c.loop-key.invariant.undo;
      same_reads = reads_trans eq same rules old mid new c.loop-key.invariant.same_reads added.reads;
      sums = sums_push eq g.met.K.Eq.laws same rules old mid new all i t c.loop-key-test.true c.loop-key-item.is c.loop-key.invariant.sums added.sums;
    }

pub returns-clause-added : goal.returns-clause-added
returns-clause-added g c =
    let eq = g.K.PartialEq.eq in
    let same = g.A.PartialEq.eq in
    let rules = g.A.Account.rules in
    let all = c.args.all.now in
    let i = c.loop-key.key-index in
    let whole : take i all ≡ all = take_all i all c.loop-key-test.false in
    record {
      all = omega (arith, c.loop-key.invariant.count, c.loop-key-test.false, c.loop-key.auto.key-index-end);
      places = c.loop-key.invariant.places;
      sums = λ us sums. subst (λ vs. AreSumsOf eq same rules c.loop-key.table.entries (us ++ vs)) whole (c.loop-key.invariant.sums us sums);
    }
