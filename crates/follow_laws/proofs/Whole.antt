-- A session over a stream of bytes that kept its whole range: one part, of values of 32 bytes.
use Rattle.std.proofs.Common.{◌≡◌, ℕ, true, List, [], ◌∷◌, ◌++◌, Option, Some, Result, Ok, Err, refl, sym, ap, subst, ◌∙◌}
use Rattle.std.specs.List.{AllByRecursion}
use Rattle.ledger_job.specs.declared.block.Block.{Block}
use Rattle.ledger_log.specs.Any.{any_spelling}
use Rattle.ledger_log.specs.Spellings.{any_at}
use Rattle.ledger_log.specs.declared.any.AnyOp.{AnyOp}
use Rattle.ledger_log.specs.declared.any.AnyOp.TheVariants as any
use Rattle.ledger_log.specs.declared.target.Target.{Target}
use Rattle.ledger_managed.specs.Values.{ValueLaws}
use Rattle.ledger_merkle.specs.declared.proof.Part.{Part as Fetched}
use Rattle.ledger_program.specs.Follow.{beginning, FollowFails, Follows}
use Rattle.ledger_program.specs.declared.fault.Fault.{Fault}
use Rattle.ledger_settling.proofs.CauseLemmas.{IsWritten}
use Rattle.ledger_settling.specs.Blocks.{Meaning}
use Rattle.ledger_settling.specs.declared.report.Report.{Report}
use Rattle.std.specs.Cmp.{IsEquivalence}
use Rattle.sync_client.specs.Asking.{LimitsView, first_plan}
use Rattle.sync_client.specs.Ending.{Origin}
use Rattle.sync_client.specs.Parts.{Assembles}
use Rattle.sync_client.specs.Runs.{Complete, SessionLaws}
use Rattle.sync_client.specs.Session.{State, Rules, rules_for, started, is_whole}
use Rattle.sync_net.specs.Wire.{Wire}
use Rattle.follow_laws.specs.Alike.{AreBytes, Tells, Ran, IsAlike}
use Rattle.follow_laws.proofs.Streams.{Leg}
use Rattle.follow_laws.proofs.Parts.{IsPart}
use Rattle.follow_laws.proofs.Bytes.{HasValue, message_values, bodies_bytes, front_bytes}
use Rattle.follow_laws.proofs.Covers.{Covers, first_covers, reaches_covers, one_list, ops_hold}
use Rattle.follow_laws.proofs.Ways.{Way, alike, way_reported, way_failed}

module _ (target : Target) (limits : LimitsView) (next : Option ℕ) (updates : List (Option Target)) (stream : List ℕ) (bytes : AreBytes stream) where
  abbrev rules : Rules AnyOp
  rules = rules_for any_at any_spelling any_spelling

  abbrev start : State AnyOp
  start = started (first_plan target limits) next updates

  record Kept (t : State AnyOp) : Type 0 where
    whole : is_whole t ≡ true
    covers : Covers HasValue t

  kept_whole : (t : State AnyOp) → Leg rules start stream (Complete t) → Kept t
  kept_whole t leg =
      let s = leg.session in
      let given : AreBytes leg.given = front_bytes leg.given leg.front.more (subst AreBytes leg.front.all bytes) in
      let bodies = bodies_bytes 10485760 leg.given s.bodies s.rest given s.led in
      let last : Covers HasValue s.last = reaches_covers HasValue rules AreBytes (λ body m b e. message_values body m b e) start s.last s.bodies leg.asks s.reached bodies (first_covers HasValue target limits next updates) in
      record { whole = ap is_whole s.ends.0 ∙ s.ends.2; covers = subst (Covers HasValue) (sym s.ends.0) last }

  pub only : (t : State AnyOp) → Leg rules start stream (Complete t) → (ops other : List AnyOp) → Assembles t.plan.target.start t.kept ops → Assembles t.plan.target.start t.kept other → other ≡ ops
  only t leg ops other a b = let k = kept_whole t leg in one_list HasValue t k.whole k.covers ops other a b

  module _ {T A E : Type 0} (m : Meaning T A E) where
    written_one : (op : AnyOp) → HasValue op → IsWritten m op
    written_one (any.Update key value) h = h
    written_one (any.Delete key) h = tt
    written_one (any.CommitFloor metadata floor) h = tt

    written_all : (ops : List AnyOp) → AllByRecursion HasValue ops → AllByRecursion (IsWritten m) ops
    written_all [] h = tt
    written_all (op ∷ ops) h = (written_one op h.0, written_all ops h.1)

    pub written : (t : State AnyOp) (synced : Target) (part : Fetched AnyOp) → Leg rules start stream (Complete t) → IsPart rules t synced part → AllByRecursion (IsWritten m) part.ops
    written t synced part leg is =
        let k = kept_whole t leg in
        written_all part.ops (ops_hold HasValue t k.whole k.covers part.ops (subst (λ (x : Target). Assembles x.start t.kept part.ops) is.target is.ops))

-- two runs over one stream of bytes
module _ {T A E : Type 0} (m : Meaning T A E) (target : Target) (limits : LimitsView) (blocks : List (Block T)) (stream : List ℕ) (bytes : AreBytes stream) where
  way : (before now : List (Option Target)) (wire after : Option Wire) (count risen : ℕ) (r : Result (Report A) Fault) → Tells stream wire after → Ran m (beginning target before limits wire count) now after risen blocks r
      → Way m (beginning target before limits wire count).rules (beginning target before limits wire count).start stream blocks r
  way before now wire after count risen (Ok report) t h =
      way_reported m (beginning target before limits wire count) refl stream blocks now after t (only target limits (Some 1) before stream bytes) report h.0 h.1
  way before now wire after count risen (Err fault) t h =
      way_failed m (beginning target before limits wire count) refl stream blocks now after t (only target limits (Some 1) before stream bytes) risen fault h

  pub ran_alike : {IsSound : A → Type 0} (values : ValueLaws m.same IsSound m.rules m.values) (equiv : IsEquivalence m.same)
      (before now others left : List (Option Target)) (wire after other another : Option Wire) (count risen number grown : ℕ) (r s : Result (Report A) Fault)
      → SessionLaws (beginning target before limits wire count).rules (beginning target before limits wire count).start
      → before ≡ others → Tells stream wire after → Tells stream other another
      → Ran m (beginning target before limits wire count) now after risen blocks r → Ran m (beginning target others limits other number) left another grown blocks s → IsAlike m.same r s
  ran_alike values equiv before now others left wire after other another count risen number grown r s laws same t u h k =
      let second : Ran m (beginning target before limits other number) left another grown blocks s = subst (λ (answers : List (Option Target)). Ran m (beginning target answers limits other number) left another grown blocks s) (sym same) k in
      alike m (beginning target before limits wire count).rules (beginning target before limits wire count).start stream blocks values equiv laws (written target limits (Some 1) before stream bytes m) r s
      (way before now wire after count risen r t h) (way before left other another number grown s u second)
