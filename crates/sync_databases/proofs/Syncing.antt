-- A part that was synced and opened.
use Rattle.std.proofs.Common.{◌≡◌, ◌<◌, ℕ, ◌+◌, ◌-◌, List, [], length, map, Option, Ok, Err, sym, ap, ◌∙◌, arith, inr}
use Rattle.std.proofs.lemmas.List.{length-map}
use Rattle.sha2.specs.Sha256.{sha256}
use Rattle.ledger_codec.specs.Parsing.{Parsed}
use Rattle.ledger_merkle.specs.Tree.{root, grow}
use Rattle.ledger_log.specs.View.{LogView, log_size, log_root}
use Rattle.ledger_log.specs.declared.target.Target.{Target}
use Rattle.sync_net.specs.View.{MachineView}
use Rattle.sync_net.specs.Wire.{Wire}
use Rattle.sync_client.specs.Asking.{LimitsView}
use Rattle.sync_fetch.specs.declared.fault.StateFault.{StateFault}
use Rattle.sync_fetch.specs.declared.fault.StateFault.TheVariants.{Fetch, WrongState}
use Rattle.ledger_sync.specs.Logs.{Opened}
use Rattle.ledger_sync.proofs.Serving.{synced_is}
use Rattle.sync_databases.specs.Synced.{IsAt, PartSynced, LogSynced}

module _ {Op : Type 0} (spelling : Op → List ℕ) (limits : LimitsView) (target : Target) (read : List ℕ → Parsed Op) (written : Op → List ℕ) (m n : MachineView) (before now : Option Wire) (count risen : ℕ) (p : PartSynced spelling limits target read written m n before now count risen) (floor_of : Op → Option ℕ) where
  -- its log is the target's
  module _ (log : LogView Op) (o : Opened floor_of p.part (Ok log)) where
    front_is : log.front ≡ target.start
    front_is = ap (λ (l : LogView Op). l.front) o.1 ∙ (p.whole.start ∙ (synced_is (p.synced, p.part) target p.took).start)

    size_is : log_size log ≡ target.end
    size_is =
        let counted = p.whole.count in
        let first = p.whole.start in
        let ordered = p.synced.ordered in
        let own : p.part.start + length p.part.ops ≡ p.synced.end = omega arith in
        ap (λ (l : LogView Op). log_size l) o.1 ∙ (own ∙ (synced_is (p.synced, p.part) target p.took).end)

    root_is : log_root sha256 spelling log ≡ target.root
    root_is =
        ap (log_root sha256 spelling) o.1
        ∙ (ap (λ (k : ℕ). root sha256 (p.part.start + k) (grow sha256 p.part.start p.part.pinned (map spelling p.part.ops))) (sym (length-map p.part.ops spelling))
        ∙ (p.whole.root ∙ (synced_is (p.synced, p.part) target p.took).root))

    pub at_target : IsAt spelling log target
    at_target = record { start = front_is; end = size_is; root = root_is }

  -- it isn't opened
  pub unopened : (fault : StateFault) → Opened floor_of p.part (Err fault) → LogSynced spelling floor_of limits target (Err fault) read written m n before now count risen
  unopened (WrongState fault) o = (p, o)
  unopened (Fetch fault) o = inr (p, o)
