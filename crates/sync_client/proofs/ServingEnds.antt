-- How a call over a link that serves begins, and how it ends.
use Rattle.std.proofs.Common.{◌≡◌, ℕ, ◌+◌, ◌-◌, ◌^◌, ◌<◌, ◌≤◌, true, List, [], ◌++◌, length, take, drop, map, Option, Some, Ok, Err, refl, sym, ap, subst, ◌∙◌, arith}
use Rattle.std.proofs.Math.Seq.{take-add}
use Rattle.std.proofs.lemmas.Bool.{eqb-true}
use Rattle.std.proofs.lemmas.List.{length-map, map-append, length-take-le, length-drop}
use Rattle.std.proofs.lemmas.List.Elements.{All-nil}
use Rattle.sha2.specs.Sha256.{sha256}
use Rattle.ledger_merkle.specs.Tree.{grow, root, part_root}
use Rattle.ledger_merkle.specs.declared.proof.Part.{Part as Fetched}
use Rattle.ledger_merkle.proofs.Growing.{grow-append}
use Rattle.ledger_log.specs.View.{LogView, log_size, log_range, log_peaks_at, log_root_at}
use Rattle.ledger_log.specs.declared.target.Target.{Target}
use Rattle.sync_net.specs.declared.ask.Pending.{Pending}
use Rattle.sync_net.specs.Core.{LogData}
use Rattle.sync_net.specs.Service.{Service}
use Rattle.sync_net.specs.View.{MachineView}
use Rattle.sync_client.specs.declared.fault.CollectFault.TheVariants as refusals
use Rattle.sync_client.specs.Asking.{LimitsView, Plan, first_plan}
use Rattle.sync_client.specs.Collected.{Collected, opening, is_complete}
use Rattle.sync_client.specs.Parts.{Assembles}
use Rattle.sync_client.specs.Told.{Finishes}
use Rattle.sync_client.specs.Tiles.{Tiles, in_pieces, inside, size_of_pieces}
use Rattle.sync_client.specs.Session.{Ask, State}
use Rattle.sync_client.specs.Seen.{Beside, beside, seen, asks_of, Paired}
use Rattle.sync_client.specs.Updates.{targets_in}
use Rattle.sync_client.specs.Serving.{Serves, HasTarget, HasLater}
use Rattle.sync_client.specs.Owing.{IsWithin, IsOwn, IsOwnAsk, HasNodes, awaited, IsServed, Begins, IsLogs}
use Rattle.sync_client.proofs.Insides.{inside_in}
use Rattle.sync_client.proofs.Rising.{nothing_pending}
use Rattle.sync_client.proofs.Chains.{whole}
use Rattle.sync_client.proofs.Unique.{one_part}
use Rattle.sync_client.proofs.ServingTakes.{own_part, own_nodes}

-- ---- the beginning

-- the state of these pending requests and this collector, with these answers to come
abbrev first_state : {Op : Type 0} → MachineView → List Pending → Collected Op → List (Option Target) → State Op
first_state m ps v updates = record { plan = v.plan; next = m.next; pending = asks_of ps v.pending; fresh = v.fresh; rests = v.rests; strays = 0; pinned = v.pinned; kept = v.kept; updates = updates }

-- a call begins served: of the answers to come some are taken, and the others left
pub began_served : {Op : Type 0} (written : Op → List ℕ) (held : LogData) (log : LogView Op) (target : Target) (updates took left : List (Option Target)) (limits : LimitsView) (m : MachineView) (c : Collected Op) (now : Option Service)
    → m.pending ≡ [] → c ≡ opening (first_plan target limits) → 0 < limits.batch → 0 < limits.outstanding → HasTarget written log target → updates ≡ took ++ left → HasLater written log target (targets_in took) → Begins held m now
    → IsServed written held log left (seen m c (beside 0 updates)) m.held m.closed now
began_served {Op} written held log target updates took left limits m c now e f batch many has all later b =
    let plan : Plan = first_plan target limits in
    let start : IsServed written held log left (first_state m [] (opening {Op = Op} plan) updates) m.held m.closed now = record {
      follows = record {
        batch = batch;
        many = many;
        has = has;
        fresh = omega arith;
        pending = All-nil (IsOwnAsk written log target);
        rests = All-nil (IsWithin target);
        rises = tt;
        drawn = record { small = All-nil (λ (a : Ask). a.number < 2 ^ 64); next_small = b.small; before = λ n q. All-nil (λ (a : Ask). a.number < n) };
        kept = All-nil (IsOwn log target);
        nodes = All-nil (HasNodes written log target []);
      };
      foresees = record { current = target; took = took; low = refl; end = refl; all = all; later = later };
      owed = b.told;
      empty = b.empty;
      live = b.live;
    } in
    subst (λ (ps : List Pending). IsServed written held log left (first_state m ps c updates) m.held m.closed now) (sym e)
    (subst (λ (v : Collected Op). IsServed written held log left (first_state m [] v updates) m.held m.closed now) (sym f) start)

-- ---- the end

complete_size : {Op : Type 0} (c : Collected Op) → is_complete c ≡ true → size_of_pieces c.kept ≡ c.plan.target.end - c.plan.target.start
unfolding is_complete
complete_size c done = eqb-true _ _ done

-- the root of a range behind the peaks before it is that of all up to its end
root_of_range : {Op : Type 0} (written : Op → List ℕ) (log : LogView Op) (start end : ℕ) → log.front ≤ start → start ≤ end → end ≤ log_size log
    → part_root sha256 (log_peaks_at sha256 written log start) start (map written (log_range log start (end - start))) ≡ log_root_at sha256 written log end
root_of_range {Op} written log start end from order to =
    let a = take (start - log.front) log.ops in
    let b = take (end - start) (drop (start - log.front) log.ops) in
    let length_a : length a ≡ start - log.front = length-take-le (start - log.front) log.ops (omega arith) in
    let length_b : length b ≡ end - start = length-take-le (end - start) (drop (start - log.front) log.ops) (omega (arith, length-drop (start - log.front) log.ops)) in
    let behind : log.front + length (map written a) ≡ start = omega (arith, length-map a written, length_a) in
    let size : start + length (map written b) ≡ end = omega (arith, length-map b written, length_b) in
    let sum : start - log.front + (end - start) ≡ end - log.front = omega arith in
    let both : a ++ b ≡ take (end - log.front) log.ops = sym (take-add (start - log.front) (end - start) log.ops) ∙ ap (λ n. take n log.ops) sum in
    let peaks : grow sha256 start (grow sha256 log.front log.pinned (map written a)) (map written b) ≡ log_peaks_at sha256 written log end =
    ap (λ n. grow sha256 n (grow sha256 log.front log.pinned (map written a)) (map written b)) (sym behind)
    ∙ (sym (grow-append sha256 log.front log.pinned (map written a) (map written b))
    ∙ (ap (grow sha256 log.front log.pinned) (sym (map-append written a b))
    ∙ ap (λ (l : List Op). grow sha256 log.front log.pinned (map written l)) both)) in
    ap (λ n. root sha256 n (grow sha256 start (grow sha256 log.front log.pinned (map written a)) (map written b))) size ∙ ap (root sha256 end) peaks

module _ {Op : Type 0} (written spelling : Op → List ℕ) (sound : Op → Type 0) (same : written ≡ spelling) (held : LogData) (first : Target) (h : Serves written sound held first) (left : List (Option Target)) (m : MachineView) (c : Collected Op) (b : Beside) (now : Option Service)
    (tiles : Tiles c) (done : is_complete c ≡ true) (paired : Paired m c) (served : IsServed written held h.log left (seen m c b) m.held m.closed now) where
  abbrev aimed : Target
  aimed = c.plan.target

  has : HasTarget written h.log aimed
  has = served.follows.has

  range_assembled : Assembles aimed.start c.kept (log_range h.log aimed.start (aimed.end - aimed.start))
  range_assembled = own_part written h.log aimed c.kept has.front has.size (let o : aimed.start < aimed.end = aimed.ordered in omega arith) served.follows.kept (complete_size c done)

  nodes_own : c.pinned ≡ log_peaks_at sha256 written h.log aimed.start
  nodes_own =
      let o : aimed.start < aimed.end = aimed.ordered in
      let one : inside aimed.start aimed.start aimed.end ≡ 1 = inside_in aimed.start aimed.start aimed.end (omega arith) o in
      let covered : in_pieces aimed.start c.kept ≡ inside aimed.start aimed.start aimed.end = whole c tiles done aimed.start in
      own_nodes written h.log aimed c.pinned c.kept served.follows.kept served.follows.nodes (omega (arith, one, covered))

  -- the part is the log's own range of the target that was synced
  pub logs_part : (synced : Target) → synced ≡ c.plan.target → (part : Fetched Op) → Finishes (Ok part) sha256 spelling c → ((other : List Op) → Assembles c.plan.target.start c.kept other → other ≡ part.ops) → IsLogs written held h.log synced part m now
  logs_part synced is part f only =
      let own : IsLogs written held h.log aimed part m now = record {
        ops = sym (only (log_range h.log aimed.start (aimed.end - aimed.start)) range_assembled);
        pinned = f.1 ∙ nodes_own;
        empty = served.empty;
        told = served.owed ∙ ap (λ (ps : List Pending). Some (awaited held (asks_of ps c.pending))) (nothing_pending m c tiles done paired);
      } in
      subst (λ (t : Target). IsLogs written held h.log t part m now) (sym is) own

  -- and has no other root
  pub never_wrong : (found : List ℕ) → Finishes {Op = Op} (Err (refusals.WrongRoot found)) sha256 spelling c → ⊥
  never_wrong found f =
      let o : aimed.start < aimed.end = aimed.ordered in
      let range = log_range h.log aimed.start (aimed.end - aimed.start) in
      let here : Assembles aimed.start c.kept f.0 = f.1 in
      let is : f.0 ≡ range = one_part aimed.start aimed.end c.kept f.0 range (whole c tiles done) (here.0 ∙ complete_size c done) here range_assembled in
      let right : part_root sha256 c.pinned aimed.start (map spelling f.0) ≡ aimed.root =
      ap (λ (ops : List Op). part_root sha256 c.pinned aimed.start (map spelling ops)) is
      ∙ (ap (λ (f : Op → List ℕ). part_root sha256 c.pinned aimed.start (map f range)) (sym same)
      ∙ (ap (λ (ps : List (List ℕ)). part_root sha256 ps aimed.start (map written range)) nodes_own
      ∙ (root_of_range written h.log aimed.start aimed.end has.front (omega arith) has.size ∙ has.root))) in
      f.3 (f.2 ∙ right)
