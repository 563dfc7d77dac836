-- How a call begins, and how it ends where the whole range was collected.
use Rattle.std.proofs.Common.{◌≡◌, ℕ, ◌-◌, ◌<◌, true, false, List, [], length, map, All, Option, Ok, Err, refl, sym, ap, subst, ◌∙◌, arith, inl, inr, count_ones}
use Rattle.std.proofs.lemmas.Bool.{cases_Bool, eqb-true}
use Rattle.std.proofs.lemmas.List.Elements.{All-nil}
use Rattle.sha2.specs.Sha256.{sha256}
use Rattle.ledger_codec.specs.Parsing.{Parsed}
use Rattle.ledger_merkle.specs.Tree.{part_root}
use Rattle.ledger_merkle.specs.declared.proof.Part.{Part as Fetched}
use Rattle.ledger_log.specs.declared.target.Target.{Target}
use Rattle.sync_net.specs.declared.ask.Pending.{Pending}
use Rattle.sync_net.specs.View.{MachineView}
use Rattle.sync_net.specs.Wire.{Wire}
use Rattle.sync_client.specs.declared.fault.SyncFault.TheVariants as faults
use Rattle.sync_client.specs.declared.fault.CollectFault.TheVariants as refusals
use Rattle.sync_client.specs.Asking.{LimitsView, Plan, first_plan}
use Rattle.sync_client.specs.Collected.{Collected, ranges_of, opening, is_complete}
use Rattle.sync_client.specs.Tiles.{Tiles}
use Rattle.sync_client.specs.Parts.{Assembles, IsPartOf}
use Rattle.sync_client.specs.Told.{Finishes}
use Rattle.sync_client.specs.Session.{State, started, is_whole}
use Rattle.sync_client.specs.Seen.{beside, seen, asks_of, range_of, IsForOperations, Paired}
use Rattle.sync_client.specs.Runs.{Complete}
use Rattle.sync_client.specs.Ending.{Origin, origin_of, Came, Stopped, Finished}
use Rattle.sync_client.specs.Turns.{Whole}
use Rattle.sync_client.proofs.Rising.{nothing_pending}
use Rattle.sync_client.proofs.Stepping.{Since-none, Came-first, Over-from, Over-rest, Starved-from, not-ended}
use Rattle.sync_client.proofs.Turning.{fits}

-- ---- the beginning

-- a machine without pending requests and a new collector
pub paired_first : {Op : Type 0} (m : MachineView) (c : Collected Op) (plan : Plan) → m.pending ≡ [] → c ≡ opening plan → Paired m c
paired_first m c plan e f = record {
  ranges = ap (λ (v : Collected _). ranges_of v.pending) f ∙ ap (λ (ps : List Pending). map (λ (p : Pending). range_of p.ask) ps) (sym e);
  operations = subst (All IsForOperations) (sym e) (All-nil IsForOperations);
}

-- are the state in which a session begins
pub began : {Op : Type 0} (read : List ℕ → Parsed Op) (written spelling : Op → List ℕ) (target : Target) (updates : List (Option Target)) (limits : LimitsView) (m : MachineView) (c : Collected Op) (wire : Option Wire) (count : ℕ) → m.pending ≡ [] → c ≡ opening (first_plan target limits)
    → Came (origin_of read written spelling target updates limits m wire count) (seen m c (beside 0 updates)) m.held m.closed wire count
began {Op} read written spelling target updates limits m c wire count e f =
    let o : Origin Op = origin_of read written spelling target updates limits m wire count in
    let same : o.start ≡ seen m c (beside 0 updates) =
    ap (λ (ps : List Pending). let s : State Op = record { plan = first_plan target limits; next = m.next; pending = asks_of ps []; fresh = target.start; rests = []; strays = 0; pinned = []; kept = []; updates = updates } in s) (sym e)
    ∙ ap (λ (v : Collected Op). seen m v (beside 0 updates)) (sym f) in
    subst (λ (s : State Op). Came o s m.held m.closed wire count) same (Came-first o (omega arith))

-- ---- the end

-- nothing is kept at the beginning, and the range isn't empty
never_whole : (Op : Type 0) (plan : Plan) (next : Option ℕ) (updates : List (Option Target)) → plan.target.start < plan.target.end → is_whole {Op = Op} (started plan next updates) ≡ true → ⊥
unfolding is_whole
never_whole Op plan next updates lt e = let n : 0 ≡ plan.target.end - plan.target.start = eqb-true 0 (plan.target.end - plan.target.start) e in omega arith

-- the machine was open
unclosed_whole : {Op : Type 0} (o : Origin Op) (plan : Plan) (next : Option ℕ) (before updates : List (Option Target)) (m : MachineView) (c : Collected Op) (wire : Option Wire) (count : ℕ) → o.start ≡ started plan next before → plan.target.start < plan.target.end → Whole o m c updates wire count → m.closed ≡ false
unclosed_whole {Op} o plan next before updates m c wire count e lt w =
    elim (cases_Bool o.closed) [
      | inl shut ↦
          let s = w.came.still shut in
          absurd (never_whole Op plan next before lt (ap is_whole (sym (s.0 ∙ e)) ∙ w.whole))
      | inr live ↦ w.came.as_before ∙ live
    ]

module _ {Op : Type 0} (read : List ℕ → Parsed Op) (written spelling : Op → List ℕ) (target : Target) (before : List (Option Target)) (limits : LimitsView) (first : MachineView) (told : Option Wire) (begun : ℕ)
    (m : MachineView) (c : Collected Op) (updates : List (Option Target)) (wire : Option Wire) (count : ℕ) (w : Whole (origin_of read written spelling target before limits first told begun) m c updates wire count) (tiles : Tiles c) where
  abbrev origin : Origin Op
  origin = origin_of read written spelling target before limits first told begun

  abbrev last : State Op
  last = seen m c (beside w.strays updates)

  live : m.closed ≡ false
  live = unclosed_whole origin (first_plan target limits) first.next before updates m c wire count refl target.ordered w

  -- the part of the current target
  part_now : (part : Fetched Op) → is_complete c ≡ true → Paired m c → Finishes (Ok part) sha256 spelling c → ((other : List Op) → Assembles c.plan.target.start c.kept other → other ≡ part.ops) → Finished origin c.plan.target part m updates wire
  part_now part done pair h only = record {
    last = last;
    over = Over-from origin last m.held m.closed false updates wire wire count (Complete last) w.came live (fits m c (beside w.strays updates) tiles) (Since-none wire) not-ended refl (refl, w.nothing, w.whole);
    target = refl;
    start = h.0;
    pinned = h.1;
    ops = h.2;
    only = only;
    root = ap (λ (ps : List (List ℕ)). part_root sha256 ps part.start (map spelling part.ops)) h.1 ∙ (ap (λ (n : ℕ). part_root sha256 c.pinned n (map spelling part.ops)) h.0 ∙ h.3);
    unclosed = live;
    nothing_pending = nothing_pending m c tiles done pair;
    next = refl;
    held = sym (Over-rest origin last m.held m.closed false updates wire wire count (Complete last) w.came live (fits m c (beside w.strays updates) tiles) (Since-none wire) not-ended refl (refl, w.nothing, w.whole));
  }

  -- the part
  pub finished_so : (synced : Target) (part : Fetched Op) → synced ≡ c.plan.target → is_complete c ≡ true → Paired m c → Finishes (Ok part) sha256 spelling c → ((other : List Op) → Assembles c.plan.target.start c.kept other → other ≡ part.ops) → Finished origin synced part m updates wire
  finished_so synced part same done pair h only = subst (λ (t : Target). Finished origin t part m updates wire) (sym same) (part_now part done pair h only)

  -- another root
  pub wrong_so : (found : List ℕ) → Finishes {Op = Op} (Err (refusals.WrongRoot found)) sha256 spelling c → Stopped origin (faults.WrongRoot found) m updates wire count
  wrong_so found h =
      (live, last, Over-from origin last m.held m.closed false updates wire wire count (Complete last) w.came live (fits m c (beside w.strays updates) tiles) (Since-none wire) not-ended refl (refl, w.nothing, w.whole), h.0, h.1, h.2, h.3)

  -- no memory for the part
  pub starved_so : Stopped origin faults.OutOfMemory m updates wire count
  starved_so = Starved-from origin last m.held [] m.closed m updates wire wire count count w.came (inl refl) (inl refl) refl refl (Since-none wire) (omega arith)

-- what the part is over every link
pub part_so : {Op : Type 0} (spelling : Op → List ℕ) (synced : Target) (c : Collected Op) (part : Fetched Op) → synced ≡ c.plan.target → Finishes (Ok part) sha256 spelling c → (length part.ops ≡ c.plan.target.end - c.plan.target.start) × (length part.pinned ≡ count_ones c.plan.target.start) → IsPartOf spelling synced part
part_so spelling synced c part same h k =
    let t : c.plan.target ≡ synced = sym same in
    record {
      start = h.0 ∙ ap (λ (x : Target). x.start) t;
      count = k.0 ∙ ap (λ (x : Target). x.end - x.start) t;
      nodes = k.1 ∙ ap (λ (x : Target). count_ones x.start) t;
      root = ap (λ (ps : List (List ℕ)). part_root sha256 ps part.start (map spelling part.ops)) h.1 ∙ (ap (λ (n : ℕ). part_root sha256 c.pinned n (map spelling part.ops)) h.0 ∙ (h.3 ∙ ap (λ (x : Target). x.root) t));
    }
