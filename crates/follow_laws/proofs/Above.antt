-- The end of a report's log, from its floor on, is one that can be followed, and has the report's accounts.
use Rattle.std.proofs.Common.{◌≡◌, ℕ, zero, suc, ◌-◌, ◌^◌, ◌<◌, ◌≤◌, List, [], ◌∷◌, length, length-drop, drop, All, Some, Ok, refl, sym, ap, subst, ◌∙◌, arith}
use Rattle.std.specs.Prelude.{count_ones}
use Rattle.std.specs.Cmp.{IsEquivalence}
use Rattle.std.specs.List.{AllByRecursion}
use Rattle.ledger_job.specs.declared.block.Block.{Block}
use Rattle.ledger_log.specs.Active.{living}
use Rattle.ledger_log.specs.Any.{any_floor, any_spelling, any_write, IsSoundAny}
use Rattle.ledger_log.specs.View.{floor_or_zero, last_floor, log_floor, log_size}
use Rattle.ledger_log.specs.declared.any.AnyOp.{AnyOp}
use Rattle.ledger_log.specs.declared.target.Target.{Target}
use Rattle.ledger_managed.specs.Values.{ValueLaws}
use Rattle.ledger_program.specs.Follow.{FollowsLog, IsValid, range_in}
use Rattle.ledger_raising.proofs.Rising.{all_of_least, from_living, least_from}
use Rattle.ledger_raising.specs.Raised.{FloorSound}
use Rattle.ledger_settling.proofs.OutcomeLemmas.{outcome_sym, outcome_trans}
use Rattle.ledger_settling.specs.Blocks.{Meaning, IsReadable, account_at, log_from}
use Rattle.ledger_settling.specs.Reports.{ReportOf, IsWhole, held}
use Rattle.ledger_settling.specs.declared.report.Report.{Report}
use Rattle.sync_client.specs.Serving.{Serves}
use Rattle.sync_net.specs.Core.{data_of}
use Rattle.follow_laws.specs.Chained.{FloorTarget, HasAccounts, KeepSound, LogTarget}
use Rattle.follow_laws.specs.Replayed.{IsAbove}
use Rattle.follow_laws.proofs.Chains.{log_whole, root_is, readable_all}
use Rattle.follow_laws.proofs.Grown.{all_of}
use Rattle.follow_laws.proofs.Replays.{replayed, rest_is}

-- where the floor is the first place, nothing that counts lies below it
pub sound_at_start : (start : ℕ) (ops : List AnyOp) → log_floor any_floor (log_from start ops) ≤ start → FloorSound any_floor any_write (log_from start ops)
sound_at_start start ops low =
    let floor : ℕ = log_floor any_floor (log_from start ops) in
    all_of_least floor (living any_write start ops) (least_from floor start (living any_write start ops) low (from_living any_write start ops))

-- the last operation is that of each end
last_drop : (n : ℕ) (ops : List AnyOp) → n < length ops → last_floor any_floor (drop n ops) ≡ last_floor any_floor ops
last_drop zero ops lt = refl
last_drop (suc n) [] lt = absurd (omega arith)
last_drop (suc n) (x ∷ []) lt = absurd (omega arith)
last_drop (suc n) (x ∷ y ∷ ys) lt = last_drop n (y ∷ ys) (omega arith)

dropped_all : {X : Type 0} (P : X → Type 0) (n : ℕ) (xs : List X) → AllByRecursion P xs → AllByRecursion P (drop n xs)
dropped_all P zero xs h = h
dropped_all P (suc n) [] h = tt
dropped_all P (suc n) (x ∷ xs) h = dropped_all P n xs h.1

module _ {T A E : Type 0} (m : Meaning T A E) (blocks : List (Block T)) (report : Report A) (of : ReportOf m report.target blocks report) where
  floor_is : log_floor any_floor report.log ≡ (log_whole m blocks report of).floor
  floor_is = ap floor_or_zero (log_whole m blocks report of).commits

  -- the floor lies in the log
  pub floor_low : log_floor any_floor report.log < report.size
  floor_low = let w = log_whole m blocks report of in let e = floor_is in let l = w.most in let n = of.size in omega arith

  module _ (target : Target) (t : FloorTarget report target) where
    -- the target of the whole log
    abbrev pub all_target : Target
    all_target = record { root = target.root; start = report.start; end = target.end; ordered = let w = log_whole m blocks report of in let a = w.least in let b = w.most in let s = of.start in let n = of.size in let e = t.end in omega arith }

    pub all_of_log : LogTarget report all_target
    all_of_log = record { root = t.root; start = refl; end = t.end }

    pub begins : report.log.front ≤ target.start
    begins = let w = log_whole m blocks report of in let a = w.least in let e = floor_is in let s = t.start in let f = of.front in omega arith

    pub size_is : log_size report.log ≡ target.end
    size_is = let f = of.front in let n = of.size in let e = t.end in omega arith

    below : target.start < log_size report.log
    below = let l = floor_low in let s = t.start in let e = t.end in let k = size_is in omega arith

    -- a link to the report's log serves its end
    abbrev pub serves_floor : All IsSoundAny report.log.ops → All (λ digest. length digest ≡ 32) report.pinned → length report.log.pinned ≡ count_ones report.log.front → report.size ≤ 2 ^ 62 → Serves any_spelling IsSoundAny (data_of any_spelling any_floor report.log) target
    serves_floor sound nodes count most = record {
      log = report.log;
      is = refl;
      ops = sound;
      nodes = subst (All (λ (digest : List ℕ). length digest ≡ 32)) (sym of.nodes) nodes;
      count = count;
      front = begins;
      size = let s = size_is in omega arith;
      most = let s = size_is in let e = t.end in omega arith;
      root = root_is m blocks report of all_target all_of_log;
    }

    range_is : range_in report.log target ≡ drop (target.start - report.log.front) report.log.ops
    range_is = rest_is report.log target size_is begins

    -- without blocks it is valid
    pub valid_floor : {IsSound : A → Type 0} → ValueLaws m.same IsSound m.rules m.values → KeepSound IsSound m.rules m.values → All IsSoundAny report.log.ops → report.size ≤ 2 ^ 62 → IsValid m report.log target []
    valid_floor laws keep sound most =
        let n : ℕ = target.start - report.log.front in
        let rest : List AnyOp = drop (target.start - report.log.front) report.log.ops in
        let long : length rest ≡ length report.log.ops - n = length-drop n report.log.ops in
        let w = log_whole m blocks report of in
        let f = begins in
        let s = size_is in
        let b = below in
        let last : last_floor any_floor rest ≡ Some w.floor = last_drop n report.log.ops (omega arith) ∙ w.commits in
        let ends : IsWhole target.start rest = record { floor = w.floor; commits = last; least = let e = floor_is in let x = t.start in omega arith; most = let x = w.most in let y = of.front in omega arith } in
        let each : All (IsReadable m.values) rest = all_of (IsReadable m.values) rest (dropped_all (IsReadable m.values) n report.log.ops (readable_all m blocks report of laws keep sound)) in
        record {
          whole = subst (IsWhole target.start) (sym range_is) ends;
          readable = subst (All (IsReadable m.values)) (sym range_is) each;
          verdicts = [];
          all = rest;
          runs = sym range_is;
          room = let e = t.end in omega arith;
        }

    -- what comes of following it has the report's accounts
    pub has_accounts : IsEquivalence m.same → (next : Report A) → ReportOf m next.target [] next → FollowsLog m report.log target [] (Ok next) → FloorSound any_floor any_write (log_from report.target.start report.kept) → HasAccounts m.same report next
    has_accounts equiv next is h sound key =
        let here : FloorSound any_floor any_write report.log = subst (λ (n : ℕ). FloorSound any_floor any_write (log_from n report.log.ops)) (sym of.front) (of.rises.sound sound) in
        let above : IsAbove target.start target.end report.log = record { ends = size_is; sound = here; below = let s = t.start in omega arith } in
        outcome_trans m.same equiv (held next.accounts key) (account_at m.values report.log.ops key) (held report.accounts key)
        (replayed m report.log target above begins next is h key)
        (outcome_sym m.same equiv (held report.accounts key) (account_at m.values report.log.ops key) (of.accounts key))
