-- What a collector's steps do to the covering of the range.
use Rattle.std.proofs.Common.{◌≡◌, ℕ, ◌+◌, ◌-◌, ◌<◌, ◌≤◌, true, ◌&&◌, List, [], ◌∷◌, ◌++◌, length, Option, Some, None, nat_lt, nat_le, ◌==◌, if◌then◌else◌, All, count_ones, refl, sym, ap, ◌∙◌, ◌^◌, subst, arith, inl, inr}
use Rattle.std.specs.declared.ops.Range.{Range}
use Rattle.std.proofs.lemmas.Bool.{lt-ltb, le-ltb, and_from, and_left, and_right, eq-eqb, ne_eqb, eqb-true, eqb-false, and_parts, cases_eq, cases_Bool, cases_lt, ltb-true, leb-true}
use Rattle.std.proofs.lemmas.List.{length-map}
use Rattle.std.proofs.lemmas.List.Elements.{All-push, All-head, All-tail, All-nil, All-append, All-weaker}
use Rattle.std.proofs.lemmas.List.Sums.{sum_by_push, sum_by-cons, sum_by-append}
use Rattle.sync_net.specs.declared.response.GetOperationsResponse.{GetOperationsResponse}
use Rattle.sync_client.specs.declared.collector.Piece.{Piece}
use Rattle.sync_client.specs.Asking.{Judge, good, rest_of, nodes_of, nodes_good, pinned_good}
use Rattle.ledger_log.specs.declared.target.Target.{Target}
use Rattle.sync_client.specs.declared.asked.Asked.{Asked}
use Rattle.sync_client.specs.Collected.{Collected, ranges_of, nothing_left, is_complete, place_in, without, IsOutstanding}
use Rattle.sync_client.specs.Tiles.{Tiles, inside, in_ranges, in_pieces, size_of_ranges, size_of_pieces, Within, EndsWithin, HasOps, Pinned}
use Rattle.sync_client.proofs.Insides.{inside_split, range_without, sum_without, All-without, All-without_at, All-at}
use Rattle.sync_client.proofs.Places.{ranges_push, ranges_without}

-- each range has a place
pub length_ranges : (e : ℕ) (rs : List (Range ℕ)) → All (Within e) rs → length rs ≤ size_of_ranges rs
length_ranges e [] h = omega arith
length_ranges e (r ∷ rs) h =
    let ih : length rs ≤ size_of_ranges rs = length_ranges e rs (All-tail (Within e) r rs h) in
    let c : size_of_ranges (r ∷ rs) ≡ (r.end - r.start) + size_of_ranges rs = sum_by-cons (λ (r : Range ℕ). r.end - r.start) r rs in
    let p : r.start < r.end = (All-head (Within e) r rs h).0 in
    omega arith

pub no_ranges : (rs : List (Range ℕ)) → length rs ≡ 0 → size_of_ranges rs ≡ 0
no_ranges [] e = refl
no_ranges (r ∷ rs) e = absurd (omega arith)

-- All is kept exactly where nothing is asked and nothing is left to ask.
pub complete_is : {Op : Type 0} (v : Collected Op) → Tiles v → nothing_left (length v.pending) (length v.rests) v.fresh v.plan.target.end ≡ is_complete v
unfolding is_complete
complete_is v h =
    let total = h.total in
    let le = h.to_end in
    let many : length (ranges_of v.pending) ≡ length v.pending = length-map v.pending (λ (a : Asked). a.range) in
    let lp : length (ranges_of v.pending) ≤ size_of_ranges (ranges_of v.pending) = length_ranges v.plan.target.end (ranges_of v.pending) h.pending in
    let lr : length v.rests ≤ size_of_ranges v.rests = length_ranges v.plan.target.end v.rests h.rests in
    elim (cases_eq (size_of_pieces v.kept) (v.plan.target.end - v.plan.target.start)) [
      | inl same ↦
          let a : length v.pending ≡ 0 = omega arith in
          let b : length v.rests ≡ 0 = omega arith in
          let c : v.fresh ≡ v.plan.target.end = omega arith in
          rw (eq-eqb _ _ same) (and_from _ _ (eq-eqb _ _ a) (and_from _ _ (eq-eqb _ _ b) (eq-eqb _ _ c)))
      | inr differ ↦ rw (ne_eqb _ _ differ) (
          elim (cases_eq (length v.pending) 0) [
            | inr n ↦ and_left (length v.pending == 0) ((length v.rests == 0) && (v.fresh == v.plan.target.end)) (ne_eqb _ _ n)
            | inl a ↦ and_right (length v.pending == 0) ((length v.rests == 0) && (v.fresh == v.plan.target.end)) (elim (cases_eq (length v.rests) 0) [
              | inr n ↦ and_left (length v.rests == 0) (v.fresh == v.plan.target.end) (ne_eqb _ _ n)
              | inl b ↦ and_right (length v.rests == 0) (v.fresh == v.plan.target.end) (ne_eqb _ _ (λ (c : v.fresh ≡ v.plan.target.end).
                  let x : size_of_ranges (ranges_of v.pending) ≡ 0 = no_ranges (ranges_of v.pending) (many ∙ a) in
                  let y : size_of_ranges v.rests ≡ 0 = no_ranges v.rests b in
                  differ (omega arith)))
            ])
          ])
    ]

-- what was asked for the current target, behind what is pending
abbrev asked_now : {Op : Type 0} → Collected Op → Range ℕ → Asked
asked_now v r = record { range = r; target = v.plan.target }

-- a rest is asked
pub tiles_rest : {Op : Type 0} (v : Collected Op) (r : Range ℕ) (rs : List (Range ℕ)) (ps : List Asked) → v.rests ≡ r ∷ rs → ps ≡ v.pending ++ record { range = r; target = v.plan.target } ∷ [] → Tiles v → Tiles (record v { rests = rs; pending = ps })
tiles_rest {Op} v r rs ps e f h =
    let all : All (Within v.plan.target.end) (r ∷ rs) = subst (λ (xs : List (Range ℕ)). All (Within v.plan.target.end) xs) e h.rests in
    let head : Within v.plan.target.end r = All-head (Within v.plan.target.end) r rs all in
    let g : ranges_of ps ≡ ranges_of v.pending ++ r ∷ [] = ranges_push v.pending ps (asked_now v r) f in
    record {
      from_start = h.from_start;
      to_end = h.to_end;
      near = h.near;
      each = λ x.
          let a : in_ranges x v.rests ≡ inside x r.start r.end + in_ranges x rs = rw e (sum_by-cons (λ (r : Range ℕ). inside x r.start r.end) r rs) in
          let b : in_ranges x (ranges_of ps) ≡ in_ranges x (ranges_of v.pending) + inside x r.start r.end = rw g (sum_by_push (λ (r : Range ℕ). inside x r.start r.end) (ranges_of v.pending) r) in
          let c = h.each x in
          omega arith;
      total =
          let a : size_of_ranges v.rests ≡ (r.end - r.start) + size_of_ranges rs = rw e (sum_by-cons (λ (r : Range ℕ). r.end - r.start) r rs) in
          let b : size_of_ranges (ranges_of ps) ≡ size_of_ranges (ranges_of v.pending) + (r.end - r.start) = rw g (sum_by_push (λ (r : Range ℕ). r.end - r.start) (ranges_of v.pending) r) in
          let c = h.total in
          omega arith;
      pending = rw g (All-push (Within v.plan.target.end) (ranges_of v.pending) r h.pending head);
      targets = rw f (All-push EndsWithin v.pending (asked_now v r) h.targets head.1);
      rests = All-tail (Within v.plan.target.end) r rs all;
      kept = h.kept;
      pinned = h.pinned;
    }

-- a new range is asked
pub tiles_fresh : {Op : Type 0} (v : Collected Op) (m : ℕ) (ps : List Asked) → v.fresh < m → m ≤ v.plan.target.end → ps ≡ v.pending ++ record { range = record { start = v.fresh; end = m }; target = v.plan.target } ∷ [] → Tiles v → Tiles (record v { fresh = m; pending = ps })
tiles_fresh {Op} v m ps lt le f h =
    let r : Range ℕ = record { start = v.fresh; end = m } in
    let g : ranges_of ps ≡ ranges_of v.pending ++ r ∷ [] = ranges_push v.pending ps (asked_now v r) f in
    record {
      from_start = let a = h.from_start in omega arith;
      to_end = le;
      near = h.near;
      each = λ x.
          let b : in_ranges x (ranges_of ps) ≡ in_ranges x (ranges_of v.pending) + inside x v.fresh m = rw g (sum_by_push (λ (r : Range ℕ). inside x r.start r.end) (ranges_of v.pending) r) in
          let s : inside x v.fresh m + inside x m v.plan.target.end ≡ inside x v.fresh v.plan.target.end = inside_split x v.fresh m v.plan.target.end (omega arith) le in
          let c = h.each x in
          omega arith;
      total =
          let b : size_of_ranges (ranges_of ps) ≡ size_of_ranges (ranges_of v.pending) + (m - v.fresh) = rw g (sum_by_push (λ (r : Range ℕ). r.end - r.start) (ranges_of v.pending) r) in
          let c = h.total in
          omega arith;
      pending = rw g (All-push (Within v.plan.target.end) (ranges_of v.pending) r h.pending (lt, le));
      targets = rw f (All-push EndsWithin v.pending (asked_now v r) h.targets le);
      rests = h.rests;
      kept = h.kept;
      pinned = h.pinned;
    }

-- a later target is taken
pub tiles_aimed : {Op : Type 0} (v : Collected Op) (target : Target) (low taken : ℕ) → target.start ≡ v.plan.target.start → v.plan.target.end < target.end → target.end ≤ 2 ^ 62 → Tiles v → Tiles (record v { plan = record v.plan { target = target; low = low; taken = taken } })
tiles_aimed {Op} v target low taken same behind near h =
    let from = h.from_start in
    let to = h.to_end in
    record {
      from_start = omega arith;
      to_end = omega arith;
      near = near;
      each = λ x.
          let a : inside x v.fresh v.plan.target.end + inside x v.plan.target.end target.end ≡ inside x v.fresh target.end = inside_split x v.fresh v.plan.target.end target.end to (omega arith) in
          let b : inside x v.plan.target.start v.plan.target.end + inside x v.plan.target.end target.end ≡ inside x v.plan.target.start target.end = inside_split x v.plan.target.start v.plan.target.end target.end (omega arith) (omega arith) in
          let e : inside x target.start target.end ≡ inside x v.plan.target.start target.end = ap (λ (n : ℕ). inside x n target.end) same in
          let c = h.each x in
          omega arith;
      total = let t = h.total in omega arith;
      pending = All-weaker (Within v.plan.target.end) (Within target.end) (λ r w. (w.0, (let k = w.1 in omega arith))) (ranges_of v.pending) h.pending;
      targets = h.targets;
      rests = All-weaker (Within v.plan.target.end) (Within target.end) (λ r w. (w.0, (let k = w.1 in omega arith))) v.rests h.rests;
      kept = h.kept;
      pinned = All-weaker (Pinned v.plan.target.start v.pinned) (Pinned target.start v.pinned) (λ p w e. w (e ∙ same) ∙ ap count_ones (sym same)) v.kept h.pinned;
    }

rest_in : (x : ℕ) (r : Range ℕ) (n : ℕ) → r.start + n ≤ r.end → inside x r.start (r.start + n) + in_ranges x (rest_of r n) ≡ inside x r.start r.end
rest_in x r n le = elim (cases_lt (r.start + n) r.end) [
  | inl lt ↦
      let s = inside_split x r.start (r.start + n) r.end (omega arith) le in
      rw (lt-ltb (r.start + n) r.end lt) (omega arith)
  | inr ge ↦
      let e : r.start + n ≡ r.end = omega arith in
      rw (le-ltb (r.start + n) r.end ge, e) (omega arith)
]

rest_size : (r : Range ℕ) (n : ℕ) → r.start + n ≤ r.end → n + size_of_ranges (rest_of r n) ≡ r.end - r.start
rest_size r n le = elim (cases_lt (r.start + n) r.end) [
  | inl lt ↦ rw (lt-ltb (r.start + n) r.end lt) (omega arith)
  | inr ge ↦ rw (le-ltb (r.start + n) r.end ge) (omega arith)
]

rest_within : (e : ℕ) (r : Range ℕ) (n : ℕ) → r.end ≤ e → All (Within e) (rest_of r n)
rest_within e r n le = elim (cases_lt (r.start + n) r.end) [
  | inl lt ↦ rw (lt-ltb (r.start + n) r.end lt) (All-push (Within e) [] (record { start = r.start + n; end = r.end }) (All-nil (Within e)) (lt, le))
  | inr ge ↦ rw (le-ltb (r.start + n) r.end ge) (All-nil (Within e))
]

-- operations of a range that was asked are kept
pub tiles_kept : {Op : Type 0} (v : Collected Op) (r : Range ℕ) (ops : List Op) (nodes : List (List ℕ)) (ps : List Asked) (rs : List (Range ℕ)) (ks : List (Piece Op))
    → IsOutstanding r (ranges_of v.pending) → 0 < length ops → r.start + length ops ≤ r.end
    → ps ≡ without r v.pending → rs ≡ v.rests ++ rest_of r (length ops) → ks ≡ v.kept ++ record { at = r.start; ops = ops } ∷ []
    → All (Pinned v.plan.target.start nodes) v.kept → (r.start ≡ v.plan.target.start → length nodes ≡ count_ones v.plan.target.start)
    → Tiles v → Tiles (record v { rests = rs; pending = ps; pinned = nodes; kept = ks })
tiles_kept {Op} v r ops nodes ps rs ks out some le f g k old new h =
    let n = length ops in
    let piece : Piece Op = record { at = r.start; ops = ops } in
    let asked : Within v.plan.target.end r = All-at (Within v.plan.target.end) (ranges_of v.pending) out.0 r out.1 h.pending in
    let left : ranges_of ps ≡ range_without r (ranges_of v.pending) = ap ranges_of f ∙ ranges_without r v.pending in
    record {
      from_start = h.from_start;
      to_end = h.to_end;
      near = h.near;
      each = λ x.
          let a : in_ranges x (ranges_of ps) + inside x r.start r.end ≡ in_ranges x (ranges_of v.pending) = rw left (sum_without (λ (r : Range ℕ). inside x r.start r.end) r (ranges_of v.pending) out) in
          let b : in_ranges x rs ≡ in_ranges x v.rests + in_ranges x (rest_of r (length ops)) = rw g (sum_by-append (λ (r : Range ℕ). inside x r.start r.end) v.rests (rest_of r (length ops))) in
          let d : in_pieces x ks ≡ in_pieces x v.kept + inside x r.start (r.start + length ops) = rw k (sum_by_push (λ (p : Piece Op). inside x p.at (p.at + length p.ops)) v.kept piece) in
          let s = rest_in x r (length ops) le in
          let c = h.each x in
          omega arith;
      total =
          let a : size_of_ranges (ranges_of ps) + (r.end - r.start) ≡ size_of_ranges (ranges_of v.pending) = rw left (sum_without (λ (r : Range ℕ). r.end - r.start) r (ranges_of v.pending) out) in
          let b : size_of_ranges rs ≡ size_of_ranges v.rests + size_of_ranges (rest_of r (length ops)) = rw g (sum_by-append (λ (r : Range ℕ). r.end - r.start) v.rests (rest_of r (length ops))) in
          let d : size_of_pieces ks ≡ size_of_pieces v.kept + length ops = rw k (sum_by_push (λ (p : Piece Op). length p.ops) v.kept piece) in
          let s = rest_size r (length ops) le in
          let c = h.total in
          omega arith;
      pending = rw left (All-without (Within v.plan.target.end) r (ranges_of v.pending) out h.pending);
      targets = rw f (All-without_at EndsWithin (place_in r v.pending) v.pending h.targets);
      rests = rw g (All-append (Within v.plan.target.end) v.rests (rest_of r (length ops)) h.rests (rest_within v.plan.target.end r (length ops) asked.1));
      kept = rw k (All-push HasOps v.kept piece h.kept some);
      pinned = rw k (All-push (Pinned v.plan.target.start nodes) v.kept piece old new);
    }

-- what a good answer has
pub good_parts : {Op : Type 0} (proved : Judge Op) (start : ℕ) (r : Range ℕ) (m : GetOperationsResponse Op) → r.start < r.end → good proved start r m ≡ true
    → (0 < length m.operations) × (r.start + length m.operations ≤ r.end) × (pinned_good start r m.pinned_nodes ≡ true)
unfolding good
good_parts proved start r m lt e =
    let a = and_parts (nat_lt 0 (length m.operations)) (nat_le (length m.operations) (r.end - r.start) && (proved m.proof r.start m.operations && pinned_good start r m.pinned_nodes)) e in
    let b = and_parts (nat_le (length m.operations) (r.end - r.start)) (proved m.proof r.start m.operations && pinned_good start r m.pinned_nodes) a.1 in
    let d = and_parts (proved m.proof r.start m.operations) (pinned_good start r m.pinned_nodes) b.1 in
    let x : 0 < length m.operations = ltb-true _ _ a.0 in
    let y : length m.operations ≤ r.end - r.start = leb-true _ _ b.0 in
    (x, omega arith, d.1)

count_of : (n : ℕ) (nodes : Option (List (List ℕ))) → nodes_good n nodes ≡ true → length (nodes_of nodes) ≡ n
count_of n None e = absurd (cc e)
count_of n (Some nodes) e = eqb-true (length nodes) n e

pub nodes_at_start : (start : ℕ) (r : Range ℕ) (nodes : Option (List (List ℕ))) → pinned_good start r nodes ≡ true → r.start ≡ start → length (nodes_of nodes) ≡ count_ones start
nodes_at_start start r nodes e same =
    let t : nodes_good (count_ones start) nodes ≡ true = rw (eq-eqb r.start start same) at e in
    count_of (count_ones start) nodes t

-- a good answer is kept
pub tiles_accepted : {Op : Type 0} (v : Collected Op) (r : Range ℕ) (m : GetOperationsResponse Op) (proved : Judge Op) (nodes : List (List ℕ)) (ps : List Asked) (rs : List (Range ℕ)) (ks : List (Piece Op))
    → IsOutstanding r (ranges_of v.pending) → good proved v.plan.target.start r m ≡ true
    → ps ≡ without r v.pending → rs ≡ v.rests ++ rest_of r (length m.operations) → ks ≡ v.kept ++ record { at = r.start; ops = m.operations } ∷ []
    → nodes ≡ (if r.start == v.plan.target.start then nodes_of m.pinned_nodes else v.pinned)
    → Tiles v → Tiles (record v { rests = rs; pending = ps; pinned = nodes; kept = ks })
tiles_accepted {Op} v r m proved nodes ps rs ks out ok f g k e h =
    let asked : Within v.plan.target.end r = All-at (Within v.plan.target.end) (ranges_of v.pending) out.0 r out.1 h.pending in
    let p = good_parts proved v.plan.target.start r m asked.0 ok in
    elim (cases_Bool (r.start == v.plan.target.start)) [
      | inl t ↦
          let n : nodes ≡ nodes_of m.pinned_nodes = rw t at e in
          let len : length nodes ≡ count_ones v.plan.target.start = rw n (nodes_at_start v.plan.target.start r m.pinned_nodes p.2 (eqb-true _ _ t)) in
          tiles_kept v r m.operations nodes ps rs ks out p.0 p.1 f g k (λ i d lt q. len) (λ q. len) h
      | inr t ↦
          let n : nodes ≡ v.pinned = rw t at e in
          tiles_kept v r m.operations nodes ps rs ks out p.0 p.1 f g k (rw n h.pinned) (λ q. absurd (eqb-false _ _ t q)) h
    ]
