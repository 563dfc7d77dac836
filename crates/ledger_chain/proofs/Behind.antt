-- A log with batches behind it, one more at a time.
use Rattle.std.proofs.Common.{◌≡◌, ℕ, ◌+◌, ◌<◌, List, [], ◌∷◌, ◌++◌, ◌≤◌, Bool, true, false, nat_lt, length, take, drop, get_or, Option, Some, None, Result, Ok, Err, MatchOption, refl, sym, ap, ◌∙◌, arith}
use Rattle.std.specs.Prelude.{IsOk}
use Rattle.std.specs.Option.{option_or}
use Rattle.std.proofs.lemmas.Bool.Decides.{nat_tests}
use Rattle.std.proofs.lemmas.List.{take_more, drop_more, append-nil, append_assoc, length-append}
use Rattle.std.proofs.lemmas.List.Concat.{flat_map-append}
use Rattle.ledger_log.specs.View.{LogView, log_size, log_floor, floor_or_zero, last_floor, batch_floor}
use Rattle.ledger_log.specs.Faults.{batch_refusal, append_refusal}
use Rattle.ledger_log.specs.declared.fault.LogFault.{LogFault}
use Rattle.ledger_log.proofs.Floors.{last_floor-batch}
use Rattle.ledger_compact.specs.View.{with_ops}
use Rattle.ledger_chain.specs.Chain.{LinkView, ops_of}
use Rattle.ledger_chain.specs.Faults.{first_refusal}

module _ {Op : Type 0} where
  pub size_behind : (log : LogView Op) (ops : List Op) → log_size (with_ops log ops) ≡ log_size log + length ops
  size_behind log ops = omega (arith, length-append log.ops ops)

  pub floor_behind : (f : Op → Option ℕ) (log : LogView Op) (ops : List Op) (n : ℕ) → batch_floor f ops ≡ Some n → log_floor f (with_ops log ops) ≡ n
  floor_behind f log ops n h = ap floor_or_zero (last_floor-batch f log.ops ops n h)

  abbrev with_list : LogView Op → List Op → LogView Op
  with_list log ops = record { front = log.front; pinned = log.pinned; ops = ops }

  -- a log with operations behind others
  pub with_two : (log : LogView Op) (a b : List Op) → with_ops (with_ops log a) b ≡ with_ops log (a ++ b)
  with_two log a b = ap (with_list log) (append_assoc log.ops a b)

  module _ (links : List (LinkView Op)) (i : ℕ) (link : LinkView Op) (h : i < length links) (at : link ≡ get_or links i link) where
    pub ops_more : ops_of (take (i + 1) links) ≡ ops_of (take i links) ++ link.ops
    ops_more =
        ap ops_of (take_more links i link h ∙ ap (λ x. take i links ++ x ∷ []) (sym at))
        ∙ (flat_map-append (λ (l : LinkView Op). l.ops) (take i links) (link ∷ []) ∙ ap (λ z. ops_of (take i links) ++ z) (append-nil link.ops))

    pub done_more : (log : LogView Op) → with_ops log (ops_of (take (i + 1) links)) ≡ with_ops (with_ops log (ops_of (take i links))) link.ops
    done_more log = ap (with_ops log) ops_more ∙ sym (with_two log (ops_of (take i links)) link.ops)

    rest_more : drop i links ≡ link ∷ drop (i + 1) links
    rest_more = drop_more links i link h ∙ ap (λ x. x ∷ drop (i + 1) links) (sym at)

    -- the refusal of the rest, where the next batch is refused or not
    pub refused_here : (f : Op → Option ℕ) (log : LogView Op) (o : Option LogFault) → append_refusal f (with_ops log (ops_of (take i links))) link.ops ≡ o →
        first_refusal f (with_ops log (ops_of (take i links))) (drop i links) ≡ option_or o (first_refusal f (with_ops log (ops_of (take (i + 1) links))) (drop (i + 1) links))
    refused_here f log o e =
        ap (first_refusal f (with_ops log (ops_of (take i links)))) rest_more
        ∙ ap (λ r. option_or r (first_refusal f (with_ops (with_ops log (ops_of (take i links))) link.ops) (drop (i + 1) links))) e
        ∙ ap (λ z. option_or o (first_refusal f z (drop (i + 1) links))) (sym (done_more log))

    pub size_more : (log : LogView Op) → log_size (with_ops log (ops_of (take (i + 1) links))) ≡ log_size (with_ops log (ops_of (take i links))) + length link.ops
    size_more log = ap log_size (done_more log) ∙ size_behind (with_ops log (ops_of (take i links))) link.ops

    pub floor_more : (f : Op → Option ℕ) (log : LogView Op) (n : ℕ) → batch_floor f link.ops ≡ Some n → log_floor f (with_ops log (ops_of (take (i + 1) links))) ≡ n
    floor_more f log n b = ap (log_floor f) (done_more log) ∙ floor_behind f (with_ops log (ops_of (take i links))) link.ops n b

    pub size_next : (log : LogView Op) (size next : ℕ) (more : List Op) → size ≡ log_size (with_ops log (ops_of (take i links))) → more ≡ link.ops → next ≡ size + length more →
        next ≡ log_size (with_ops log (ops_of (take (i + 1) links)))
    size_next log size next more s o n =
        n ∙ ap (λ k. k + length more) s ∙ ap (λ (xs : List Op). log_size (with_ops log (ops_of (take i links))) + length xs) o ∙ sym (size_more log)

    pub floor_next : (f : Op → Option ℕ) (log : LogView Op) (next : ℕ) (more : List Op) → more ≡ link.ops → batch_floor f more ≡ Some next →
        next ≡ log_floor f (with_ops log (ops_of (take (i + 1) links)))
    floor_next f log next more o b = sym (floor_more f log next (sym (ap (batch_floor f) o) ∙ b))

  -- a log's refusal by its size and floor
  pub same_refusal : (f : Op → Option ℕ) (log : LogView Op) (size floor : ℕ) (ops more : List Op) → size ≡ log_size log → floor ≡ log_floor f log → more ≡ ops →
      batch_refusal size floor (length more) (batch_floor f more) ≡ append_refusal f log ops
  same_refusal f log size floor ops more s l o =
      ap (λ n. batch_refusal n floor (length more) (batch_floor f more)) s
      ∙ ap (λ n. batch_refusal (log_size log) n (length more) (batch_floor f more)) l
      ∙ ap (λ (xs : List Op). batch_refusal (log_size log) (log_floor f log) (length xs) (batch_floor f xs)) o

-- where an answer is Ok nothing refuses
pub taken : {T : Type 0} (o : Option LogFault) (r : Result T LogFault) (x : T) → MatchOption o (IsOk r) (λ fault. r ≡ Err fault) → r ≡ Ok x → o ≡ None
taken None r x m e = refl
taken (Some fault) r x m e = absurd cc
