-- The log of four accounts that a fifth grows behind, followed with both targets.
use Rattle.std.proofs.Common.{◌≡◌, ℕ, ◌+◌, ◌-◌, ◌<◌, ◌≤◌, ◌^◌, Bool, List, [], ◌∷◌, ◌++◌, length, map, take, drop, All, Option, Some, None, refl, sym, ap, subst, ◌∙◌, arith, lit≤, inl, inr}
use Rattle.std.specs.Prelude.{◌⊎◌}
use Rattle.std.proofs.lemmas.List.{take_all, take_at}
use Rattle.std.proofs.lemmas.List.Elements.{All-append, All-cons, All-nil}
use Rattle.sha2.specs.Sha256.{sha256}
use Rattle.ledger_log.specs.Any.{any_floor, any_spelling, IsSoundAny}
use Rattle.ledger_log.specs.View.{LogView, log_root_at, log_size}
use Rattle.ledger_log.specs.declared.any.AnyOp.{AnyOp}
use Rattle.ledger_log.specs.declared.any.AnyOp.TheVariants.{CommitFloor}
use Rattle.ledger_log.specs.declared.target.Target.{Target}
use Rattle.ledger_managed.specs.Spelled.{sequenced_values}
use Rattle.ledger_merkle.specs.Tree.{grow, root}
use Rattle.ledger_program.proofs.Links.{none_pinned, range_whole, whole_root}
use Rattle.ledger_program.specs.Follow.{Foretold, IsValid, range_in}
use Rattle.ledger_program.specs.Run.{SpansLog}
use Rattle.ledger_settling.specs.Blocks.{Meaning, meaning, IsReadable}
use Rattle.ledger_settling.specs.Reports.{IsWhole}
use Rattle.ledger_transfers.specs.Rules.{Rules}
use Rattle.ledger_transfers.specs.declared.change.Change.{Change}
use Rattle.ledger_transfers.specs.declared.sequenced.Sequenced.{Sequenced}
use Rattle.sync_client.specs.Serving.{Serves, HasLater}
use Rattle.sync_client.specs.Updates.{IsFresh, IsSynced}
use Rattle.sync_net.specs.Core.{data_of}
use Rattle.follow_promises.specs.Four.{fifth, five_log, four, four_log, update_of}
use Rattle.follow_promises.proofs.Fours.{commit_sound, four_readable, four_sound, four_whole, update_readable, update_sound}

-- ---- the operations

all_fifth : (P : AnyOp → Type 0) → P (update_of 5 50 5) → P (CommitFloor None 0) → All P fifth
unfolding fifth
all_fifth P one c = All-cons P (update_of 5 50 5) (CommitFloor None 0 ∷ []) one (All-cons P (CommitFloor None 0) [] c (All-nil P))

pub five_sound : All IsSoundAny (four ++ fifth)
five_sound = All-append IsSoundAny four fifth four_sound (all_fifth IsSoundAny (update_sound 5 50 5 (lit≤ tt)) commit_sound)

five_readable : All (IsReadable sequenced_values) (four ++ fifth)
five_readable = All-append (IsReadable sequenced_values) four fifth four_readable (all_fifth (IsReadable sequenced_values) (update_readable 5 50 5 (lit≤ tt) (lit≤ tt)) tt)

pub five_short : log_size five_log ≤ 2 ^ 62
unfolding four fifth
five_short = lit≤ tt

five_whole : IsWhole 0 (four ++ fifth)
unfolding four fifth
five_whole = record { floor = 0; commits = refl; least = lit≤ tt; most = lit≤ tt }

four_less : length four < length (four ++ fifth)
unfolding four fifth
four_less = lit≤ tt

four_short : length four ≤ 2 ^ 62
unfolding four
four_short = lit≤ tt

-- ---- the targets

module _ (first : Target) (is : SpansLog first four_log) where
  -- the log's first operations, up to the end of the first target
  first_ops : take (first.end - 0) (four ++ fifth) ≡ four
  first_ops = let e = is.end in take_at four fifth (first.end - 0) (omega arith)

  first_again : take (first.end - 0) four ≡ four
  first_again = let e = is.end in take_all (first.end - 0) four (omega arith)

  pub first_root : log_root_at sha256 any_spelling five_log first.end ≡ first.root
  first_root = ap (λ (xs : List AnyOp). root sha256 first.end (grow sha256 0 [] (map any_spelling xs))) (first_ops ∙ sym first_again) ∙ whole_root four first is

  pub first_front : 0 ≤ first.start
  first_front = omega arith

  pub first_within : first.end ≤ log_size five_log
  first_within = let e = is.end in let l = four_less in omega arith

  -- a link to the log serves the first target
  abbrev pub serves_first : Serves any_spelling IsSoundAny (data_of any_spelling any_floor five_log) first
  serves_first = record {
    log = five_log;
    is = refl;
    ops = five_sound;
    nodes = All-nil (λ digest. length digest ≡ 32);
    count = none_pinned;
    front = first_front;
    size = first_within;
    most = five_short;
    root = first_root;
  }

  first_range : range_in five_log first ≡ four
  first_range = ap (λ (s : ℕ). take (first.end - s) (drop (s - 0) (four ++ fifth))) is.start ∙ first_ops

  -- ---- what is taken

  module _ (later : Target) (behind : SpansLog later five_log) where
    fresh : IsFresh first later
    fresh = record {
      start = (let s = is.start in omega arith);
      end = (let e = is.end in let f = behind.end in let l = four_less in omega arith);
    }

    pub has_later : HasLater any_spelling five_log first (later ∷ [])
    has_later = (fresh, (let e = behind.end in omega arith), whole_root (four ++ fifth) later behind, tt)

    -- what was synced, of these answers before and those that are left
    pub record Ends (before now : List (Option Target)) : Type 0 where
      pub synced : Target
      pub foretold : Foretold five_log first before now synced
      pub spans : SpansLog synced four_log ⊎ SpansLog synced five_log

    pub ends_so : (before now took : List (Option Target)) → before ≡ Some later ∷ [] → before ≡ took ++ now → Ends before now
    ends_so before now [] named all = record {
      synced = first;
      foretold = record { took = []; all = all; later = tt; synced_is = record { start = refl; root = refl; end = refl } };
      spans = inl is;
    }
    ends_so before now (answer ∷ []) named all =
        let both : Some later ∷ [] ≡ answer ∷ now = sym named ∙ all in
        let one : answer ≡ Some later = cc in
        record {
          synced = later;
          foretold = record {
            took = Some later ∷ [];
            all = all ∙ ap (λ (o : Option Target). o ∷ now) one;
            later = has_later;
            synced_is = record { start = behind.start ∙ sym is.start; root = refl; end = refl };
          };
          spans = inr behind;
        }
    ends_so before now (answer ∷ other ∷ took) named all =
        let both : Some later ∷ [] ≡ answer ∷ other ∷ (took ++ now) = sym named ∙ all in
        absurd cc

-- ---- what is kept, and that the input is valid

module _ (synced : Target) where
  pub kept_so : SpansLog synced four_log ⊎ SpansLog synced five_log → (kept : List AnyOp) → kept ≡ range_in five_log synced → (kept ≡ four) ⊎ (kept ≡ four ++ fifth)
  kept_so (inl is) kept e = inl (e ∙ first_range synced is)
  kept_so (inr is) kept e = inr (e ∙ range_whole (four ++ fifth) synced is)

  module _ {T E : Type 0} (changes_of : T → List (List ℕ × Change E)) (same : Sequenced → Sequenced → Bool) (rules : Rules Sequenced E) where
    valid_for : (ops : List AnyOp) → synced.start ≡ 0 → range_in five_log synced ≡ ops → IsWhole 0 ops → All (IsReadable sequenced_values) ops → 0 + length ops ≤ 2 ^ 62 → IsValid (meaning changes_of same rules sequenced_values) five_log synced []
    valid_for ops start range whole readable room = record {
      whole = subst (λ (xs : List AnyOp). IsWhole synced.start xs) (sym range) (subst (λ (n : ℕ). IsWhole n ops) (sym start) whole);
      readable = subst (All (IsReadable sequenced_values)) (sym range) readable;
      verdicts = [];
      all = ops;
      runs = sym range;
      room = subst (λ (n : ℕ). n + length ops ≤ 2 ^ 62) (sym start) room;
    }

    pub valid_so : SpansLog synced four_log ⊎ SpansLog synced five_log → IsValid (meaning changes_of same rules sequenced_values) five_log synced []
    unfolding four
    valid_so (inl is) = valid_for four is.start (first_range synced is) four_whole four_readable four_short
    valid_so (inr is) = valid_for (four ++ fifth) is.start (range_whole (four ++ fifth) synced is) five_whole five_readable five_short
