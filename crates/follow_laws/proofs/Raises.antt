-- The log whose floor was raised is served from there, and nothing that counts lies below.
use Rattle.std.proofs.Common.{◌≡◌, ℕ, zero, suc, ◌<◌, ◌≤◌, ◌^◌, List, [], ◌∷◌, All, None, refl, sym, subst, arith, lit≤, lit<}
use Rattle.std.specs.Prelude.{get_or, replicate}
use Rattle.std.proofs.lemmas.List.Elements.{All-cons, All-nil}
use Rattle.ledger_log.specs.Active.{living}
use Rattle.ledger_log.specs.Any.{any_floor, any_spelling, any_write, IsSoundAny}
use Rattle.ledger_log.specs.View.{log_floor}
use Rattle.ledger_log.specs.declared.any.AnyOp.{AnyOp}
use Rattle.ledger_log.specs.declared.any.AnyOp.TheVariants.{CommitFloor}
use Rattle.ledger_log.specs.declared.target.Target.{Target}
use Rattle.ledger_managed.specs.SpelledProofs.{sequenced_value_laws}
use Rattle.ledger_program.proofs.Links.{serves_whole}
use Rattle.ledger_program.proofs.Locals.{spans_log}
use Rattle.ledger_program.specs.Run.{SpansLog}
use Rattle.ledger_raising.proofs.Rising.{Least, all_of_least}
use Rattle.ledger_raising.specs.Raised.{FloorSound}
use Rattle.sync_client.specs.Serving.{Serves}
use Rattle.sync_net.specs.Core.{data_of}
use Rattle.follow_laws.specs.Raised.{update_of, raised, raised_log, EndsLog}
use Rattle.follow_laws.specs.Replayed.{IsAbove}

sevens : (n i : ℕ) → get_or (replicate n 7) i 0 < 256
sevens zero i = lit< tt
sevens (suc n) zero = lit< tt
sevens (suc n) (suc i) = sevens n i

commit_sound : (floor : ℕ) → floor ≤ 2 ^ 62 → IsSoundAny (CommitFloor None floor)
commit_sound floor h = (tt, h)

update_sound : (balance nonce : ℕ) → IsSoundAny (update_of balance nonce)
unfolding update_of
update_sound balance nonce = ((refl, λ i. sevens 32 i), sequenced_value_laws.is_value (record { balance = balance; nonce = nonce }))

pub all_sound : All IsSoundAny raised
unfolding raised
all_sound =
    let c : List AnyOp = CommitFloor None 2 ∷ [] in
    let b : List AnyOp = update_of 20 2 ∷ c in
    let a : List AnyOp = update_of 10 1 ∷ b in
    All-cons IsSoundAny (CommitFloor None 0) a (commit_sound 0 (lit≤ tt)) (All-cons IsSoundAny (update_of 10 1) b (update_sound 10 1) (All-cons IsSoundAny (update_of 20 2) c (update_sound 20 2) (All-cons IsSoundAny (CommitFloor None 2) [] (commit_sound 2 (lit≤ tt)) (All-nil IsSoundAny))))

floor_is : log_floor any_floor raised_log ≡ 2
unfolding raised update_of
floor_is = refl

-- the second write of the account counts alone
least : Least 2 (living any_write 0 raised)
unfolding raised update_of
least = (lit≤ tt, tt)

sound : FloorSound any_floor any_write raised_log
sound = all_of_least (log_floor any_floor raised_log) (living any_write 0 raised) (subst (λ (n : ℕ). Least n (living any_write 0 raised)) (sym floor_is) least)

module _ (target : Target) (is : EndsLog 2 target raised_log) where
  pub above_raised : IsAbove target.start target.end raised_log
  above_raised = record {
    ends = sym is.end;
    sound = sound;
    below = let b = is.begins in let f = floor_is in omega (arith, b, f);
  }

  abbrev pub from_start : Target
  from_start = record { root = target.root; start = 0; end = target.end; ordered = let o : target.start < target.end = target.ordered in omega (arith, o) }

  pub spans : SpansLog from_start raised_log
  spans = spans_log from_start raised_log refl refl is.root refl is.end

  abbrev pub all_of_it : Serves any_spelling IsSoundAny (data_of any_spelling any_floor raised_log) from_start
  all_of_it = serves_whole raised from_start all_sound is.most spans

  abbrev pub serves_raised : Serves any_spelling IsSoundAny (data_of any_spelling any_floor raised_log) target
  serves_raised = record {
    log = raised_log;
    is = refl;
    ops = all_sound;
    nodes = all_of_it.nodes;
    count = all_of_it.count;
    front = omega arith;
    size = all_of_it.size;
    most = all_of_it.most;
    root = all_of_it.root;
  }
