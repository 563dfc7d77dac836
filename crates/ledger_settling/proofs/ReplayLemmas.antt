-- How the accounts of a list of operations change with one operation more.
use Rattle.std.proofs.Common.{◌≡◌, ℕ, ◌+◌, ◌<◌, Bool, true, false, cond, List, [], ◌∷◌, ◌++◌, length, get_or, slice_get, unwrap_or, take, Option, None, Some, refl, sym, ap, subst, ◌∙◌, bytes_eq}
use Rattle.std.specs.Prelude.{IsSome, MatchBool, option_and_then, option_to_list}
use Rattle.std.specs.List.{last_or, filter_map, cons_option}
use Rattle.std.specs.BTreeMap.{BTreeMap}
use Rattle.std.specs.Ordering.{nat_cmp, is_eq}
use Rattle.std.specs.Map.{lookup}
use Rattle.std.specs.Cmp.Lexicographic.{slice_cmp, texts_ties}
use Rattle.std.proofs.lemmas.List.{take_more, append-nil}
use Rattle.std.proofs.lemmas.List.Elements.{filter_map-append}
use Rattle.std.proofs.lemmas.Option.{slice_get-get_or}
use Rattle.ledger_log.specs.Any.{any_write}
use Rattle.ledger_log.specs.View.{written_at, value_or_none, value_at}
use Rattle.ledger_log.specs.declared.any.AnyOp.{AnyOp}
use Rattle.ledger_log.specs.declared.any.AnyOp.TheVariants.{Update, Delete, CommitFloor}
use Rattle.ledger_transfers.specs.Rules.{SameOutcome}
use Rattle.ledger_managed.specs.Values.{Values}
use Rattle.ledger_settling.specs.Blocks.{account_at}
use Rattle.ledger_settling.specs.Reports.{held, IsReplay}

last_or-push : {A : Type 0} → (o : Option A) (xs : List A) (x : A) → last_or o (xs ++ x ∷ []) ≡ Some x
last_or-push o [] x = refl
last_or-push o (y ∷ ys) x = last_or-push (Some y) ys x

writes : List ℕ → List AnyOp → List (Option (List ℕ))
writes q ops = filter_map (λ op. written_at q (any_write op)) ops

value_after : Option (Option (List ℕ)) → Option (List ℕ) → Option (List ℕ)
value_after None v = v
value_after (Some w) v = w

last_push : (o : Option (Option (List ℕ))) (xs : List (Option (List ℕ))) → value_or_none (last_or None (xs ++ cons_option o [])) ≡ value_after o (value_or_none (last_or None xs))
unfolding value_after
last_push None xs = ap (λ l. value_or_none (last_or None l)) (append-nil xs)
last_push (Some w) xs = ap value_or_none (last_or-push None xs w)

value_at-push : (base : List AnyOp) (op : AnyOp) (q : List ℕ) → value_at any_write q (base ++ op ∷ []) ≡ value_after (written_at q (any_write op)) (value_at any_write q base)
value_at-push base op q =
    ap (λ l. value_or_none (last_or None l)) (filter_map-append (λ op. written_at q (any_write op)) base (op ∷ []))
    ∙ last_push (written_at q (any_write op)) (filter_map (λ op. written_at q (any_write op)) base)

module _ {A : Type 0} (values : Values A) where
  by_write : (b : Bool) (w v : Option (List ℕ)) → option_and_then values.read (value_after (cond b (Some w) None) v) ≡ cond b (option_and_then values.read w) (option_and_then values.read v)
  unfolding value_after
  by_write true w v = refl
  by_write false w v = refl

  pub account_at-update : (base : List AnyOp) (key value q : List ℕ) → account_at values (base ++ Update key value ∷ []) q ≡ cond (bytes_eq key q) (values.read value) (account_at values base q)
  account_at-update base key value q = ap (option_and_then values.read) (value_at-push base (Update key value) q) ∙ by_write (bytes_eq key q) (Some value) (value_at any_write q base)

  pub account_at-delete : (base : List AnyOp) (key q : List ℕ) → account_at values (base ++ Delete key ∷ []) q ≡ cond (bytes_eq key q) None (account_at values base q)
  account_at-delete base key q = ap (option_and_then values.read) (value_at-push base (Delete key) q) ∙ by_write (bytes_eq key q) None (value_at any_write q base)

  pub account_at-commit : (base : List AnyOp) (metadata : Option (List ℕ)) (floor : ℕ) (q : List ℕ) → account_at values (base ++ CommitFloor metadata floor ∷ []) q ≡ account_at values base q
  unfolding value_after
  account_at-commit base metadata floor q = ap (option_and_then values.read) (value_at-push base (CommitFloor metadata floor) q)

module _ {A : Type 0} (same : A → A → Bool) (values : Values A) where
  both : (b c : Bool) (x y z w : Option A) → b ≡ c → SameOutcome same x y → SameOutcome same z w → SameOutcome same (cond b x z) (cond c y w)
  both b c x y z w e h k = subst (λ d. SameOutcome same (cond b x z) (cond d y w)) e (at b)
    where
      at : (d : Bool) → SameOutcome same (cond d x z) (cond d y w)
      at true = h
      at false = k

  -- an account is written
  pub replay_put : (base : List AnyOp) (old new : BTreeMap (List ℕ) A) (key value : List ℕ) (a : A) → IsReplay same values old base → SameOutcome same (Some a) (values.read value)
      → ((q : List ℕ) → held new q ≡ cond (is_eq (slice_cmp nat_cmp key q)) (Some a) (held old q)) → IsReplay same values new (base ++ Update key value ∷ [])
  replay_put base old new key value a r h u q =
      subst (λ x. SameOutcome same x (account_at values (base ++ Update key value ∷ []) q)) (sym (u q))
      (subst (SameOutcome same (cond (is_eq (slice_cmp nat_cmp key q)) (Some a) (held old q))) (sym (account_at-update values base key value q))
      (both (is_eq (slice_cmp nat_cmp key q)) (bytes_eq key q) (Some a) (values.read value) (held old q) (account_at values base q) (sym (texts_ties key q)) h (r q)))

  -- an account is taken out
  pub replay_delete : (base : List AnyOp) (old new : BTreeMap (List ℕ) A) (key : List ℕ) → IsReplay same values old base
      → ((q : List ℕ) → held new q ≡ cond (is_eq (slice_cmp nat_cmp key q)) None (held old q)) → IsReplay same values new (base ++ Delete key ∷ [])
  replay_delete base old new key r u q =
      subst (λ x. SameOutcome same x (account_at values (base ++ Delete key ∷ []) q)) (sym (u q))
      (subst (SameOutcome same (cond (is_eq (slice_cmp nat_cmp key q)) None (held old q))) (sym (account_at-delete values base key q))
      (both (is_eq (slice_cmp nat_cmp key q)) (bytes_eq key q) None None (held old q) (account_at values base q) (sym (texts_ties key q)) tt (r q)))

  -- a commit changes nothing
  pub replay_commit : (base : List AnyOp) (old : BTreeMap (List ℕ) A) (metadata : Option (List ℕ)) (floor : ℕ) → IsReplay same values old base → IsReplay same values old (base ++ CommitFloor metadata floor ∷ [])
  replay_commit base old metadata floor r q = subst (SameOutcome same (held old q)) (sym (account_at-commit values base metadata floor q)) (r q)

  -- what writes nothing changes nothing
  pub replay_other : (base : List AnyOp) (old : BTreeMap (List ℕ) A) (op : AnyOp) → any_write op ≡ None → IsReplay same values old base → IsReplay same values old (base ++ op ∷ [])
  unfolding value_after
  replay_other base old op h r q =
      let is : account_at values (base ++ op ∷ []) q ≡ account_at values base q =
      ap (option_and_then values.read) (value_at-push base op q ∙ ap (λ w. value_after (written_at q w) (value_at any_write q base)) h) in
      subst (SameOutcome same (held old q)) (sym is) (r q)

  -- the same accounts in another map
  pub replay_alike : (base : List AnyOp) (old new : BTreeMap (List ℕ) A) → new.entries ≡ old.entries → IsReplay same values old base → IsReplay same values new base
  replay_alike base old new e r q = subst (λ es. SameOutcome same (lookup (λ k. is_eq (slice_cmp nat_cmp q k)) es) (account_at values base q)) (sym e) (r q)

-- one operation more is read
pub taken_more : (ops : List AnyOp) (i : ℕ) (op : AnyOp) → i < length ops → op ≡ get_or ops i op → take (i + 1) ops ≡ take i ops ++ op ∷ []
taken_more ops i op h e = take_more ops i op h ∙ ap (λ z. take i ops ++ z ∷ []) (sym e)

-- the same of an operation that is found
pub taken_found : (ops : List AnyOp) (i : ℕ) (op : AnyOp) → i < length ops → slice_get ops i ≡ Some op → take (i + 1) ops ≡ take i ops ++ op ∷ []
taken_found ops i op h e = taken_more ops i op h (ap (λ o. unwrap_or o op) (sym e ∙ slice_get-get_or ops i op h))

-- what is the same as an account is one
pub some_read : {A : Type 0} (same : A → A → Bool) (a : A) (r : Option A) → SameOutcome same (Some a) r → IsSome r
some_read same a None h = absurd h
some_read same a (Some b) h = refl

-- what a true answer tells
pub told_true : (b : Bool) (P Q : Type 0) → b ≡ true → MatchBool b P Q → P
told_true true P Q e h = h
told_true false P Q e h = absurd cc

-- a filter_map over one item more
pub filter_map_push : {X Y : Type 0} (f : X → Option Y) (xs : List X) (x : X) → filter_map f (xs ++ x ∷ []) ≡ filter_map f xs ++ option_to_list (f x)
filter_map_push f xs x = filter_map-append f xs (x ∷ []) ∙ ap (λ ys. filter_map f xs ++ ys) (listed (f x))
  where
    listed : {Z : Type 0} (o : Option Z) → cons_option o [] ≡ option_to_list o
    listed None = refl
    listed (Some z) = refl
