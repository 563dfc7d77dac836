-- A log with batches behind it, one more at a time.
use Rattle.std.proofs.Common.{◌≡◌, ℕ, ◌+◌, ◌<◌, ◌≤◌, ◌^◌, List, [], ◌∷◌, ◌++◌, length, take, drop, get_or, Option, Some, None, Result, Ok, Err, MatchOption, IfOk, IsOkUnless, is_some, if◌then◌else◌, refl, sym, ap, subst, ◌∙◌, arith}
use Rattle.std.specs.Option.{option_or}
use Rattle.std.proofs.lemmas.List.{take_more, drop_more, append_assoc, length-append}
use Rattle.ledger_log.specs.View.{batch_floor}
use Rattle.ledger_log.specs.Faults.{batch_refusal}
use Rattle.ledger_log.specs.Immutable.{immutable_floor}
use Rattle.ledger_log.specs.declared.immutable.ImmutableOp.{ImmutableOp}
use Rattle.ledger_log.specs.declared.fault.LogFault.{LogFault}
use Rattle.ledger_log.specs.declared.fault.LogFault.TheVariants.{OutOfMemory}
use Rattle.ledger_chain.specs.Chain.{LinkView, ops_of}
use Rattle.ledger_chain.specs.declared.state.State.{State}
use Rattle.ledger_sets.specs.Meaning.{Meaning, Laws, refusal, with_links, with_taken, first_refusal}

module _ {D : Type 0} (m : Meaning D) where
  links_then : (db : D) (links : List (LinkView ImmutableOp)) (link : LinkView ImmutableOp) → with_links m db (links ++ link ∷ []) ≡ m.behind (with_links m db links) link.ops
  links_then db [] link = refl
  links_then db (x ∷ xs) link = links_then (m.behind db x.ops) xs link

  module _ (db : D) (links : List (LinkView ImmutableOp)) (i : ℕ) (link : LinkView ImmutableOp) (h : i < length links) (at : link ≡ get_or links i link) where
    pub done_more : with_links m db (take (i + 1) links) ≡ m.behind (with_links m db (take i links)) link.ops
    done_more = ap (with_links m db) (take_more links i link h ∙ ap (λ x. take i links ++ x ∷ []) (sym at)) ∙ links_then db (take i links) link

    rest_more : drop i links ≡ link ∷ drop (i + 1) links
    rest_more = drop_more links i link h ∙ ap (λ x. x ∷ drop (i + 1) links) (sym at)

    -- the refusal of the rest, where the next batch is refused or not
    pub refused_here : (o : Option LogFault) → refusal m (with_links m db (take i links)) link.ops ≡ o →
        first_refusal m (with_links m db (take i links)) (drop i links) ≡ option_or o (first_refusal m (with_links m db (take (i + 1) links)) (drop (i + 1) links))
    refused_here o e =
        let now = with_links m db (take i links) in
        ap (first_refusal m now) rest_more
        ∙ ap (λ r. option_or r (first_refusal m (m.behind now link.ops) (drop (i + 1) links))) e
        ∙ ap (λ z. option_or o (first_refusal m z (drop (i + 1) links))) (sym done_more)

    taken_here : (o : Option LogFault) → refusal m (with_links m db (take i links)) link.ops ≡ o →
        with_taken m (with_links m db (take i links)) (drop i links)
        ≡ (if is_some o then with_links m db (take i links) else with_taken m (with_links m db (take (i + 1) links)) (drop (i + 1) links))
    taken_here o e =
        let now = with_links m db (take i links) in
        ap (with_taken m now) rest_more
        ∙ ap (λ r. if is_some r then now else with_taken m (m.behind now link.ops) (drop (i + 1) links)) e
        ∙ ap (λ z. if is_some o then now else with_taken m z (drop (i + 1) links)) (sym done_more)

    -- the next batch is taken, and the rest follows
    pub taken_next : refusal m (with_links m db (take i links)) link.ops ≡ None →
        with_taken m (with_links m db (take (i + 1) links)) (drop (i + 1) links) ≡ with_taken m (with_links m db (take i links)) (drop i links)
    taken_next e = sym (taken_here None e)

    -- it is refused, and no more follows
    pub taken_last : (fault : LogFault) → refusal m (with_links m db (take i links)) link.ops ≡ Some fault →
        with_taken m (with_links m db (take i links)) (drop i links) ≡ with_links m db (take i links)
    taken_last fault e = taken_here (Some fault) e

    module _ (laws : Laws m) where
      pub size_more : (size next : ℕ) (more : List ImmutableOp) → size ≡ (m.state (with_links m db (take i links))).size → more ≡ link.ops → next ≡ size + length more →
          next ≡ (m.state (with_links m db (take (i + 1) links))).size
      size_more size next more s o n =
          n ∙ ap (λ k. k + length more) s ∙ ap (λ (xs : List ImmutableOp). (m.state (with_links m db (take i links))).size + length xs) o
          ∙ sym (ap (λ z. (m.state z).size) done_more ∙ laws.size (with_links m db (take i links)) link.ops)

      pub floor_more : (next : ℕ) (more : List ImmutableOp) → more ≡ link.ops → batch_floor immutable_floor more ≡ Some next → next ≡ m.floor (with_links m db (take (i + 1) links))
      floor_more next more o b =
          sym (ap m.floor done_more ∙ laws.floor (with_links m db (take i links)) link.ops next (sym (ap (batch_floor immutable_floor) o) ∙ b))

  -- the log's refusal by its size and floor
  pub same_refusal : (now : D) (size floor : ℕ) (ops more : List ImmutableOp) → size ≡ (m.state now).size → floor ≡ m.floor now → more ≡ ops →
      batch_refusal size floor (length more) (batch_floor immutable_floor more) ≡ refusal m now ops
  same_refusal now size floor ops more s l o =
      ap (λ n. batch_refusal n floor (length more) (batch_floor immutable_floor more)) s
      ∙ ap (λ n. batch_refusal (m.state now).size n (length more) (batch_floor immutable_floor more)) l
      ∙ ap (λ (xs : List ImmutableOp). batch_refusal (m.state now).size (m.floor now) (length xs) (batch_floor immutable_floor xs)) o

  module _ (laws : Laws m) where
    pub size_behind : (db : D) (links : List (LinkView ImmutableOp)) → (m.state (with_links m db links)).size ≡ (m.state db).size + length (ops_of links)
    size_behind db [] = omega arith
    size_behind db (x ∷ xs) = omega (arith, size_behind (m.behind db x.ops) xs, laws.size db x.ops, length-append x.ops (ops_of xs))

    pub room_behind : (db : D) (links : List (LinkView ImmutableOp)) (ops all : List ImmutableOp) → all ≡ ops_of links ++ ops → (m.state (with_links m db links)).size + length ops ≤ 2 ^ 62 →
        (m.state db).size + length all ≤ 2 ^ 62
    room_behind db links ops all e h =
        let long : length all ≡ length (ops_of links) + length ops = ap length e ∙ length-append (ops_of links) ops in
        omega (arith, size_behind db links)

    pub joined_behind : (db : D) (links : List (LinkView ImmutableOp)) (ops : List ImmutableOp) → m.state (m.behind (with_links m db links) ops) ≡ m.state (m.behind db (ops_of links ++ ops))
    joined_behind db [] ops = refl
    joined_behind db (x ∷ xs) ops =
        joined_behind (m.behind db x.ops) xs ops ∙ laws.joined db x.ops (ops_of xs ++ ops) ∙ ap (λ z. m.state (m.behind db z)) (sym (append_assoc x.ops (ops_of xs) ops))

-- where an answer is Ok nothing refuses
pub taken : {T : Type 0} (o : Option LogFault) (r : Result T LogFault) (x : T) → MatchOption o (IsOkUnless r OutOfMemory) (λ fault. r ≡ Err fault) → r ≡ Ok x → o ≡ None
taken None r x m e = refl
taken (Some fault) r x m e = absurd cc

-- a sealed batch by its operations and the state after it
abbrev pub link_from : List ImmutableOp → State → LinkView ImmutableOp
link_from ops after = record { ops = ops; after = after }

-- it is known by equal states
pub same_link : {E : Type 0} (r : Result (LinkView ImmutableOp) E) (ops : List ImmutableOp) (a b : State) → a ≡ b → IfOk r (λ link. link ≡ link_from ops a) → IfOk r (λ link. link ≡ link_from ops b)
same_link r ops a b e h = subst (λ z. IfOk r (λ link. link ≡ link_from ops z)) e h
