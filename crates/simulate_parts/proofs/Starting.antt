-- What `init` is told, by equal parts.
use Rattle.std.proofs.Common.{◌≡◌, ℕ, ◌+◌, zero, suc, not, List, [], ◌∷◌, ◌++◌, Option, take, subst, sym, ap, ◌∙◌, refl, add-one, option_to_list, slice_get}
use Rattle.std.proofs.lemmas.List.Elements.{filter-append}
use Rattle.simulate_parts.specs.declared.peer.Peer.{Peer}
use Rattle.simulate_parts.specs.declared.engine.InitContext.{InitContext}
use Rattle.simulate_parts.specs.Team.{StartsAll, names, others}
use Rattle.simulate_parts.specs.declared.engine.StepEvent.{StepEvent}
use Rattle.simulate_parts.specs.declared.engine.StepOut.{StepOut}
use Rattle.simulate_parts.specs.declared.link.FaultConfig.{FaultConfig}
use Rattle.simulate_parts.specs.declared.seats.Seat.{Seat}
use Rattle.simulate_parts.specs.declared.seats.Start.{Start}

-- the context of a start with this number of earlier starts
abbrev pub told_to : Start → ℕ → List Peer → InitContext
told_to start n participants = record {
  index = start.index;
  delayed = start.delayed;
  restart = n;
  public_key = start.pk;
  participants = participants;
  fault = start.fault;
}

pub made_same : {E : Type 0} (made : InitContext → E → Type 0) (start : Start) (n m : ℕ) (ps qs : List Peer) (engine : E) → n ≡ m → ps ≡ qs → made (told_to start n ps) engine → made (told_to start m qs) engine
made_same made start n m ps qs engine count names told =
    subst (λ xs. made (told_to start m xs) engine) names (subst (λ k. made (told_to start k ps) engine) count told)

-- one participant more, or none, that is started after these
pub starts_then : {D E S : Type 0} (peer_of : E → Peer) (made : InitContext → E × S → Type 0) (journal : Option (E → List (StepEvent × StepOut))) (participants : List Peer) (fault : FaultConfig) (ps qs : List Peer) (a b c : List (Peer × Seat D E S)) → StartsAll peer_of made journal participants fault ps a b → StartsAll peer_of made journal participants fault qs b c → StartsAll peer_of made journal participants fault (ps ++ qs) a c
starts_then peer_of made journal participants fault [] qs a b c same rest =
    subst (λ x. StartsAll peer_of made journal participants fault qs x c) same rest
starts_then peer_of made journal participants fault (p ∷ ps) qs a b c first rest =
    (first.0, first.1, starts_then peer_of made journal participants fault ps qs first.0 b c first.2 rest)

-- the first elements and the next one, if there is one
take_then : {X : Type 0} (xs : List X) (i : ℕ) → take (suc i) xs ≡ take i xs ++ option_to_list (slice_get xs i)
take_then [] zero = refl
take_then [] (suc i) = refl
take_then (x ∷ xs) zero = refl
take_then (x ∷ xs) (suc i) = ap (λ ys. x ∷ ys) (take_then xs i)

others_then : (delayed ps : List Peer) (i : ℕ) → others delayed (take (i + 1) ps) ≡ others delayed (take i ps) ++ others delayed (option_to_list (slice_get ps i))
others_then delayed ps i =
    ap (λ n. others delayed (take n ps)) (add-one i) ∙ ap (others delayed) (take_then ps i)
    ∙ filter-append (λ p. not (names delayed p)) (take i ps) (option_to_list (slice_get ps i))

-- one place more of the participants
pub starts_more : {D E S : Type 0} (peer_of : D → E → Peer) (made : D → InitContext → E × S → Type 0) (journal : D → Option (E → List (StepEvent × StepOut))) (fault : FaultConfig) (delayed : List Peer) (d0 d : D) (ps0 ps : List Peer) (i : ℕ) (a b c : List (Peer × Seat D E S)) → ps ≡ ps0 → d ≡ d0 → StartsAll (peer_of d0) (made d0) (journal d0) ps0 fault (others delayed (take i ps0)) a b → StartsAll (peer_of d) (made d) (journal d) ps fault (others delayed (option_to_list (slice_get ps i))) b c → StartsAll (peer_of d0) (made d0) (journal d0) ps0 fault (others delayed (take (i + 1) ps0)) a c
starts_more peer_of made journal fault delayed d0 d ps0 ps i a b c same_peers same_definition first next =
    let moved : StartsAll (peer_of d0) (made d0) (journal d0) ps0 fault (others delayed (option_to_list (slice_get ps0 i))) b c =
    subst (λ x. StartsAll (peer_of x) (made x) (journal x) ps0 fault (others delayed (option_to_list (slice_get ps0 i))) b c) same_definition
    (subst (λ xs. StartsAll (peer_of d) (made d) (journal d) xs fault (others delayed (option_to_list (slice_get xs i))) b c) same_peers next) in
    subst (λ xs. StartsAll (peer_of d0) (made d0) (journal d0) ps0 fault xs a c) (sym (others_then delayed ps0 i))
    (starts_then (peer_of d0) (made d0) (journal d0) ps0 fault (others delayed (take i ps0)) (others delayed (option_to_list (slice_get ps0 i))) a b c first moved)
