-- A link in memory serves: what it is sent is owed, and what it gives is a part of one owed reply.
use Rattle.std.proofs.Common.{◌≡◌, ℕ, suc, ◌+◌, ◌-◌, ◌%◌, ◌<◌, ◌⊎◌, min, Bool, true, false, cond, nat_lt, eqb, List, [], ◌∷◌, length, take, drop, get_or, slice_get, All, Option, Some, None, Result, Ok, Err, inl, inr, refl, sym, ap, ◌∙◌, arith, subst, lit≤, length-drop}
use Rattle.std.specs.List.{remove}
use Rattle.std.proofs.lemmas.Bool.Decides.{nat_tests}
use Rattle.std.proofs.lemmas.List.{drop-drop}
use Rattle.std.proofs.lemmas.List.Elements.{All-append, All-take, All-drop}
use Rattle.std.proofs.lemmas.Option.{get_or_from_slice_get, slice_get_cases}
use Rattle.sync_net.specs.declared.link.LinkError.{LinkError}
use Rattle.sync_net.specs.declared.link.LinkError.TheVariants.{Failed, OutOfMemory}
use Rattle.sync_net.specs.Core.{data_of, reply_to}
use Rattle.sync_net.specs.Service.{Service, service_of, service_sent, ServiceReceived, Receives}
use Rattle.sync_server.specs.Links.{CallsView, CutsView, called, cut_of, next_cut, cut_more, given_count, MemoryView, next_place, begun_with, started_for, owing, delivered, MemorySends, MemoryReceives, service_told}

-- ---- sends

sent_ok : {Op : Type 0} (spelling : Op → List ℕ) (floor_of : Op → Option ℕ) (lost : Bool) (found : Option (List ℕ)) (old : MemoryView Op) (calls : CallsView) (bytes : List ℕ) (x : Unit {0}) → old.lost ≡ lost → reply_to (data_of spelling floor_of old.log) bytes ≡ found
    → service_of (owing found (record old { calls = calls })).lost (service_told spelling floor_of (owing found (record old { calls = calls }))) ≡ service_sent (Ok x) bytes (service_of old.lost (service_told spelling floor_of old))
sent_ok spelling floor_of true (Some reply) old calls bytes x e f = rw e refl
sent_ok spelling floor_of true None old calls bytes x e f = rw e refl
sent_ok spelling floor_of false (Some reply) old calls bytes x e f = rw (e, f) refl
sent_ok spelling floor_of false None old calls bytes x e f = rw (e, f) refl

sent_err : (lost : Bool) (s : Service) (bytes : List ℕ) (fault : LinkError) → service_of lost s ≡ service_sent {T = Unit {0}} (Err fault) bytes (service_of lost s)
sent_err true s bytes fault = refl
sent_err false s bytes fault = refl

pub service_after : {Op : Type 0} (spelling : Op → List ℕ) (floor_of : Op → Option ℕ) (result : Result (Unit {0}) LinkError) (bytes : List ℕ) (old now : MemoryView Op) → MemorySends spelling floor_of result bytes old now
    → service_of now.lost (service_told spelling floor_of now) ≡ service_sent result bytes (service_of old.lost (service_told spelling floor_of old))
service_after {Op} spelling floor_of (Ok x) bytes old now h =
    ap (λ (v : MemoryView Op). service_of v.lost (service_told spelling floor_of v)) h
    ∙ sent_ok spelling floor_of old.lost (reply_to (data_of spelling floor_of old.log) bytes) old (called old.calls) bytes x refl refl
service_after {Op} spelling floor_of (Err fault) bytes old now h =
    ap (λ (v : MemoryView Op). service_of v.lost (service_told spelling floor_of v)) h
    ∙ sent_err old.lost (service_told spelling floor_of old) bytes fault

-- ---- recvs

-- a cut lets a byte pass
cut_some : (found : Option ℕ) → 0 < cut_of found
cut_some (Some cut) = omega arith
cut_some None = lit≤ tt

place_lt : (xs : List (List ℕ)) (i : ℕ) (x : List ℕ) → slice_get xs i ≡ Some x → i < length xs
place_lt xs i x e = elim ((slice_get_cases xs i).1) [ inl h ↦ h.1 | inr h ↦ absurd (let f : Some x ≡ None = sym e ∙ h.1 in cc) ]

-- one of them is so
at_place : (xs : List (List ℕ)) (i : ℕ) (x : List ℕ) → All (λ r. 0 < length r) xs → slice_get xs i ≡ Some x → 0 < length x
at_place xs i x h e = let P : List ℕ → Type 0 = λ r. 0 < length r in subst P (get_or_from_slice_get xs i x [] e) (h i [] (place_lt xs i x e))

-- all but one are still so
pub All-remove : {X : Type 0} (P : X → Type 0) (xs : List X) (i : ℕ) → All P xs → All P (remove xs i)
All-remove P xs i h = All-append P (take i xs) (drop (suc i) xs) (All-take P i xs h) (All-drop P (suc i) xs h)

-- a place modulo their number is among them
no_place : (xs : List (List ℕ)) (k : ℕ) → slice_get xs (k % length xs) ≡ None → length xs ≡ 0
no_place [] k e = refl
no_place (x ∷ xs) k e = elim ((slice_get_cases (x ∷ xs) (k % length (x ∷ xs))).1) [
  | inl h ↦ absurd (let f : None ≡ Some h.0 = sym e ∙ h.2 in cc)
  | inr h ↦ absurd (omega (arith, h.0))
]

module _ {Op : Type 0} (spelling : Op → List ℕ) (floor_of : Op → Option ℕ) where
  abbrev told : MemoryView Op → Service
  told v = service_told spelling floor_of v

  -- nothing is given
  none_given : (old : MemoryView Op) (n : ℕ) (buffer : List ℕ) → n ≡ 0 → (length buffer ≡ 0) ⊎ ((length old.delivering ≡ 0) × (length old.waiting ≡ 0)) → Receives (told old) (Some (told (delivered n old))) n buffer
  none_given old n buffer e (inl h) = record { goes_on = λ room _. absurd (omega arith); begins = λ room _ _. absurd (omega arith); no_room = λ _. rw e refl; nothing = λ _ _. rw e refl }
  none_given old n buffer e (inr h) = record { goes_on = λ _ some. absurd (omega (arith, h.0)); begins = λ _ _ some. absurd (omega (arith, h.1)); no_room = λ _. rw e refl; nothing = λ _ _. rw e refl }

  -- the reply in delivery goes on
  more_given : (old : MemoryView Op) (n : ℕ) (buffer : List ℕ) → 0 < length buffer → 0 < length old.delivering → n ≡ given_count old.cuts (length old.delivering) (length buffer) → take n buffer ≡ take n old.delivering
      → Receives (told old) (Some (told (delivered n old))) n buffer
  more_given old n buffer room some e bytes =
      let cut : 0 < next_cut old.cuts = cut_some (slice_get old.cuts.cuts old.cuts.made) in
      record {
        goes_on = λ _ _. record { some = omega arith; within = omega arith; bytes = bytes; left = refl };
        begins = λ _ none _. absurd (omega arith);
        no_room = λ none. absurd (omega arith);
        nothing = λ none _. absurd (omega arith);
      }

  -- an owed reply begins
  first_given : (old : MemoryView Op) (n : ℕ) (buffer reply : List ℕ) → 0 < length buffer → length old.delivering ≡ 0 → slice_get old.waiting (next_place old) ≡ Some reply → 0 < length reply
      → n ≡ given_count old.cuts (length reply) (length buffer) → take n buffer ≡ take n reply → Receives (told old) (Some (told (delivered n (begun_with (Some reply) old)))) n buffer
  first_given old n buffer reply room none owed some e bytes =
      let cut : 0 < next_cut old.cuts = cut_some (slice_get old.cuts.cuts old.cuts.made) in
      let lt : next_place old < length old.waiting = place_lt old.waiting (next_place old) reply owed in
      record {
        goes_on = λ _ h. absurd (omega arith);
        begins = λ _ _ _. (told (begun_with (Some reply) old), record { place = next_place old; reply = reply; owed = owed; begun = refl }, record { some = omega arith; within = omega arith; bytes = bytes; left = refl });
        no_room = λ h. absurd (omega arith);
        nothing = λ _ h. absurd (omega arith);
      }

  -- what is in delivery when bytes are given
  abbrev chosen : Bool → Bool → Option (List ℕ) → MemoryView Op → MemoryView Op
  chosen room none found v = cond room (cond none (begun_with found v) v) v

  bytes_given : (room none : Bool) (found : Option (List ℕ)) (old : MemoryView Op) (n : ℕ) (buffer : List ℕ) → nat_lt 0 (length buffer) ≡ room → eqb (length old.delivering) 0 ≡ none → slice_get old.waiting (next_place old) ≡ found → All (λ r. 0 < length r) old.waiting
      → n ≡ given_count old.cuts (length (chosen room none found old).delivering) (length buffer) → take n buffer ≡ take n (chosen room none found old).delivering → Receives (told old) (Some (told (delivered n (chosen room none found old)))) n buffer
  bytes_given false none found old n buffer r z f all e bytes = let shut : length buffer ≡ 0 = grind (arith, nat_tests) in none_given old n buffer (omega arith) (inl shut)
  bytes_given true false found old n buffer r z f all e bytes =
      let some : 0 < length old.delivering = grind (arith, nat_tests) in
      let wide : 0 < length buffer = grind (arith, nat_tests) in
      more_given old n buffer wide some e bytes
  bytes_given true true (Some reply) old n buffer r z f all e bytes =
      let nothing : length old.delivering ≡ 0 = grind (arith, nat_tests) in
      let wide : 0 < length buffer = grind (arith, nat_tests) in
      first_given old n buffer reply wide nothing f (at_place old.waiting (next_place old) reply all f) e bytes
  bytes_given true true None old n buffer r z f all e bytes =
      let nothing : length old.delivering ≡ 0 = grind (arith, nat_tests) in
      none_given old n buffer (omega arith) (inr (nothing, no_place old.waiting (get_or old.order old.begun 0) f))

  lost_still : (room none : Bool) (found : Option (List ℕ)) (old : MemoryView Op) → (chosen room none found old).lost ≡ old.lost
  lost_still false none found old = refl
  lost_still true false found old = refl
  lost_still true true (Some reply) old = refl
  lost_still true true None old = refl

  -- what is told, unless the link has lost its place
  tells : (lost : Bool) (l m : Bool) (s t : Service) (n : ℕ) (buffer : List ℕ) → l ≡ lost → m ≡ lost → Receives s (Some t) n buffer → ServiceReceived (service_of l s) (service_of m t) (Ok n) buffer
  tells true l m s t n buffer e f h = rw (e, f) refl
  tells false l m s t n buffer e f h = rw (e, f) h

  still : (lost : Bool) (s : Service) (fault : LinkError) (buffer : List ℕ) → ServiceReceived (service_of lost s) (service_of lost s) (Err fault) buffer
  still true s fault buffer = refl
  still false s fault buffer = refl

  pub service_given : (result : Result ℕ LinkError) (buffer : List ℕ) (old now : MemoryView Op) → All (λ r. 0 < length r) old.waiting → MemoryReceives result buffer old now
      → ServiceReceived (service_of old.lost (service_told spelling floor_of old)) (service_of now.lost (service_told spelling floor_of now)) result buffer
  service_given (Ok n) buffer old now all h =
      let room = nat_lt 0 (length buffer) in
      let none = eqb (length old.delivering) 0 in
      let found = slice_get old.waiting (next_place old) in
      let r : Receives (told old) (Some (told (delivered n (chosen room none found old)))) n buffer = bytes_given room none found old n buffer refl refl refl all h.0 h.1 in
      let same : Some (told now) ≡ Some (told (delivered n (chosen room none found old))) = ap (λ (v : MemoryView Op). Some (told v)) h.2 in
      tells old.lost old.lost now.lost (told old) (told now) n buffer refl (ap (λ (v : MemoryView Op). v.lost) h.2 ∙ lost_still room none found old) (subst (λ (t : Option Service). Receives (told old) t n buffer) (sym same) r)
  service_given (Err Failed) buffer old now all h = subst (λ (v : MemoryView Op). ServiceReceived (service_of old.lost (told old)) (service_of v.lost (told v)) (Err Failed) buffer) (sym h) (still old.lost (told old) Failed buffer)
  service_given (Err OutOfMemory) buffer old now all h = absurd h

  -- ---- what a recv leaves

  chosen_moved : (room none : Bool) (found : Option (List ℕ)) (old : MemoryView Op) (more : CutsView) (one : CallsView) → chosen room none found (record old { cuts = more; calls = one }) ≡ record (chosen room none found old) { cuts = more; calls = one }
  chosen_moved false none found old more one = refl
  chosen_moved true false found old more one = refl
  chosen_moved true true (Some reply) old more one = refl
  chosen_moved true true None old more one = refl

  cuts_still : (room none : Bool) (found : Option (List ℕ)) (old : MemoryView Op) → (chosen room none found old).cuts ≡ old.cuts
  cuts_still false none found old = refl
  cuts_still true false found old = refl
  cuts_still true true (Some reply) old = refl
  cuts_still true true None old = refl

  calls_still : (room none : Bool) (found : Option (List ℕ)) (old : MemoryView Op) → (chosen room none found old).calls ≡ old.calls
  calls_still false none found old = refl
  calls_still true false found old = refl
  calls_still true true (Some reply) old = refl
  calls_still true true None old = refl

  -- the state when bytes are given, by the parts that choose it
  abbrev ready : ℕ → MemoryView Op → MemoryView Op
  ready room old = chosen (nat_lt 0 room) (eqb (length old.delivering) 0) (slice_get old.waiting (next_place old)) old

  pub delivers : (old now st : MemoryView Op) (bytes buffer : List ℕ) (at n most room : ℕ) (more : CutsView) (one : CallsView)
      → st ≡ started_for room (record old { cuts = more; calls = one }) → st.delivering ≡ drop at bytes → n ≡ min most (min (length bytes - at) room) → take n buffer ≡ take n (drop at bytes) → length buffer ≡ room
      → most ≡ next_cut old.cuts → more ≡ cut_more old.cuts → one ≡ called old.calls → now ≡ record st { delivering = drop (at + n) bytes } → MemoryReceives (Ok n) buffer old now
  delivers old now st bytes buffer at n most room more one e_st e_held e_n e_bytes e_room e_most e_more e_one e_now =
      let b = nat_lt 0 room in
      let z = eqb (length old.delivering) 0 in
      let f = slice_get old.waiting (next_place old) in
      let same : st ≡ record (ready room old) { cuts = more; calls = one } = e_st ∙ chosen_moved b z f old more one in
      let held : drop at bytes ≡ (ready room old).delivering = sym e_held ∙ ap (λ (v : MemoryView Op). v.delivering) same in
      let count : n ≡ given_count old.cuts (length (ready room old).delivering) room = e_n ∙ rw (sym held, length-drop at bytes, sym e_most) refl in
      let left : drop (at + n) bytes ≡ drop n (ready room old).delivering = sym (drop-drop n at bytes) ∙ ap (drop n) held in
      let moved : record st { delivering = drop (at + n) bytes } ≡ record (ready room old) { delivering = drop n (ready room old).delivering; cuts = more; calls = one } =
      ap (λ (v : MemoryView Op). record v { delivering = drop (at + n) bytes }) same ∙ ap (λ (d : List ℕ). record (ready room old) { delivering = d; cuts = more; calls = one }) left in
      let counted : record (ready room old) { delivering = drop n (ready room old).delivering; cuts = more; calls = one } ≡ delivered n (ready room old) =
      ap (λ (k : CutsView). record (ready room old) { delivering = drop n (ready room old).delivering; cuts = k; calls = one }) (e_more ∙ ap cut_more (sym (cuts_still b z f old)))
      ∙ ap (λ (k : CallsView). record (ready room old) { delivering = drop n (ready room old).delivering; cuts = cut_more (ready room old).cuts; calls = k }) (e_one ∙ ap called (sym (calls_still b z f old))) in
      subst (λ (k : ℕ). (n ≡ given_count old.cuts (length (started_for k old).delivering) k) × (take n buffer ≡ take n (started_for k old).delivering) × (now ≡ delivered n (started_for k old))) (sym e_room)
      (count, e_bytes ∙ ap (take n) held, e_now ∙ (moved ∙ counted))
