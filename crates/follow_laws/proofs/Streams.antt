-- A session over what was given of a stream is the one over the stream.
use Rattle.std.proofs.Common.{◌≡◌, ℕ, Bool, true, false, ◌||◌, List, [], ◌++◌, Option, Some, refl, sym, ap, subst, ◌∙◌, inl, inr}
use Rattle.std.specs.Prelude.{option_map, unwrap_or}
use Rattle.std.proofs.lemmas.List.{append-nil, append_cancel_left}
use Rattle.std.proofs.lemmas.Bool.{or_left}
use Rattle.std.proofs.Math.Bool.{or-true}
use Rattle.sync_client.specs.Session.{Ask, State, Rules}
use Rattle.sync_client.specs.Runs.{Outcome, Waits, Session, SessionLaws}
use Rattle.sync_client.specs.Ending.{Since, wire_after}
use Rattle.sync_net.specs.Wire.{Wire}
use Rattle.follow_laws.specs.Alike.{Tells}

some_is : {X : Type 0} (x y : X) → Some x ≡ Some y → x ≡ y
some_is x y h = ap (λ o. unwrap_or o x) h

-- what was given in between, with what then follows in the stream
pub record Front (stream given : List ℕ) (ended : Bool) : Type 0 where
  pub more : List ℕ
  pub all : stream ≡ given ++ more
  pub whole : ended ≡ true → more ≡ []

told_is : (before : Option Wire) (was is : Wire) (given : List ℕ) (ended : Bool) (sent : List ℕ) → before ≡ Some was → Since before (Some is) given ended sent → is ≡ wire_after given ended sent was
told_is before was is given ended sent e h = some_is is (wire_after given ended sent was) (h ∙ ap (option_map (wire_after given ended sent)) e)

-- what a link told of a call is the front of what it tells of the stream
pub front_of : (stream : List ℕ) (before now : Option Wire) (given : List ℕ) (ended : Bool) (sent : List ℕ) → Tells stream before now → Since before now given ended sent → Front stream given ended
front_of stream before now given ended sent t h =
    let e : t.is ≡ wire_after given ended sent t.was = told_is before t.was t.is given ended sent t.before_is (subst (λ (w : Option Wire). Since before w given ended sent) t.now_is h) in
    let g : t.was.given ++ given ≡ t.was.given ++ t.given = sym (ap (λ (w : Wire). w.given) e) ∙ t.grew in
    let same : given ≡ t.given = append_cancel_left t.was.given given t.given g in
    record {
      more = t.more;
      all = t.all ∙ ap (λ (bytes : List ℕ). bytes ++ t.more) (sym same);
      whole = λ l. t.whole (ap (λ (w : Wire). w.ended) e ∙ (ap (λ (b : Bool). t.was.ended || b) l ∙ or-true t.was.ended));
    }

module _ {Op : Type 0} (rules : Rules Op) (start : State Op) where
  -- a session over a front of a stream ended so
  pub record Leg (stream : List ℕ) (outcome : Outcome Op) : Type 0 where
    pub given : List ℕ
    pub ended : Bool
    pub asks : List Ask
    pub session : Session rules start given ended outcome asks
    pub front : Front stream given ended
    pub over : outcome ≡ Waits → ⊥

  module _ (laws : SessionLaws rules start) where
    extended : (bytes more : List ℕ) (ended whole : Bool) (p : Outcome Op) (xs : List Ask) → Session rules start bytes ended p xs → (p ≡ Waits → ⊥) → (ended ≡ true → (more ≡ []) × (whole ≡ true)) → Session rules start (bytes ++ more) whole p xs
    extended bytes more false whole p xs s over e = laws.settled bytes more whole p xs s over
    extended bytes more true whole p xs s over e =
        let h = e refl in
        subst (λ (ms : List ℕ). Session rules start (bytes ++ ms) whole p xs) (sym h.0)
        (subst (λ (bs : List ℕ). Session rules start bs whole p xs) (sym (append-nil bytes)) (subst (λ (w : Bool). Session rules start bytes w p xs) (sym h.1) s))

    on_stream : (stream : List ℕ) (p : Outcome Op) (whole : Bool) (a : Leg stream p) → (a.ended ≡ true → whole ≡ true) → Session rules start stream whole p a.asks
    on_stream stream p whole a h =
        subst (λ (bs : List ℕ). Session rules start bs whole p a.asks) (sym a.front.all)
        (extended a.given a.front.more a.ended whole p a.asks a.session a.over (λ t. (a.front.whole t, h t)))

    -- two sessions over one stream end in one way
    pub one_end : (stream : List ℕ) (p q : Outcome Op) → Leg stream p → Leg stream q → p ≡ q
    one_end stream p q a b =
        let whole : Bool = a.ended || b.ended in
        let s = on_stream stream p whole a (λ t. or_left a.ended b.ended t) in
        let r = on_stream stream q whole b (λ t. ap (λ (x : Bool). a.ended || x) t ∙ or-true a.ended) in
        (laws.one stream whole p q a.asks b.asks s r).0
