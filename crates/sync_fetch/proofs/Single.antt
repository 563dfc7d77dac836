-- Over the same bytes the waiting for an answer ends in one way.
use Rattle.std.proofs.Common.{◌≡◌, ℕ, ◌+◌, Bool, true, false, List, [], ◌∷◌, Some, None, Ok, Err, refl, sym, ap, subst, ◌∙◌, inl, inr}
use Rattle.ledger_codec.specs.Parsing.{Parsed}
use Rattle.ledger_codec.specs.Frames.{Whole, Short, Bad, front, Leads}
use Rattle.sync_net.specs.declared.ask.Pending.{Pending}
use Rattle.sync_fetch.specs.Exchange.{exchange_frame, Strays, Reply, Answered, Refused, Closed, Pends, RepliesSo, OneWay}

same_body : (a b c d : List ℕ) → Whole a b ≡ Whole c d → a ≡ c
same_body a b c d e = cc

same_rest : (a b c d : List ℕ) → Whole a b ≡ Whole c d → b ≡ d
same_rest a b c d e = cc

module _ {Op : Type 0} (read : List ℕ → Parsed Op) (p : Pending) (ended : Bool) where
  -- a frame that ends the waiting is none that is let through
  no_stray : (s : ℕ) (r body after : List ℕ) (reply : Reply Op) → RepliesSo read p s r ended reply → front 10485760 r ≡ Whole body after → exchange_frame read p s body ≡ Ok None → ⊥
  no_stray s r body after (Answered m) a w f = let same = same_body a.0 a.1 body after (sym a.2 ∙ w) in let x : Ok (Some m) ≡ Ok None = sym a.3 ∙ (ap (exchange_frame read p s) same ∙ f) in cc
  no_stray s r body after (Refused o) a w f = let same = same_body a.0 a.1 body after (sym a.2 ∙ w) in let x : Err o ≡ Ok None = sym a.3 ∙ (ap (exchange_frame read p s) same ∙ f) in cc
  no_stray s r body after Closed (inl a) w f = let x : Bad a.0 ≡ Whole body after = sym a.1 ∙ w in cc
  no_stray s r body after Closed (inr a) w f = let x : Short ≡ Whole body after = sym a.0 ∙ w in cc
  no_stray s r body after Pends a w f = let x : Short ≡ Whole body after = sym a.0 ∙ w in cc

  -- at one place it ends in one way
  one_end : (s : ℕ) (r : List ℕ) (one other : Reply Op) → RepliesSo read p s r ended one → RepliesSo read p s r ended other → one ≡ other
  one_end s r (Answered m) (Answered n) a b =
      let same = same_body a.0 a.1 b.0 b.1 (sym a.2 ∙ b.2) in
      let x : Ok (Some m) ≡ Ok (Some n) = sym a.3 ∙ (ap (exchange_frame read p s) same ∙ b.3) in
      let y : m ≡ n = cc in
      ap Answered y
  one_end s r (Answered m) (Refused o) a b =
      let same = same_body a.0 a.1 b.0 b.1 (sym a.2 ∙ b.2) in
      absurd (let x : Ok (Some m) ≡ Err o = sym a.3 ∙ (ap (exchange_frame read p s) same ∙ b.3) in cc)
  one_end s r (Answered m) Closed a (inl b) = absurd (let x : Whole a.0 a.1 ≡ Bad b.0 = sym a.2 ∙ b.1 in cc)
  one_end s r (Answered m) Closed a (inr b) = absurd (let x : Whole a.0 a.1 ≡ Short = sym a.2 ∙ b.0 in cc)
  one_end s r (Answered m) Pends a b = absurd (let x : Whole a.0 a.1 ≡ Short = sym a.2 ∙ b.0 in cc)
  one_end s r (Refused o) (Answered m) a b =
      let same = same_body a.0 a.1 b.0 b.1 (sym a.2 ∙ b.2) in
      absurd (let x : Err o ≡ Ok (Some m) = sym a.3 ∙ (ap (exchange_frame read p s) same ∙ b.3) in cc)
  one_end s r (Refused o) (Refused q) a b =
      let same = same_body a.0 a.1 b.0 b.1 (sym a.2 ∙ b.2) in
      let x : Err o ≡ Err q = sym a.3 ∙ (ap (exchange_frame read p s) same ∙ b.3) in
      let y : o ≡ q = cc in
      ap Refused y
  one_end s r (Refused o) Closed a (inl b) = absurd (let x : Whole a.0 a.1 ≡ Bad b.0 = sym a.2 ∙ b.1 in cc)
  one_end s r (Refused o) Closed a (inr b) = absurd (let x : Whole a.0 a.1 ≡ Short = sym a.2 ∙ b.0 in cc)
  one_end s r (Refused o) Pends a b = absurd (let x : Whole a.0 a.1 ≡ Short = sym a.2 ∙ b.0 in cc)
  one_end s r Closed (Answered m) (inl a) b = absurd (let x : Whole b.0 b.1 ≡ Bad a.0 = sym b.2 ∙ a.1 in cc)
  one_end s r Closed (Answered m) (inr a) b = absurd (let x : Whole b.0 b.1 ≡ Short = sym b.2 ∙ a.0 in cc)
  one_end s r Closed (Refused o) (inl a) b = absurd (let x : Whole b.0 b.1 ≡ Bad a.0 = sym b.2 ∙ a.1 in cc)
  one_end s r Closed (Refused o) (inr a) b = absurd (let x : Whole b.0 b.1 ≡ Short = sym b.2 ∙ a.0 in cc)
  one_end s r Closed Closed a b = refl
  one_end s r Closed Pends (inl a) b = absurd (let x : Bad a.0 ≡ Short = sym a.1 ∙ b.0 in cc)
  one_end s r Closed Pends (inr a) b = absurd (let x : true ≡ false = sym a.1 ∙ b.1 in cc)
  one_end s r Pends (Answered m) a b = absurd (let x : Whole b.0 b.1 ≡ Short = sym b.2 ∙ a.0 in cc)
  one_end s r Pends (Refused o) a b = absurd (let x : Whole b.0 b.1 ≡ Short = sym b.2 ∙ a.0 in cc)
  one_end s r Pends Closed a (inl b) = absurd (let x : Bad b.0 ≡ Short = sym b.1 ∙ a.0 in cc)
  one_end s r Pends Closed a (inr b) = absurd (let x : true ≡ false = sym b.1 ∙ a.1 in cc)
  one_end s r Pends Pends a b = refl

  -- over the same bytes the same frames are let through
  one_course : (s : ℕ) (bytes : List ℕ) (bodies others : List (List ℕ)) (r q : List ℕ) (t u : ℕ) (one other : Reply Op) → Leads 10485760 bytes bodies r → Leads 10485760 bytes others q → Strays read p s bodies t → Strays read p s others u →
      RepliesSo read p t r ended one → RepliesSo read p u q ended other → one ≡ other
  one_course s bytes [] [] r q t u one other l k x y a b =
      one_end s bytes one other
      (subst (λ (z : ℕ). RepliesSo read p z bytes ended one) (sym x) (subst (λ (z : List ℕ). RepliesSo read p t z ended one) (sym l) a))
      (subst (λ (z : ℕ). RepliesSo read p z bytes ended other) (sym y) (subst (λ (z : List ℕ). RepliesSo read p u z ended other) (sym k) b))
  one_course s bytes [] (body ∷ others) r q t u one other l k x y a b =
      absurd (no_stray s bytes body k.0 one (subst (λ (z : ℕ). RepliesSo read p z bytes ended one) (sym x) (subst (λ (z : List ℕ). RepliesSo read p t z ended one) (sym l) a)) k.1 y.0)
  one_course s bytes (body ∷ bodies) [] r q t u one other l k x y a b =
      absurd (no_stray s bytes body l.0 other (subst (λ (z : ℕ). RepliesSo read p z bytes ended other) (sym y) (subst (λ (z : List ℕ). RepliesSo read p u z ended other) (sym k) b)) l.1 x.0)
  one_course s bytes (body ∷ bodies) (next ∷ others) r q t u one other l k x y a b =
      let same : l.0 ≡ k.0 = same_rest body l.0 next k.0 (sym l.1 ∙ k.1) in
      one_course (s + 1) l.0 bodies others r q t u one other l.2 (subst (λ (z : List ℕ). Leads 10485760 z others q) (sym same) k.2) x.1 y.1 a b

pub one_way : {Op : Type 0} (read : List ℕ → Parsed Op) → OneWay read
one_way read p bytes ended one other a b = one_course read p ended 0 bytes a.bodies b.bodies a.rest b.rest a.strays b.strays one other a.led b.led a.passed b.passed a.ends b.ends
