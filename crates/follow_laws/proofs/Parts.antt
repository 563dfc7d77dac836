-- A session that kept its whole range makes one part, or one root that is wrong.
use Rattle.std.proofs.Common.{◌≡◌, ◌≢◌, ℕ, List, refl, sym, ap, subst, ◌∙◌}
use Rattle.ledger_log.specs.declared.target.Target.{Target}
use Rattle.ledger_merkle.specs.declared.proof.Part.{Part as Fetched}
use Rattle.sync_client.specs.Parts.{Assembles}
use Rattle.sync_client.specs.Session.{State, Rules}

module _ {Op : Type 0} (rules : Rules Op) (t : State Op) where
  -- the part of the target that this state synced
  pub record IsPart (synced : Target) (part : Fetched Op) : Type 0 where
    pub target : synced ≡ t.plan.target
    pub start : part.start ≡ synced.start
    pub pinned : part.pinned ≡ t.pinned
    pub ops : Assembles synced.start t.kept part.ops
    pub only : (other : List Op) → Assembles synced.start t.kept other → other ≡ part.ops
    pub root : rules.root part.pinned part.start part.ops ≡ synced.root

  -- what this state kept has this root, which isn't the target's
  pub record IsWrong (found : List ℕ) : Type 0 where
    pub made : List Op
    pub assembles : Assembles t.plan.target.start t.kept made
    pub is : found ≡ rules.root t.pinned t.plan.target.start made
    pub differs : found ≢ t.plan.target.root
    pub only : (other : List Op) → Assembles t.plan.target.start t.kept other → other ≡ made

  -- two parts of one state are one
  pub record IsSame (synced other : Target) (part another : Fetched Op) : Type 0 where
    pub target : synced ≡ other
    pub pinned : part.pinned ≡ another.pinned
    pub ops : part.ops ≡ another.ops

  pub one_part : (synced other : Target) (part another : Fetched Op) → IsPart synced part → IsPart other another → IsSame synced other part another
  one_part synced other part another a b =
      let e : synced ≡ other = a.target ∙ sym b.target in
      record {
        target = e;
        pinned = a.pinned ∙ sym b.pinned;
        ops = sym (a.only another.ops (subst (λ (x : Target). Assembles x.start t.kept another.ops) (sym e) b.ops));
      }

  pub one_root : (found other : List ℕ) → IsWrong found → IsWrong other → found ≡ other
  one_root found other a b =
      a.is ∙ (ap (λ (ops : List Op). rules.root t.pinned t.plan.target.start ops) (b.only a.made a.assembles) ∙ sym b.is)

  pub never_both : (synced : Target) (part : Fetched Op) (found : List ℕ) → IsPart synced part → IsWrong found → ⊥
  never_both synced part found a b =
      let ops : part.ops ≡ b.made = b.only part.ops (subst (λ (x : Target). Assembles x.start t.kept part.ops) a.target a.ops) in
      let start : part.start ≡ t.plan.target.start = a.start ∙ ap (λ (x : Target). x.start) a.target in
      let one : rules.root part.pinned part.start part.ops ≡ rules.root t.pinned t.plan.target.start b.made =
      ap (λ (ps : List (List ℕ)). rules.root ps part.start part.ops) a.pinned ∙ (ap (λ (n : ℕ). rules.root t.pinned n part.ops) start ∙ ap (λ (xs : List Op). rules.root t.pinned t.plan.target.start xs) ops) in
      b.differs (b.is ∙ (sym one ∙ (a.root ∙ ap (λ (x : Target). x.root) a.target)))
