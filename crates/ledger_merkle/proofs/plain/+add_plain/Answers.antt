use Rattle.std.proofs.Common.{rules, ◌≡◌, suc, ◌+◌, ◌-◌, ◌<◌, ◌≤◌, ◌^◌, true, false, [], ◌∷◌, ◌++◌, length, refl, sym, ap, ◌∙◌, arith}
use Rattle.std.proofs.lemmas.List.{append-nil, append_assoc}
use Rattle.ledger_merkle.specs.Range.{is_outside}
use Rattle.ledger_merkle.specs.Levels.{tree, outside_of}
use Rattle.ledger_merkle.proofs.Ranges.{two_halves}
use Rattle.ledger_merkle.proofs.Completeness.{past, before, within}
use Rattle.ledger_merkle.proofs.Peaked.{outside_one, outside_none, outside_halves}
use Rattle.ledger_merkle.proofs.plain.+add_plain.Goals as goal

pub returns-then-lies_outside : goal.returns-then-lies_outside
returns-then-lies_outside g t c =
    let trees = tree g.H.Hasher.digest [] 0 c.args.leaves.now in
    let s = c.args.start in
    let e = c.args.end in
    let h = c.args.height in
    let at = c.args.at in
    let out : is_outside s e h at ≡ true = sym c.lies_outside.ensures ∙ c.if-lies_outside.true in
    c.in_ok-push.ensures.items ∙ ap (λ l. c.args.digests.now.items ++ l) (ap (λ x. x ∷ []) c.plain_node.ensures ∙ sym (outside_one trees s e h at out))

pub returns-then-height-eq0 : goal.returns-then-height-eq0
returns-then-height-eq0 g t c =
    let trees = tree g.H.Hasher.digest [] 0 c.args.leaves.now in
    let s = c.args.start in
    let e = c.args.end in
    let at = c.args.at in
    let zero = c.if-height-eq0.true in
    let one : 2 ^ 0 ≡ 1 = refl in
    let out : is_outside s e 0 at ≡ false = ap (λ h. is_outside s e h at) (sym zero) ∙ (sym c.lies_outside.ensures ∙ c.if-lies_outside.false) in
    let w = within s e at out in
    sym (append-nil c.args.digests.now.items)
    ∙ ap (λ l. c.args.digests.now.items ++ l) (sym (ap (λ h. outside_of trees s e h at) zero ∙ outside_none trees s e 0 at (omega (arith, w.0)) (omega (arith, w.1))))

pub add_plain-requires : goal.add_plain-requires
add_plain-requires g t c κs within =
    let i : c.args.height ≡ suc (c.args.height - 1) = omega arith in
    let two : 2 ^ c.args.height ≡ 2 ^ (c.args.height - 1) + 2 ^ (c.args.height - 1) = two_halves c.args.height (c.args.height - 1) i in
    let less : c.args.height - 1 < t = omega (arith, c.decreases) in
    let high : c.args.height - 1 ≤ 62 = omega (arith, c.requires.high) in
    let room : c.args.at + 2 ^ (c.args.height - 1) ≤ length c.args.leaves.now = omega (arith, c.requires.within) in
    search rules

pub add_plain-requires-2 : goal.add_plain-requires-2
add_plain-requires-2 g t c κs within =
    let i : c.args.height ≡ suc (c.args.height - 1) = omega arith in
    let two : 2 ^ c.args.height ≡ 2 ^ (c.args.height - 1) + 2 ^ (c.args.height - 1) = two_halves c.args.height (c.args.height - 1) i in
    let less : c.args.height - 1 < t = omega (arith, c.decreases) in
    let high : c.args.height - 1 ≤ 62 = omega (arith, c.requires.high) in
    let width : c.width_of.result ≡ 2 ^ (c.args.height - 1) = c.width_of.ensures.width in
    let room : c.args.at + c.width_of.result + 2 ^ (c.args.height - 1) ≤ length c.args.leaves.now = omega (arith, c.requires.within) in
    search rules

pub returns : goal.returns
returns g t c =
    let trees = tree g.H.Hasher.digest [] 0 c.args.leaves.now in
    let s = c.args.start in
    let e = c.args.end in
    let h = c.args.height in
    let j = h - 1 in
    let at = c.args.at in
    let i : h ≡ suc j = omega arith in
    let out : is_outside s e h at ≡ false = sym c.lies_outside.ensures ∙ c.if-lies_outside.false in
    let halves = outside_halves trees s e h j at i (past s e h at out) (before s e h at out) in
    let old = c.args.digests.now.items in
    let left = outside_of trees s e j at in
    let right = outside_of trees s e j (at + 2 ^ j) in
    c.in_ok-add_plain-2.ensures
    ∙ (ap (λ l. c.add_plain.new.digests.items ++ outside_of trees s e j (at + l)) c.width_of.ensures.width
    ∙ (ap (λ l. l ++ right) c.in_ok-add_plain.ensures
    ∙ (append_assoc old left right ∙ ap (λ l. old ++ l) (sym halves))))
