use Rattle.std.proofs.Common.{rules, ◌≡◌, ◌+◌, ◌-◌, ◌/◌, ◌%◌, ◌<◌, ◌≤◌, ◌∷◌, ◌++◌, [], length, get_or, reverse, count_ones, sym, ap, ◌∙◌, arith}
use Rattle.std.proofs.lemmas.List.{length-set, length-reverse, get_or-reverse, get_or_read}
use Rattle.ledger_merkle.specs.Levels.{full}
use Rattle.ledger_merkle.proofs.Joining.{ones_half}
use Rattle.ledger_merkle.proofs.Levels.{odd_last}
use Rattle.ledger_merkle.proofs.Kept.{above_rest, above_count, added_even, added_odd, last_full}
use Rattle.ledger_merkle.proofs.level.+add.Goals as goal

pub last_of-last-requires : goal.last_of-last-requires
last_of-last-requires g t c =
    let there : c.args.height < length c.room.new.levels.items = c.in_ok-room.ensures.there in
    let is : c.index-2.result.now ≡ get_or c.room.new.levels.items c.args.height [] = get_or_read c.room.new.levels.items c.args.height c.index-2.result.now there c.index-2.ensures [] in
    let same : length c.index-2.result.now ≡ length (get_or c.args.levels.now.items c.args.height []) = ap length is ∙ ap length (c.room.ensures.same c.args.height) in
    omega (arith, c.requires.count, c.requires.pins, ones_half c.args.front)

pub add-requires : goal.add-requires
add-requires g t c κs within =
    let hash = g.H.Hasher.digest in
    let n = c.args.front in
    let h = c.args.height in
    let old = c.args.levels.now.items in
    let one = c.room.new.levels.items in
    let two = c.put-2.new.levels.items in
    let xs = get_or old h [] in
    let pins = reverse c.args.pinned.now in
    let l = get_or one h [] ++ c.args.node ∷ [] in
    let count : length pins ≡ count_ones n = length-reverse c.args.pinned.now ∙ c.requires.pins in
    let there : h < length one = c.in_ok-room.ensures.there in
    let long : length two ≡ length one = ap length c.in_ok-put-2.ensures.ok ∙ length-set one h l in
    let more : n / 2 + length (get_or two (h + 1) []) ≡ (n + length xs) / 2 = above_count hash n h pins xs old one two l c.room.ensures.same c.requires.rest c.in_ok-put-2.ensures.ok count in
    let rest = above_rest hash n h pins xs old one two l c.room.ensures.same c.requires.rest c.in_ok-put-2.ensures.ok (reverse c.rest_of-rest.result.now) c.rest_of-rest.ensures.nodes in
    let half : c.args.count ≡ n + length xs = c.requires.count in
    let next : c.args.count / 2 ≡ n / 2 + length (get_or two (h + 1) []) = ap (λ x. x / 2) half ∙ sym more in
    let less : c.args.count / 2 < t = omega (arith, c.decreases) in
    let room : h + 1 ≤ length two = omega arith in
    let fewer : length c.rest_of-rest.result.now ≡ count_ones (n / 2) = c.rest_of-rest.ensures.count in
    search rules

pub returns-then-count-eq0-clause-ok : goal.returns-then-count-eq0-clause-ok
returns-then-count-eq0-clause-ok g t c =
    let hash = g.H.Hasher.digest in
    let n = c.args.front in
    let h = c.args.height in
    let old = c.args.levels.now.items in
    let one = c.room.new.levels.items in
    let xs = get_or old h [] in
    let pins = reverse c.args.pinned.now in
    let l = get_or one h [] ++ c.args.node ∷ [] in
    let count : length pins ≡ count_ones n = length-reverse c.args.pinned.now ∙ c.requires.pins in
    let even : (n + length xs) % 2 ≡ 0 = ap (λ x. x % 2) (sym c.requires.count) ∙ c.if-count-eq0.true in
    added_even hash n h pins xs old one c.put.new.levels.items l c.room.ensures.same c.requires.rest c.in_ok-put.ensures.ok c.args.node count even (ap (λ y. y ++ c.args.node ∷ []) (c.room.ensures.same h)) c.in_ok-room.ensures.there

pub returns-in-Ok-clause-ok : goal.returns-in-Ok-clause-ok
returns-in-Ok-clause-ok g t c =
    let hash = g.H.Hasher.digest in
    let n = c.args.front in
    let h = c.args.height in
    let old = c.args.levels.now.items in
    let one = c.room.new.levels.items in
    let two = c.put-2.new.levels.items in
    let xs = get_or old h [] in
    let pinned = c.args.pinned.now in
    let pins = reverse pinned in
    let l = get_or one h [] ++ c.args.node ∷ [] in
    let last = c.last_of-last.result in
    let there : h < length one = c.in_ok-room.ensures.there in
    let level : c.index-2.result.now ≡ xs = get_or_read one h c.index-2.result.now there c.index-2.ensures [] ∙ c.room.ensures.same h in
    let count : length pins ≡ count_ones n = length-reverse pinned ∙ c.requires.pins in
    let odd : (n + length xs) % 2 ≡ 1 = ap (λ x. x % 2) (sym c.requires.count) ∙ omega arith in
    let same : length c.index-2.result.now ≡ length xs = ap length level in
    let some = λ (s : 0 < length xs). c.last_of-last.ensures.node (omega arith) ∙ ap (λ y. get_or y (length y - 1) []) level in
    let none = λ (z : length xs ≡ 0).
    (let one_pin : 0 < length pinned = omega (arith, c.requires.pins, ones_half n) in
    let first : length pinned - 1 - (length pinned - 1) ≡ 0 = omega arith in
    let end : get_or pins 0 [] ≡ get_or pinned (length pinned - 1 - 0) [] = get_or-reverse pinned 0 [] one_pin in
    let back : length pinned - 1 - 0 ≡ length pinned - 1 = omega arith in
    c.last_of-last.ensures.pin (same ∙ z) ∙ (ap (λ i. get_or pinned i []) (sym back) ∙ sym end)) in
    let joined : odd_last (full n pins xs) ≡ last ∷ [] = last_full hash n pins xs last count odd some none in
    added_odd hash n h pins xs old one two l c.room.ensures.same c.requires.rest c.in_ok-put-2.ensures.ok c.add.new.levels.items (reverse c.rest_of-rest.result.now) last c.args.node c.hash_node-above.result
    count joined c.hash_node-above.ensures c.rest_of-rest.ensures.nodes (ap (λ y. y ++ c.args.node ∷ []) (c.room.ensures.same h)) there c.in-Ok.ensures.below c.in-Ok.ensures.ok
