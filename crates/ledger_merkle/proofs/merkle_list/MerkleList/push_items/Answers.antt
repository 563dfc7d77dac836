use Rattle.std.proofs.Common.{◌≡◌, ◌+◌, [], ◌∷◌, ◌++◌, length, take, map, sym, ap, ◌∙◌, arith}
use Rattle.std.proofs.lemmas.List.{map_more, length-map, length-take-le, append_assoc}
use Rattle.ledger_merkle.specs.Tree.{leaf}
use Rattle.ledger_merkle.specs.Leaves.{leaves_from, list_size}
use Rattle.ledger_merkle.proofs.Cut.{leaves_from_one_more, added_size}
use Rattle.ledger_merkle.proofs.merkle_list.MerkleList.push_items.Goals as goal

pub push-requires : goal.push-requires
push-requires g c =
    let i = c.loop-item.item-index in
    let items = c.args.items.now in
    let xs = map g.T.Leaf.spelling (take i items) in
    let count : length xs ≡ i = length-map (take i items) g.T.Leaf.spelling ∙ length-take-le i items (omega arith) in
    let size : list_size c.loop-item.self ≡ list_size c.args.self.now + length xs = added_size g.H.Hasher.digest c.args.self.now c.loop-item.self xs c.loop-item.invariant.front c.loop-item.invariant.leaves in
    omega (arith, c.requires)

pub loop-item-preserved : goal.loop-item-preserved
loop-item-preserved g c =
    let hash = g.H.Hasher.digest in
    let i = c.loop-item.item-index in
    let items = c.args.items.now in
    let spelling = g.T.Leaf.spelling in
    let xs = map spelling (take i items) in
    let item = c.item-item.result in
    let n = list_size c.args.self.now in
    let old = c.args.self.now.leaves in
    let count : length xs ≡ i = length-map (take i items) spelling ∙ length-take-le i items (omega arith) in
    let size : list_size c.loop-item.self ≡ n + length xs = added_size hash c.args.self.now c.loop-item.self xs c.loop-item.invariant.front c.loop-item.invariant.leaves in
    let more : map spelling (take (i + 1) items) ≡ xs ++ spelling item ∷ [] =
    map_more spelling items i item c.loop-item-test.true ∙ ap (λ z. xs ++ spelling z ∷ []) (sym c.item-item.is) in
    let new = c.in_ok-push.ensures.ok in
    let digest : c.hash_item-digest.result ≡ leaf hash (n + length xs) (spelling item) = c.hash_item-digest.ensures ∙ ap (λ z. leaf hash z (spelling item)) (c.size.ensures.size ∙ size) in
    record {
      front = ap (λ x. x.front) new ∙ c.loop-item.invariant.front;
      pinned = ap (λ x. x.pinned) new ∙ c.loop-item.invariant.pinned;
      leaves = ap (λ x. x.leaves) new
          ∙ (ap (λ z. z ++ c.hash_item-digest.result ∷ []) c.loop-item.invariant.leaves
          ∙ (append_assoc old (leaves_from hash n xs) (c.hash_item-digest.result ∷ [])
          ∙ ap (λ z. old ++ z) (ap (λ z. leaves_from hash n xs ++ z ∷ []) digest
          ∙ (sym (leaves_from_one_more hash n xs (spelling item)) ∙ ap (leaves_from hash n) (sym more)))));
    }
