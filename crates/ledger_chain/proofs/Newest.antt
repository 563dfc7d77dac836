-- What is written and read last over lists that grow.
use Rattle.std.proofs.Common.{◌≡◌, ℕ, ◌+◌, ◌<◌, List, [], ◌∷◌, ◌++◌, length, take, get_or, Option, Some, None, refl, ap, ◌∙◌, sym, filter_map}
use Rattle.std.specs.List.{cons_option}
use Rattle.std.specs.Option.{option_or, option_map_or, option_to_list}
use Rattle.std.proofs.lemmas.List.{take_more, append-nil, append_assoc}
use Rattle.std.proofs.lemmas.List.Elements.{filter_map-append}
use Rattle.std.proofs.lemmas.List.Concat.{flat_map-append}
use Rattle.ledger_chain.specs.Chain.{LinkView, ops_of}
use Rattle.ledger_chain.specs.Writes.{Write, last_write, settled}
use Rattle.ledger_chain.proofs.Settled.{settled_then, last_write-append}

one_or_none : {T : Type 0} (o : Option T) → cons_option o [] ≡ option_to_list o
one_or_none None = refl
one_or_none (Some x) = refl

module _ {Op : Type 0} (write_of : Op → Option Write) where
  -- one operation more
  pub writes_more : (ops : List Op) (i : ℕ) (op : Op) (old new : List Write) → i < length ops → op ≡ get_or ops i op → old ≡ settled (filter_map write_of (take i ops))
      → new ≡ option_map_or (λ w. settled (old ++ w ∷ [])) (write_of op) old → new ≡ settled (filter_map write_of (take (i + 1) ops))
  writes_more ops i op old new h at was is =
      let xs = take i ops in
      is ∙ ap (λ (ws : List Write). option_map_or (λ w. settled (ws ++ w ∷ [])) (write_of op) ws) was
      ∙ settled_then (filter_map write_of xs) (write_of op)
      ∙ sym (ap (λ z. settled (filter_map write_of z)) (take_more ops i op h ∙ ap (λ x. xs ++ x ∷ []) (sym at))
      ∙ ap settled (filter_map-append write_of xs (op ∷ []) ∙ ap (λ z. filter_map write_of xs ++ z) (one_or_none (write_of op))))

  -- one batch more
  pub last_more : (key : List ℕ) (links : List (LinkView Op)) (i : ℕ) (link : LinkView Op) → i < length links → link ≡ get_or links i link
      → last_write key (filter_map write_of (ops_of (take (i + 1) links))) ≡ option_or (last_write key (filter_map write_of link.ops)) (last_write key (filter_map write_of (ops_of (take i links))))
  last_more key links i link h at =
      let xs = take i links in
      ap (λ z. last_write key (filter_map write_of (ops_of z))) (take_more links i link h ∙ ap (λ x. xs ++ x ∷ []) (sym at))
      ∙ ap (λ z. last_write key (filter_map write_of z)) (flat_map-append (λ (l : LinkView Op). l.ops) xs (link ∷ []) ∙ ap (λ z. ops_of xs ++ z) (append-nil link.ops))
      ∙ ap (last_write key) (filter_map-append write_of (ops_of xs) link.ops)
      ∙ last_write-append key (filter_map write_of (ops_of xs)) (filter_map write_of link.ops)

-- one write more of some
pub put_more : (old ws : List Write) (i : ℕ) (d : Write) (now new : List Write) → i < length ws → now ≡ settled (old ++ take i ws) → new ≡ settled (now ++ get_or ws i d ∷ []) →
    new ≡ settled (old ++ take (i + 1) ws)
put_more old ws i d now new h was is =
    is ∙ ap (λ z. settled (z ++ get_or ws i d ∷ [])) was ∙ settled_then (old ++ take i ws) (Some (get_or ws i d))
    ∙ ap settled (append_assoc old (take i ws) (get_or ws i d ∷ []) ∙ ap (λ z. old ++ z) (sym (take_more ws i d h)))
