use Rattle.std.proofs.Common.{◌++◌, ◌∷◌, [], List, ℕ, Option, take, get_or, map, position, sym, ap, ◌∙◌, bytes_eq}
use Rattle.std.proofs.lemmas.List.{take_more, map-append}
use Rattle.ledger_settling.proofs.rounds.places_of.Goals as goal

pub loop-key-preserved : goal.loop-key-preserved
loop-key-preserved g c =
    let keys = c.args.keys.now in
    let i = c.loop-key.key-index in
    let key = get_or keys i [] in
    let F : List ℕ → Option ℕ = λ k. position (bytes_eq k) c.args.selection.now.0 in
    c.in_ok-push.ensures.items ∙ ap (λ x. c.loop-key.places.items ++ x ∷ []) c.place_of.ensures ∙ ap (λ xs. xs ++ F key ∷ []) c.loop-key.invariant
    ∙ sym (map-append F (take i keys) (key ∷ [])) ∙ ap (map F) (sym (take_more keys i [] c.loop-key-test.true))
