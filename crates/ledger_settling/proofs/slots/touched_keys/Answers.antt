use Rattle.std.proofs.Common.{◌≡◌, ◌+◌, ◌++◌, ◌∷◌, [], take, sym, ap, ◌∙◌, map, bytes_eq}
use Rattle.std.proofs.lemmas.List.{take_more, take_all, map-append}
use Rattle.std.specs.Cmp.Lexicographic.{nat_list_eq_equiv}
use Rattle.indexmap.specs.IndexSet.{insert_key}
use Rattle.ledger_settling.specs.Blocks.{firsts}
use Rattle.ledger_settling.proofs.OutcomeLemmas.{firsts_push}
use Rattle.ledger_settling.proofs.slots.touched_keys.Goals as goal

pub loop-key-preserved : goal.loop-key-preserved
loop-key-preserved g c =
    let touched = c.args.touched.now in
    let i = c.loop-key.key-index in
    let t = c.loop-key-item.result in
    let more : take (i + 1) touched ≡ take i touched ++ t ∷ [] = take_more touched i t c.loop-key-test.true ∙ ap (λ y. take i touched ++ y ∷ []) (sym c.loop-key-item.is) in
    c.in_ok-insert.ensures.keys ∙ ap (λ xs. insert_key bytes_eq xs t.0) c.loop-key.invariant ∙ sym (firsts_push bytes_eq nat_list_eq_equiv (map (λ u. u.0) (take i touched)) t.0)
    ∙ ap (firsts bytes_eq) (sym (ap (map (λ u. u.0)) more ∙ map-append (λ u. u.0) (take i touched) (t ∷ [])))

pub returns : goal.returns
returns g c = c.loop-key.invariant ∙ ap (λ us. firsts bytes_eq (map (λ u. u.0) us)) (take_all c.loop-key.key-index c.args.touched.now c.loop-key-test.false)
