use Rattle.std.proofs.Common.{rules, ◌≡◌, ℕ, List, subst, [], ◌∷◌, codes}
use Rattle.std.specs.List.{concat}
use Rattle.ledger_program.specs.Writing.{Writes}
use Rattle.sync_program.specs.Text.{compact_text}
use Rattle.sync_program.proofs.text.write_compact.Goals as goal

pub returns : goal.returns
unfolding compact_text
returns g c =
    let p0 : c.as_slice.result.now ≡ codes "synced " = search rules in
    let p1 : c.as_bytes.result.now ≡ c.args.family.now = search rules in
    let p2 : c.as_slice-2.result.now ≡ codes " compact\nsize " = search rules in
    let p3 : c.as_slice-3.result.now ≡ codes "\nfloor " = search rules in
    let p4 : c.as_slice-4.result.now ≡ codes "\nroot " = search rules in
    let p5 : c.as_slice-5.result.now ≡ codes "\n" = search rules in
    subst (λ (t : List ℕ). Writes g.K.Sink.grows (g.K.Sink.written c.args.out.now) (g.K.Sink.written c.write_pieces.new.out) (g.K.Sink.faults c.args.out.now) (g.K.Sink.faults c.write_pieces.new.out) (concat (codes "synced " ∷ c.args.family.now ∷ codes " compact\nsize " ∷ c.args.size.now ∷ codes "\nfloor " ∷ c.args.floor.now ∷ codes "\nroot " ∷ c.args.digits.now ∷ t ∷ [])) c.write_pieces.result) p5
    (subst (λ (t : List ℕ). Writes g.K.Sink.grows (g.K.Sink.written c.args.out.now) (g.K.Sink.written c.write_pieces.new.out) (g.K.Sink.faults c.args.out.now) (g.K.Sink.faults c.write_pieces.new.out) (concat (codes "synced " ∷ c.args.family.now ∷ codes " compact\nsize " ∷ c.args.size.now ∷ codes "\nfloor " ∷ c.args.floor.now ∷ t ∷ c.args.digits.now ∷ c.as_slice-5.result.now ∷ [])) c.write_pieces.result) p4
    (subst (λ (t : List ℕ). Writes g.K.Sink.grows (g.K.Sink.written c.args.out.now) (g.K.Sink.written c.write_pieces.new.out) (g.K.Sink.faults c.args.out.now) (g.K.Sink.faults c.write_pieces.new.out) (concat (codes "synced " ∷ c.args.family.now ∷ codes " compact\nsize " ∷ c.args.size.now ∷ t ∷ c.args.floor.now ∷ c.as_slice-4.result.now ∷ c.args.digits.now ∷ c.as_slice-5.result.now ∷ [])) c.write_pieces.result) p3
    (subst (λ (t : List ℕ). Writes g.K.Sink.grows (g.K.Sink.written c.args.out.now) (g.K.Sink.written c.write_pieces.new.out) (g.K.Sink.faults c.args.out.now) (g.K.Sink.faults c.write_pieces.new.out) (concat (codes "synced " ∷ c.args.family.now ∷ t ∷ c.args.size.now ∷ c.as_slice-3.result.now ∷ c.args.floor.now ∷ c.as_slice-4.result.now ∷ c.args.digits.now ∷ c.as_slice-5.result.now ∷ [])) c.write_pieces.result) p2
    (subst (λ (t : List ℕ). Writes g.K.Sink.grows (g.K.Sink.written c.args.out.now) (g.K.Sink.written c.write_pieces.new.out) (g.K.Sink.faults c.args.out.now) (g.K.Sink.faults c.write_pieces.new.out) (concat (codes "synced " ∷ t ∷ c.as_slice-2.result.now ∷ c.args.size.now ∷ c.as_slice-3.result.now ∷ c.args.floor.now ∷ c.as_slice-4.result.now ∷ c.args.digits.now ∷ c.as_slice-5.result.now ∷ [])) c.write_pieces.result) p1
    (subst (λ (t : List ℕ). Writes g.K.Sink.grows (g.K.Sink.written c.args.out.now) (g.K.Sink.written c.write_pieces.new.out) (g.K.Sink.faults c.args.out.now) (g.K.Sink.faults c.write_pieces.new.out) (concat (t ∷ c.as_bytes.result.now ∷ c.as_slice-2.result.now ∷ c.args.size.now ∷ c.as_slice-3.result.now ∷ c.args.floor.now ∷ c.as_slice-4.result.now ∷ c.args.digits.now ∷ c.as_slice-5.result.now ∷ [])) c.write_pieces.result) p0
    c.write_pieces.ensures)))))
