use Rattle.std.proofs.Common.{◌∙◌, ap, refl, ◌∷◌, Some}
use Rattle.ledger_job.proofs.Fields.{taken, all_taken, said_by}
use Rattle.ledger_job.proofs.line.line_of_fields.Goals as goal

pub returns-in_err-word : goal.returns-in_err-word
returns-in_err-word c =
    said_by c.args.line.now _ _ (all_taken (Some c.args.line) c.next_part.new.left _ c.next_part.ensures c.in_err-word.was) c.from_residual.ensures

pub returns-in_default : goal.returns-in_default
returns-in_default c =
    let e0 = taken (Some c.args.line) c.next_part.new.left _ c.in_ok-word.word c.next_part.ensures c.in_ok-word.was in
    said_by c.args.line.now _ _ (e0 ∙ ap (λ l. c.in_ok-word.word.now ∷ l) (all_taken c.next_part.new.left c.next_part-2.new.left _ c.next_part-2.ensures c.in_default.is)) c.one_word.ensures

pub returns-in_err-second : goal.returns-in_err-second
returns-in_err-second c =
    let e0 = taken (Some c.args.line) c.next_part.new.left _ c.in_ok-word.word c.next_part.ensures c.in_ok-word.was in
    let e1 = taken c.next_part.new.left c.next_part-2.new.left _ c.in-Some.first c.next_part-2.ensures c.in-Some.is in
    said_by c.args.line.now _ _ (e0 ∙ ap (λ l. c.in_ok-word.word.now ∷ l) (e1 ∙ ap (λ l. c.in-Some.first.now ∷ l) (all_taken c.next_part-2.new.left c.next_part-3.new.left _ c.next_part-3.ensures c.in_err-second.was))) c.from_residual-in_err-second.ensures

pub returns-in_default-next_part : goal.returns-in_default-next_part
returns-in_default-next_part c =
    let e0 = taken (Some c.args.line) c.next_part.new.left _ c.in_ok-word.word c.next_part.ensures c.in_ok-word.was in
    let e1 = taken c.next_part.new.left c.next_part-2.new.left _ c.in-Some.first c.next_part-2.ensures c.in-Some.is in
    let e2 = taken c.next_part-2.new.left c.next_part-3.new.left _ c.in_ok-second.second c.next_part-3.ensures c.in_ok-second.was in
    said_by c.args.line.now _ _ (e0 ∙ ap (λ l. c.in_ok-word.word.now ∷ l) (e1 ∙ ap (λ l. c.in-Some.first.now ∷ l) (e2 ∙ ap (λ l. c.in_ok-second.second.now ∷ l) (all_taken c.next_part-3.new.left c.next_part-4.new.left _ c.next_part-4.ensures c.in_default-next_part.is)))) c.three_words.ensures

pub returns-in_default-next_part-2 : goal.returns-in_default-next_part-2
returns-in_default-next_part-2 c =
    let e0 = taken (Some c.args.line) c.next_part.new.left _ c.in_ok-word.word c.next_part.ensures c.in_ok-word.was in
    let e1 = taken c.next_part.new.left c.next_part-2.new.left _ c.in-Some.first c.next_part-2.ensures c.in-Some.is in
    let e2 = taken c.next_part-2.new.left c.next_part-3.new.left _ c.in_ok-second.second c.next_part-3.ensures c.in_ok-second.was in
    let e3 = taken c.next_part-3.new.left c.next_part-4.new.left _ c.in-Some-next_part.third c.next_part-4.ensures c.in-Some-next_part.is in
    said_by c.args.line.now _ _ (e0 ∙ ap (λ l. c.in_ok-word.word.now ∷ l) (e1 ∙ ap (λ l. c.in-Some.first.now ∷ l) (e2 ∙ ap (λ l. c.in_ok-second.second.now ∷ l) (e3 ∙ ap (λ l. c.in-Some-next_part.third.now ∷ l) (all_taken c.next_part-4.new.left c.next_part-5.new.left _ c.next_part-5.ensures c.in_default-next_part-2.is))))) c.four_words.ensures

pub returns-in-Some-next_part-3 : goal.returns-in-Some-next_part-3
returns-in-Some-next_part-3 c =
    let e0 = taken (Some c.args.line) c.next_part.new.left _ c.in_ok-word.word c.next_part.ensures c.in_ok-word.was in
    let e1 = taken c.next_part.new.left c.next_part-2.new.left _ c.in-Some.first c.next_part-2.ensures c.in-Some.is in
    let e2 = taken c.next_part-2.new.left c.next_part-3.new.left _ c.in_ok-second.second c.next_part-3.ensures c.in_ok-second.was in
    let e3 = taken c.next_part-3.new.left c.next_part-4.new.left _ c.in-Some-next_part.third c.next_part-4.ensures c.in-Some-next_part.is in
    let e4 = taken c.next_part-4.new.left c.next_part-5.new.left _ c.in-Some-next_part-2.fourth c.next_part-5.ensures c.in-Some-next_part-2.is in
    let e5 = taken c.next_part-5.new.left c.next_part-6.new.left _ c.in-Some-next_part-3.field-0 c.next_part-6.ensures c.in-Some-next_part-3.is in
    said_by c.args.line.now _ _ (e0 ∙ ap (λ l. c.in_ok-word.word.now ∷ l) (e1 ∙ ap (λ l. c.in-Some.first.now ∷ l) (e2 ∙ ap (λ l. c.in_ok-second.second.now ∷ l) (e3 ∙ ap (λ l. c.in-Some-next_part.third.now ∷ l) (e4 ∙ ap (λ l. c.in-Some-next_part-2.fourth.now ∷ l) (e5)))))) refl

pub returns-in-None : goal.returns-in-None
returns-in-None c =
    let e0 = taken (Some c.args.line) c.next_part.new.left _ c.in_ok-word.word c.next_part.ensures c.in_ok-word.was in
    let e1 = taken c.next_part.new.left c.next_part-2.new.left _ c.in-Some.first c.next_part-2.ensures c.in-Some.is in
    let e2 = taken c.next_part-2.new.left c.next_part-3.new.left _ c.in_ok-second.second c.next_part-3.ensures c.in_ok-second.was in
    let e3 = taken c.next_part-3.new.left c.next_part-4.new.left _ c.in-Some-next_part.third c.next_part-4.ensures c.in-Some-next_part.is in
    let e4 = taken c.next_part-4.new.left c.next_part-5.new.left _ c.in-Some-next_part-2.fourth c.next_part-5.ensures c.in-Some-next_part-2.is in
    said_by c.args.line.now _ _ (e0 ∙ ap (λ l. c.in_ok-word.word.now ∷ l) (e1 ∙ ap (λ l. c.in-Some.first.now ∷ l) (e2 ∙ ap (λ l. c.in_ok-second.second.now ∷ l) (e3 ∙ ap (λ l. c.in-Some-next_part.third.now ∷ l) (e4 ∙ ap (λ l. c.in-Some-next_part-2.fourth.now ∷ l) (all_taken c.next_part-5.new.left c.next_part-6.new.left _ c.next_part-6.ensures c.in-None.is)))))) c.five_words.ensures
