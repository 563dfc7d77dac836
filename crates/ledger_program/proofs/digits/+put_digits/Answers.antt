use Rattle.std.proofs.Common.{◌∙◌, ◌++◌, ◌<◌, ◌/◌, ◌+◌, ◌%◌, [], ◌∷◌, length, ap, sym, subst, arith}
use Rattle.std.specs.Fmt.{decimal}
use Rattle.std.proofs.lemmas.Fmt.{decimal_digit, decimal_step, length-decimal-le}
use Rattle.std.proofs.lemmas.List.{take_more_set, length_push}
use Rattle.ledger_program.proofs.digits.+put_digits.Goals as goal

pub returns-then-number-lt10-clause-count : goal.returns-then-number-lt10-clause-count
returns-then-number-lt10-clause-count k c = sym (ap length (decimal_digit c.args.number (omega arith)))

pub returns-then-number-lt10-clause-digits : goal.returns-then-number-lt10-clause-digits
returns-then-number-lt10-clause-digits k c = take_more_set c.args.out.now 0 (48 + c.args.number) (omega arith) ∙ sym (decimal_digit c.args.number (omega arith))

pub bounds-out-len : goal.bounds-out-len
bounds-out-len k c = subst (λ n. n < 20) (sym c.put_digits-len.ensures.count) (let small = length-decimal-le 19 (c.args.number / 10) (omega arith) (omega arith) (omega arith) in omega (arith, small))

pub returns-clause-count : goal.returns-clause-count
returns-clause-count k c = ap (λ n. n + 1) c.put_digits-len.ensures.count ∙ sym (ap length (decimal_step c.args.number (omega arith) (omega arith)) ∙ length_push (decimal (c.args.number / 10)) (48 + c.args.number % 10))

pub returns-clause-digits : goal.returns-clause-digits
returns-clause-digits k c =
    let within : c.put_digits-len.result < 20 = subst (λ n. n < 20) (sym c.put_digits-len.ensures.count) (let small = length-decimal-le 19 (c.args.number / 10) (omega arith) (omega arith) (omega arith) in omega (arith, small)) in
    take_more_set c.put_digits-len.new.out c.put_digits-len.result (48 + c.args.number % 10) (omega (arith, within, c.put_digits-len.array_long))
    ∙ ap (λ l. l ++ (48 + c.args.number % 10) ∷ []) c.put_digits-len.ensures.digits
    ∙ sym (decimal_step c.args.number (omega arith) (omega arith))
