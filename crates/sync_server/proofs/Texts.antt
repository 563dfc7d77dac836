-- A refusal's text is far shorter than a message may hold.
use Rattle.std.proofs.Common.{◌≡◌, ℕ, ◌^◌, ◌<◌, ◌≤◌, List, ◌++◌, length, sym, subst, arith, lit≤, length-append}
use Rattle.std.specs.Prelude.{codes}
use Rattle.std.specs.Fmt.{decimal}
use Rattle.sync_net.specs.declared.message.Message.{Message}
use Rattle.sync_net.specs.Messages.{MessageFits}
use Rattle.sync_net.specs.Core.{Refusal, refuse, empty_range, beyond_log}
use Rattle.sync_net.proofs.Limits.{decimal_few}

-- three short texts and two numbers
five_parts : (a b c : List ℕ) (m n : ℕ) → length a ≤ 100 → length b ≤ 100 → length c ≤ 100 → m < 2 ^ 64 → n < 2 ^ 64 → length ((((a ++ decimal m) ++ b) ++ decimal n) ++ c) ≤ 10485760
five_parts a b c m n x y z p q =
    let one = length-append (((a ++ decimal m) ++ b) ++ decimal n) c in
    let two = length-append ((a ++ decimal m) ++ b) (decimal n) in
    let three = length-append (a ++ decimal m) b in
    let four = length-append a (decimal m) in
    omega (arith, one, two, three, four, decimal_few m p, decimal_few n q)

-- the refusal of a message with such a text is within its limits
abbrev IsShort : Refusal → Type 0
IsShort refusal = length refusal.text ≤ 10485760

short_empty : (start count : ℕ) → start < 2 ^ 64 → count < 2 ^ 64 → IsShort (empty_range start count)
short_empty start count p q = five_parts (codes "invalid request: start_loc >= size (") (codes ") >= (") (codes ")") start count (lit≤ tt) (lit≤ tt) (lit≤ tt) p q

short_beyond : (start size : ℕ) → start < 2 ^ 64 → size < 2 ^ 64 → IsShort (beyond_log start size)
short_beyond start size p q = five_parts (codes "invalid request: start_loc (") (codes ") >= database size (") (codes ")") start size (lit≤ tt) (lit≤ tt) (lit≤ tt) p q

refused : {Op : Type 0} (m : Message Op) (number : ℕ) (refusal : Refusal) → m ≡ refuse number refusal → IsShort refusal → MessageFits (λ op. Unit {0}) m
refused {Op} m number refusal e short = subst (λ (x : Message Op). MessageFits (λ op. Unit {0}) x) (sym e) short

pub empty_fits : {Op : Type 0} (m : Message Op) (number start count : ℕ) (text : List ℕ) → m ≡ refuse number (record { code = (empty_range start count).code; text = text }) → text ≡ (empty_range start count).text → start < 2 ^ 64 → count < 2 ^ 64 → MessageFits (λ op. Unit {0}) m
empty_fits m number start count text e t p q = refused m number (record { code = (empty_range start count).code; text = text }) e (subst (λ (x : List ℕ). length x ≤ 10485760) (sym t) (short_empty start count p q))

pub beyond_fits : {Op : Type 0} (m : Message Op) (number start size : ℕ) (text : List ℕ) → m ≡ refuse number (record { code = (beyond_log start size).code; text = text }) → text ≡ (beyond_log start size).text → start < 2 ^ 64 → size < 2 ^ 64 → MessageFits (λ op. Unit {0}) m
beyond_fits m number start size text e t p q = refused m number (record { code = (beyond_log start size).code; text = text }) e (subst (λ (x : List ℕ). length x ≤ 10485760) (sym t) (short_beyond start size p q))
