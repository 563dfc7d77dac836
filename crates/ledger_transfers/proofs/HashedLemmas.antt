-- That bytes which are kept back are written as if each had been written alone.
use Rattle.std.proofs.Common.{◌≡◌, ℕ, ◌+◌, ◌<◌, List, [], ◌∷◌, ◌++◌, length, take, get_or, slice_set, refl, sym, ap, ◌∙◌, arith}
use Rattle.std.proofs.lemmas.List.{take_more, take_more_set, take_all, length-set}
use Rattle.std.proofs.lemmas.List.Sums.{fold-append}
use Rattle.std.specs.Hash.DefaultHasher.{write, write_byte}
use Rattle.std.specs.declared.hash.DefaultHasher.{DefaultHasher}

pub none_written : (s : DefaultHasher) → write s [] ≡ s
unfolding write
none_written s = refl

pub one_written : (s : DefaultHasher) (b : ℕ) → write s (b ∷ []) ≡ write_byte s b
unfolding write
one_written s b = refl

one_more : (s : DefaultHasher) (bs : List ℕ) (b : ℕ) → write s (bs ++ b ∷ []) ≡ write_byte (write s bs) b
unfolding write
one_more s bs b = fold-append write_byte s bs (b ∷ [])

-- one byte more is read
pub one_more_read : (s : DefaultHasher) (bs : List ℕ) (i : ℕ) → i < length bs → write s (take (i + 1) bs) ≡ write_byte (write s (take i bs)) (get_or bs i 0)
one_more_read s bs i l = ap (write s) (take_more bs i 0 l) ∙ one_more s (take i bs) (get_or bs i 0)

-- one byte more is kept back
pub one_more_kept : (s : DefaultHasher) (bs : List ℕ) (i b : ℕ) → i < length bs → write s (take (i + 1) (slice_set bs i b)) ≡ write_byte (write s (take i bs)) b
one_more_kept s bs i b l = ap (write s) (take_more_set bs i b l) ∙ one_more s (take i bs) b

-- the last place is filled, and all are written
pub all_written : (s : DefaultHasher) (bs : List ℕ) (i b n : ℕ) → length bs ≡ n → i + 1 ≡ n → write s (slice_set bs i b) ≡ write_byte (write s (take i bs)) b
all_written s bs i b n l at =
    let whole : take (i + 1) (slice_set bs i b) ≡ slice_set bs i b = take_all (i + 1) (slice_set bs i b) (omega (arith, l, at, length-set bs i b)) in
    ap (write s) (sym whole) ∙ one_more_kept s bs i b (omega (arith, l, at))
