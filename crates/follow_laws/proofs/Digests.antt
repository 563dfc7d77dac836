-- Digests that were seen one after another.
use Rattle.std.proofs.Common.{◌≡◌, ℕ, ◌+◌, ◌<◌, ◌≤◌, List, [], length, take, All, Some, sym, subst}
use Rattle.std.specs.Prelude.{slice_get, get_or}
use Rattle.std.proofs.lemmas.List.{take_more, take_all}
use Rattle.std.proofs.lemmas.List.Elements.{All-push}
use Rattle.std.proofs.lemmas.Option.{slice_get-get_or}

-- a digest of 32 bytes
abbrev pub Is32 : List ℕ → Type 0
Is32 digest = length digest ≡ 32

pub seen_more : (digests : List (List ℕ)) (i : ℕ) → i < length digests → All Is32 (take i digests) → ((digest : List ℕ) → slice_get digests i ≡ Some digest → length digest ≡ 32) → All Is32 (take (i + 1) digests)
seen_more digests i lt h k =
    subst (All Is32) (sym (take_more digests i [] lt)) (All-push Is32 (take i digests) (get_or digests i []) h (k (get_or digests i []) (slice_get-get_or digests i [] lt)))

pub seen_all : (digests : List (List ℕ)) (n : ℕ) → length digests ≤ n → All Is32 (take n digests) → All Is32 digests
seen_all digests n le h = subst (All Is32) (take_all n digests le) h
