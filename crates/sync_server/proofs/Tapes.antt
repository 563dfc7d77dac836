-- A tape moves on by the bytes that it gave.
use Rattle.std.proofs.Common.{◌≡◌, ℕ, ◌+◌, ◌-◌, min, Bool, List, ◌++◌, length, take, drop, Ok, refl, sym, ◌∙◌, length-drop}
use Rattle.std.proofs.Math.Seq.{take-add}
use Rattle.std.proofs.lemmas.List.{drop-drop}
use Rattle.sync_server.specs.Links.{CallsView, CutsView, next_cut, given_count, TapeView, ended_after, cut_more, called, TapeReceives}

-- a tape at a place of its bytes
abbrev pub tape_at : List ℕ → ℕ → Bool → List ℕ → CutsView → CallsView → TapeView
tape_at bytes at ended sent cuts calls = record { given = take at bytes; left = drop at bytes; ended = ended; sent = sent; cuts = cuts; calls = calls }

pub moves_on : (bytes sent buffer : List ℕ) (at n most room : ℕ) (ended now : Bool) (cuts more : CutsView) (calls one : CallsView)
    → n ≡ min most (min (length bytes - at) room) → most ≡ next_cut cuts → length buffer ≡ room → take n buffer ≡ take n (drop at bytes) → now ≡ ended_after ended n (length buffer) → more ≡ cut_more cuts → one ≡ called calls
    → TapeReceives (Ok n) buffer (tape_at bytes at ended sent cuts calls) (tape_at bytes (at + n) now sent more one)
moves_on bytes sent buffer at n most room ended now cuts more calls one e_n e_most e_room e_bytes e_now e_more e_one =
    let count : n ≡ given_count cuts (length (drop at bytes)) (length buffer) = e_n ∙ rw (e_most, e_room, length-drop at bytes) refl in
    let given : take (at + n) bytes ≡ take at bytes ++ take n (drop at bytes) = take-add at n bytes in
    let left : drop (at + n) bytes ≡ drop n (drop at bytes) = sym (drop-drop n at bytes) in
    (count, e_bytes, rw (given, left, e_now, e_more, e_one) refl)
