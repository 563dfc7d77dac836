-- What a tape tells that gives one stream of bytes.
use Rattle.std.proofs.Common.{◌≡◌, ℕ, ◌<◌, Bool, true, false, ◌&&◌, nat_lt, List, [], ◌∷◌, ◌++◌, Some, refl, sym, ap}
use Rattle.std.proofs.lemmas.Bool.{ltb-true}
use Rattle.sync_server.specs.Links.{TapeView, tape_wire}
use Rattle.follow_laws.specs.Alike.{AreBytes, Tells}
use Rattle.follow_laws.specs.Cut.{Gives}

both : (a b : Bool) → (a && b) ≡ true → (a ≡ true) × (b ≡ true)
both true b e = (refl, e)
both false b e = absurd (cc e)

-- whether each number is below 256
unfoldable pub are_below : List ℕ → Bool
are_below [] = true
are_below (b ∷ bs) = nat_lt b 256 && are_below bs

pub bytes_of : (bs : List ℕ) → are_below bs ≡ true → AreBytes bs
unfolding are_below
bytes_of [] e = tt
bytes_of (b ∷ bs) e = let p = both (nat_lt b 256) (are_below bs) e in (ltb-true b 256 p.0, bytes_of bs p.1)

-- a tape that gave nothing before tells what it gives of the stream
pub tells : (stream : List ℕ) (old now : TapeView) → old.given ≡ [] → Gives stream now → Tells stream (Some (tape_wire old)) (Some (tape_wire now))
tells stream old now none h = record {
  was = tape_wire old;
  is = tape_wire now;
  given = now.given;
  more = now.left;
  before_is = refl;
  now_is = refl;
  grew = sym (ap (λ (xs : List ℕ). xs ++ now.given) none);
  all = sym h.0;
  whole = h.1;
}
