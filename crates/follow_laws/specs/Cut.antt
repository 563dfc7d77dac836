-- A tape that gives one stream, however it is cut.
use Rattle.std.specs.Prelude.{◌≡◌, ℕ, true, List, [], ◌++◌}
use Rattle.sync_server.specs.Links.{TapeView}

-- the tape gave the beginning of the stream, and all of it where it gave the end
abbrev pub Gives : List ℕ → TapeView → Type 0
Gives stream tape = (tape.given ++ tape.left ≡ stream) × (tape.ended ≡ true → tape.left ≡ [])
