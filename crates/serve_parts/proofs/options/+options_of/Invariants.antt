use Rattle.std.proofs.Common.{length}
use Rattle.serve_parts.proofs.options.+options_of.Given as goal

-- the words that are left
abbrev pub decreases-options_of : goal.decreases-options_of
decreases-options_of l = length l.words.now
