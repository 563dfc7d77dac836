use Rattle.std.proofs.Common.{◌∙◌, arith}
use Rattle.follow_laws.proofs.tests.ends.end_of.Goals as goal

pub returns-in-Some : goal.returns-in-Some
returns-in-Some c = record {
  begins = c.in-Some.ensures.1;
  end = c.in-Some.ensures.2 ∙ c.size.ensures.size;
  most = let e = c.in-Some.ensures.2 in let m = c.size.ensures.most in let s = c.size.ensures.size in omega (arith, e, m, s);
  root = c.in-Some.ensures.0 ∙ c.root.ensures;
}
