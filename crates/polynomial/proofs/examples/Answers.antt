use Rattle.polynomial.proofs.examples.Goals as goal
use Rattle.polynomial.proofs.Samples.{samples}

pub returns : goal.returns
returns c = samples
