-- The quotient is no more than the moment, so that 64 bits hold the difference. Assumes nothing.
use native.Mathlib.Omega.{arith}
use Rattle.arithmetic.proofs.Rounding.{up_of, up_le}
use Rattle.loading.proofs.stability.gm_of.Goals as goal

pub less-requires : goal.less-requires
less-requires c = (omega arith, omega (arith, c.rounded_up.ensures, up_le (up_of c.args.moment c.args.weight (omega arith))))
