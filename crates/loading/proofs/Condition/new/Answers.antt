-- GM and the transverse moment as they were made, and the heel and the pass by them. Assumes nothing.
use mathlib.Core.Path.{◌≡◌, ◌∙◌}
use Prim.Native.Nat.{◌+◌}
use Rattle.arithmetic.proofs.Crossing.{back, back_is}
use Rattle.loading.specs.Private.Steady.{gm_of, transverse_of}
use Rattle.loading.proofs.Made.{made}
use Rattle.loading.proofs.Condition.new.Goals as goal
use Rattle.loading.proofs.Condition.new.Goals.{After-gm_of-gm, After-less-transverse_moment}

gm_is : (c : After-gm_of-gm) → let s = c.args in back c.gm_of-gm.result ≡ gm_of s.floating.km (s.all.vertical + s.all.surface) s.all.weight
gm_is c = back_is (record { sfits = c.gm_of-gm.type_inv }) ∙ c.gm_of-gm.ensures

moment_is : (c : After-less-transverse_moment) → back c.less-transverse_moment.result ≡ transverse_of c.args.all
moment_is c = back_is (record { sfits = c.less-transverse_moment.type_inv }) ∙ c.less-transverse_moment.ensures

pub returns : goal.returns
returns c =
    let s = c.args in
    made s.all s.floating.draft s.floating.km (gm_is (goal.at.returns c).After-gm_of-gm) (moment_is (goal.at.returns c).After-less-transverse_moment) c.heel_of-heel.ensures c.passes.ensures
