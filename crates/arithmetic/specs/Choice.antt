-- Choice by a test, for definitions that go by tests: it stays shut, so that a proof rewrites the test and then opens it.
-- Its laws: `Choice` of proofs/.
use Rattle.std.specs.Prelude.{Bool, true, false}

infixr 10 when◌then◌else◌
unfoldable pub when◌then◌else◌ : {A : Type 0} → Bool → A → A → A
when true then a else b = a
when false then a else b = b
