-- Hopper tanks: the refusals in their order, and a rectangle beside the condition's, from the theorems of the crates below.
--     in_order                "7 at 0 .., then 4 in order of p, q, h and density"
--     beside_condition        a rectangle as widths, beside the condition's
-- Assumes nothing.
use mathlib.Core.Path.{◌≡◌, refl, ap}
use mathlib.Core.Bool.{true}
use mathlib.Core.List.{List}
use Prim.Native.Nat.{ℕ, ◌+◌, ◌*◌, ◌^◌, ◌≤◌}
use lib.ListN.{length, replicate}
use Rattle.std.specs.Prelude.{Ok}
use Rattle.arithmetic.specs.Rounding.{rounded_up}
use Rattle.arithmetic.proofs.Choice.{chosen}
use Rattle.ranges.specs.Reasons.{paper}
use Rattle.hoppers.specs.Hopper.{MakesSurface}
use Rattle.hoppers.specs.declared.FreeSurface.{FreeSurface}
use Rattle.hoppers.proofs.Answered.{beside_answered}
use Rattle.hoppers.proofs.Order.{size_refused, port_refused, starboard_refused, interval_refused, density_refused, else_found}
use Rattle.loading.specs.Load.{Tank}
use Rattle.loading.specs.Paper.{slack, rectangle_parts, rectangle}
use Rattle.loading.specs.Rules.{surface_of}
use Rattle.demands.specs.Answering.{Answer}
use Rattle.demands.specs.HopperTanks.{Counted, InOrder}

counts : {port starboard : List ℕ} → Counted port starboard → (length port ≡ length starboard) × (3 ≤ length port) × (length port ≤ 11)
counts c = (c.as_many, c.enough, c.not_too_many)

pub in_order : {port starboard : List ℕ} {h density : ℕ} {answer : Answer FreeSurface} (made : MakesSurface port starboard h density answer) → InOrder made
in_order made = record {
  seven_at_0 = λ wrong. ap paper (size_refused made (λ c. wrong (record { as_many = c.0; enough = c.1; not_too_many = c.2 })));
  port_first = λ c i f. ap paper (port_refused made (counts c) i f.there f.above f.none_before);
  then_starboard = λ c p i f. ap paper (starboard_refused made (counts c) p i f.there f.above f.none_before);
  then_interval = λ c p q out. ap paper (interval_refused made (counts c) p q out);
  then_density = λ c p q h out. ap paper (density_refused made (counts c) p q h out);
  else_found = λ c p q h. else_found made (counts c) p q h;
}

-- the condition's free surface of a slack tank of this length, breadth and density
slack_surface : (t : Tank) (l b density : ℕ) → slack t ≡ true → t.length ≡ l → t.breadth ≡ b → t.density ≡ density → surface_of rectangle t ≡ rounded_up (l * b ^ 3 * density) 12_000_000_000
unfolding rectangle_parts
slack_surface t l b density is-slack e f g = rw (is-slack, e, f, g) (simp chosen refl)

pub beside_condition : (n p q : ℕ) {h density : ℕ} {s : FreeSurface} → MakesSurface (replicate (n + 1) p) (replicate (n + 1) q) h density (Ok s)
    → (t : Tank) → slack t ≡ true → t.length ≡ n * h → t.breadth ≡ p + q → t.density ≡ density
    → (surface_of rectangle t ≤ s.moment) × (s.moment ≤ surface_of rectangle t + 1)
beside_condition n p q {h} {density} made t is-slack e f g =
    rw (slack_surface t (n * h) (p + q) density is-slack e f g) (beside_answered n p q made)
